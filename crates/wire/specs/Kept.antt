-- A list that keeps the first n elements put into it, in order, and marks an overrun when one more comes.
--
--   Kept E              such a list: the elements that it keeps, and the mark
--   empty               no element and no mark
--   put n k x           k after x was put into it, where n are kept
--   put_all n k xs      k after all of xs were put into it, in order
--   firsts n xs         the first n of xs, marked exactly if there are more
--   front xs u v        the first u of the places xs, with the mark v
--   placed xs u x       the places xs after x came to the first u of them: written behind these, if there is room
--   counted xs u v      how many of the places xs are used then, and the mark, where u were used with the mark v
--   placed_all xs ys    the places xs after all of ys came, in order, from the first place on
--   counted_all xs ys   how many of the places xs are used then, and the mark
--   KeepsTheFirst E     an empty list into which xs are put holds the first n of xs, marked exactly if there were more
use Rattle.std.specs.Prelude.{◌≡◌, ℕ, ◌+◌, min, Bool, true, false, cond, List, [], ◌∷◌, ◌++◌, length, take, drop, nat_lt, slice_set}

pub record Kept (E : Type 0) : Type 0 where
  pub items : List E
  pub overrun : Bool

module _ {E : Type 0} where
  abbrev pub empty : Kept E
  empty = record { items = []; overrun = false }

  abbrev pub put : ℕ → Kept E → E → Kept E
  put n k x = cond (nat_lt (length k.items) n) (record { items = k.items ++ x ∷ []; overrun = k.overrun }) (record { items = k.items; overrun = true })

  abbrev pub put_all : ℕ → Kept E → List E → Kept E
  put_all n k [] = k
  put_all n k (x ∷ xs) = put_all n (put n k x) xs

  abbrev pub firsts : ℕ → List E → Kept E
  firsts n xs = record { items = take n xs; overrun = nat_lt n (length xs) }

  abbrev pub front : List E → ℕ → Bool → Kept E
  front xs used marked = record { items = take used xs; overrun = marked }

  abbrev pub placed : List E → ℕ → E → List E
  placed xs used x = cond (nat_lt used (length xs)) (slice_set xs used x) xs

  abbrev pub counted : List E → ℕ → Bool → ℕ × Bool
  counted xs used marked = cond (nat_lt used (length xs)) (used + 1, marked) (used, true)

  abbrev pub placed_all : List E → List E → List E
  placed_all xs ys = take (length xs) ys ++ drop (length ys) xs

  abbrev pub counted_all : List E → List E → ℕ × Bool
  counted_all xs ys = (min (length xs) (length ys), nat_lt (length xs) (length ys))

abbrev pub KeepsTheFirst : Type 0 → Type 0
KeepsTheFirst E = (n : ℕ) (xs : List E) → put_all n empty xs ≡ firsts n xs
