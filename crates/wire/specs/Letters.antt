-- Bytes that are known by the letters with which they begin.
--
--   begins n xs     xs begins with the letters n
--   Row, row        letters, with what the bytes behind them say
--   looked_up       what the first row says whose letters some bytes begin with, or else what is given for none
use Rattle.std.specs.Prelude.{ℕ, Bool, true, false, cond, ◌&&◌, List, [], ◌∷◌, length, drop, ◌==◌}

abbrev pub begins : List ℕ → List ℕ → Bool
begins [] xs = true
begins (n ∷ ns) [] = false
begins (n ∷ ns) (x ∷ xs) = x == n && begins ns xs

pub record Row (V : Type 0) : Type 0 where
  pub letters : List ℕ
  pub says : List ℕ → V

abbrev pub row : {V : Type 0} → List ℕ → (List ℕ → V) → Row V
row ls f = record { letters = ls; says = f }

abbrev pub looked_up : {V : Type 0} → V → List (Row V) → List ℕ → V
looked_up none [] xs = none
looked_up none (r ∷ rs) xs = cond (begins r.letters xs) (r.says (drop (length r.letters) xs)) (looked_up none rs xs)
