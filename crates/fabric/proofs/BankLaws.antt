-- What the rows of a bank mean, at the start and after one of them is written.
use Rattle.std.proofs.Common.{◌≡◌, ℕ, ◌-◌, ◌/◌, ◌^◌, ◌<◌, ◌≤◌, Bool, true, false, cond, not, ◌&&◌, eqb, List, length, get_or, set, replicate, sym, refl, ap, ◌∙◌, inl, inr, arith, pow_pos}
use Rattle.std.proofs.lemmas.Bool.Decides.{nat_tests}
use Rattle.std.proofs.lemmas.List.{get_or-set_same, get_or-set_other, get_or-replicate}
use Rattle.std.proofs.lemmas.Bool.{cases_eq}
use Rattle.fabric.specs.declared.bank.row.RelayRow.{RelayRow}
use Rattle.fabric.specs.Meaning.{within, routed}
use Rattle.fabric.specs.Cards.{started}
use Rattle.fabric.specs.Banks.{no_relays, row_of, bank_of, without, closed, is_on, OneClosed, AllClosed, AllOnFirst}
use Rattle.fabric.specs.Laws.{OnlyTheFeedingRelayIsClosed}
use Rattle.fabric.proofs.Relays.{lowest, digit, digit_set}
use Rattle.fabric.proofs.Means.{same_meaning}
use native.Mathlib.Nat.{div-eq_of_lt}
use lib.Bits.{bit_or}

-- a row with one relay
module _ (j : ℕ) (inside : within j 16 ≡ true) where
  pub closed_pow : closed (2 ^ (j - 1)) ≡ j
  closed_pow =
      let low : 1 ≤ j = grind (arith, nat_tests) in
      let high : j ≤ 16 = grind (arith, nat_tests) in
      omega (arith, lowest (j - 1) (omega arith))

  pub only_closed : OneClosed j (2 ^ (j - 1))
  only_closed = (ap (λ x. 2 ^ (x - 1)) (sym closed_pow), omega (arith, closed_pow))

-- which relays of a row are closed
one_on : (row : ℕ) → row ≡ 2 ^ (closed row - 1) → (j : ℕ) → 1 ≤ j → is_on row j ≡ eqb j (closed row)
one_on row e j h = ap (λ x. is_on x j) e ∙ grind (arith, nat_tests, digit (closed row - 1) (j - 1))

none_on : (j : ℕ) → is_on 0 j ≡ false
none_on j = let none : 0 / 2 ^ (j - 1) ≡ 0 = div-eq_of_lt (pow_pos (j - 1)) in rw none

-- a row closed
module _ (i o : ℕ) (rows : List RelayRow) (k : ℕ) (inside : within k o ≡ true) (long : o ≤ length rows) (row : ℕ) where
  abbrev closing : RelayRow
  closing = record { closed = row; bad = (row_of rows k).bad }

  pub bank_routed : bank_of i o (set rows (k - 1) closing) ≡ routed (bank_of i o rows) k (closed row)
  bank_routed =
      same_meaning (bank_of i o (set rows (k - 1) closing)) (routed (bank_of i o rows) k (closed row)) refl refl
      (λ x. grind (arith, nat_tests, get_or-set_same, get_or-set_other))
      (λ x y. grind (arith, nat_tests, get_or-set_same, get_or-set_other))

module _ (i o : ℕ) (rows : List RelayRow) (k : ℕ) where
  pub row_closed : within k o ≡ true → AllClosed i o rows → OnlyTheFeedingRelayIsClosed (bank_of i o rows) k (row_of rows k).closed
  row_closed inside one j h =
      let lt : k - 1 < o = grind (arith, nat_tests) in
      rw inside (one_on (row_of rows k).closed (one (k - 1) lt).0 j h)

-- a relay marked bad
module _ (i o : ℕ) (rows : List RelayRow) (long : o ≤ length rows) (k j : ℕ) (inside : (within k o && within j i) ≡ true) where
  abbrev marking : RelayRow
  marking = record { closed = (row_of rows k).closed; bad = bit_or (row_of rows k).bad (2 ^ (j - 1)) }

  same_closed : (x : ℕ) → (get_or (set rows (k - 1) marking) x no_relays).closed ≡ (get_or rows x no_relays).closed
  same_closed x = grind (arith, nat_tests, get_or-set_same, get_or-set_other, cases_eq x (k - 1))

  unmarked_at : (x y : ℕ) (w : Bool) → (within x o && within y i) ≡ w →
      (w && not (is_on (row_of (set rows (k - 1) marking) x).bad y)) ≡ ((w && not (is_on (row_of rows x).bad y)) && not (eqb x k && eqb y j))
  unmarked_at x y false e = refl
  unmarked_at x y true e =
      let lt : k - 1 < length rows = grind (arith, nat_tests) in
      elim (cases_eq x k) [
        | inl same ↦
            let here : row_of (set rows (k - 1) marking) x ≡ marking = rw same (get_or-set_same rows (k - 1) marking no_relays lt) in
            rw (here, same) (grind (arith, nat_tests, digit_set (row_of rows k).bad (j - 1) (y - 1)))
        | inr apart ↦
            let there : x - 1 ≡ k - 1 → ⊥ = λ q. grind (arith, nat_tests) in
            rw (get_or-set_other rows (k - 1) (x - 1) marking no_relays there) (grind (arith, nat_tests))
      ]

  pub bank_without : bank_of i o (set rows (k - 1) marking) ≡ without (bank_of i o rows) k j
  bank_without =
      same_meaning (bank_of i o (set rows (k - 1) marking)) (without (bank_of i o rows) k j) refl refl
      (λ x. ap (λ row. cond (within x o) (closed row) 0) (same_closed (x - 1)))
      (λ x y. unmarked_at x y (within x o && within y i) refl)

-- a bank at its start
module _ (i o : ℕ) (some : 1 ≤ i) (few : o ≤ 16) where
  abbrev start : RelayRow
  start = record { closed = 1; bad = 0 }

  started_at : (k : ℕ) → k < 16 → get_or (replicate 16 start) k no_relays ≡ start
  started_at k h = get_or-replicate 16 k start no_relays h

  pub start_closed : AllClosed i o (replicate 16 start)
  start_closed x h = let l : x < 16 = omega arith in rw (started_at x l) ((only_closed 1 refl).0, omega (arith, closed_pow 1 refl))

  pub start_on_first : AllOnFirst o (replicate 16 start)
  start_on_first x h = let l : x < 16 = omega arith in rw (started_at x l) (closed_pow 1 refl)

  start_fed : (x : ℕ) (w : Bool) → within x o ≡ w → cond w (closed (row_of (replicate 16 start) x).closed) 0 ≡ cond w 1 0
  start_fed x true e = rw (started_at (x - 1) (grind (arith, nat_tests))) (closed_pow 1 refl)
  start_fed x false e = refl

  start_made : (x y : ℕ) (w : Bool) → within x o ≡ w → ((w && within y i) && not (is_on (row_of (replicate 16 start) x).bad y)) ≡ (w && within y i)
  start_made x y true e = rw (started_at (x - 1) (grind (arith, nat_tests)), none_on y) (grind (arith, nat_tests))
  start_made x y false e = refl

  pub start_means : bank_of i o (replicate 16 start) ≡ started i o
  start_means =
      same_meaning (bank_of i o (replicate 16 start)) (started i o) refl refl
      (λ x. start_fed x (within x o) refl)
      (λ x y. start_made x y (within x o) refl)
