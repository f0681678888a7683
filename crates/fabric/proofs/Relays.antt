-- Powers of two, bit by bit: the lowest bit that is set, and one more bit set.
use Rattle.std.proofs.Common.{◌≡◌, ℕ, ◌/◌, ◌%◌, ◌^◌, ◌<◌, false, refl, cond, ◌||◌, eqb, inl, inr, arith, pow_pos}
use Rattle.std.specs.Int.{w16}
use Rattle.std.specs.Int.Bits.{bit_or}
use Rattle.std.specs.Int.Count.{count_trailing_zeros}
use Rattle.std.proofs.lemmas.Bool.{cases_eq, eq-eqb}
use Rattle.std.proofs.lemmas.Bool.Decides.{nat_tests}
use Rattle.std.proofs.lemmas.Nat.{pow_below}
use Rattle.std.proofs.lemmas.Nat.Bits.{bit_at_or, bit_at-lt, bit_at-pow_same, bit_at-pow_other, bit_at-trailing_zeros}

-- the lowest set bit of a power of two
pub lowest : (k : ℕ) → k < 16 → count_trailing_zeros 16 (2 ^ k) ≡ k
lowest k h =
    let found = bit_at-trailing_zeros w16 (2 ^ k) (pow_pos k) (pow_below k 16 h) in
    elim (cases_eq (count_trailing_zeros 16 (2 ^ k)) k) [
      | inl same ↦ same
      | inr apart ↦ absurd (omega (arith, found.1, bit_at-pow_other k (count_trailing_zeros 16 (2 ^ k)) apart))
    ]

-- a bit of a power of two
pub digit : (p q : ℕ) → 2 ^ p / 2 ^ q % 2 ≡ cond (eqb p q) 1 0
digit p q =
    elim (cases_eq q p) [
      | inl same ↦ rw (same, eq-eqb p p refl) (bit_at-pow_same p)
      | inr apart ↦ let differ : eqb p q ≡ false = grind (arith, nat_tests) in rw differ (bit_at-pow_other p q apart)
    ]

-- a bit of a number in which one more is set
pub digit_set : (b p q : ℕ) → eqb (bit_or b (2 ^ p) / 2 ^ q % 2) 1 ≡ (eqb (b / 2 ^ q % 2) 1 || eqb p q)
digit_set b p q = grind (arith, nat_tests, bit_at_or b (2 ^ p) q, bit_at-lt b q, digit p q)
