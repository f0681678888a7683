-- A range that holds its end yields the numbers from its start to its end.
use Rattle.std.proofs.Common.{◌≡◌, ℕ, zero, suc, ◌+◌, ◌-◌, Bool, true, false, arith, refl, ap, ◌∙◌}
use Rattle.std.specs.List.{range_with_len}
use Rattle.std.specs.Iterator.{AlwaysYields}
use Rattle.std.specs.Range.{range_inclusive_start, range_inclusive_end, range_inclusive_exhausted, range_inclusive_len, range_inclusive_left, range_inclusive_steps}
use Rattle.std.specs.declared.ops.RangeInclusive.{RangeInclusive}
use Rattle.std.proofs.lemmas.Iterator.{YieldsList}

abbrev gap : ℕ → ℕ → ℕ
gap x y = y - x

abbrev Next : ℕ → ℕ → Type 0
Next x y = y ≡ x + 1

has_more : (a b n : ℕ) (spent : Bool) → range_inclusive_len gap a b spent ≡ suc n → spent ≡ false
has_more a b n true e = absurd (omega (arith, e))
has_more a b n false e = refl

gives : (n a : ℕ) (s : RangeInclusive ℕ) → range_inclusive_left gap s ≡ n → (range_inclusive_exhausted s ≡ false → range_inclusive_start s ≡ a) → AlwaysYields (range_inclusive_steps gap Next) (λ x. x) s (range_with_len a n)
gives zero a s e f = λ x t p. omega (arith, p.1.1, e)
gives (suc n) a s e f =
    let here = f (has_more (range_inclusive_start s) (range_inclusive_end s) n (range_inclusive_exhausted s) e) in
    ((λ t p. omega (arith, p.1.0, e)), λ x t p. (p.1.0 ∙ here, gives n (a + 1) t (omega (arith, p.1.1, e)) (λ h. p.1.2 h ∙ ap (λ k. k + 1) here)))

pub YieldsList-from_range_inclusive : {s : RangeInclusive ℕ} (a b : ℕ) → range_inclusive_start s ≡ a → range_inclusive_end s ≡ b → range_inclusive_exhausted s ≡ false
    → YieldsList (range_inclusive_steps gap Next) (λ x. x) s (range_with_len a (range_inclusive_len gap a b false))
YieldsList-from_range_inclusive {s} a b start end more = record { runs = gives _ a s (λ i. range_inclusive_len gap (start i) (end i) (more i)) (λ _. start) }
