-- Two meanings are one where their four parts are; what a routing answers where its pair can and cannot be made.
use Rattle.std.specs.Prelude.{◌≡◌, ℕ, ◌≤◌, Bool, true, false, is_ok, Result, refl}
use Rattle.std.proofs.Common.{sym, ap, ◌∙◌, arith}
use Rattle.std.proofs.lemmas.Bool.Decides.{nat_tests}
use Rattle.fabric.specs.declared.fault.RouteFault.{RouteFault}
use Rattle.fabric.specs.Meaning.{most_inputs, Meaning, Sound, within, routed, after, answer}

pub same_meaning : (a b : Meaning) → a.inputs ≡ b.inputs → a.outputs ≡ b.outputs → ((k : ℕ) → a.feeding k ≡ b.feeding k) → ((k j : ℕ) → a.makeable k j ≡ b.makeable k j) → a ≡ b
same_meaning a b p q f m = λ t. record { inputs = p t; outputs = q t; feeding = λ k. f k t; makeable = λ k j. m k j t }

pub within_le : (k n : ℕ) → within k n ≡ true → k ≤ n
within_le k n h = grind (arith, nat_tests)

pub few_feeding : (m : Meaning) → Sound m → (o : ℕ) → m.feeding o ≤ most_inputs
few_feeding m s o = few (within o m.outputs) refl
  where
    few : (w : Bool) → within o m.outputs ≡ w → m.feeding o ≤ most_inputs
    few true e = omega (arith, within_le (m.feeding o) m.inputs (s.fed o e), s.few_inputs)
    few false e = omega (arith, s.unfed o e)

module _ (m : Meaning) (o i : ℕ) where
  pub after_made : m.makeable o i ≡ true → after m o i ≡ routed m o i
  after_made e = rw e

  pub after_refused : m.makeable o i ≡ false → after m o i ≡ m
  after_refused e = rw e

  -- by what a routing answers, whether its pair can be made
  pub made_by_answer : Sound m → {r : Result (Unit {0}) RouteFault} → r ≡ answer m o i → m.makeable o i ≡ is_ok r
  made_by_answer s e = sym (ok_when (m.makeable o i) refl) ∙ ap is_ok (sym e)
    where
      ok_when : (t : Bool) → m.makeable o i ≡ t → is_ok (answer m o i) ≡ t
      ok_when true h = rw (s.made_within o i h, h)
      ok_when false h = grind (arith, nat_tests)
