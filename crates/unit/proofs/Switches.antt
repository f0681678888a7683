-- A lock that nothing refuses; and the outputs of a fabric, which are among those that are kept.
use Rattle.std.proofs.Common.{◌≡◌, ℕ, true, [], ◌∷◌, None, arith}
use Rattle.std.proofs.lemmas.Bool.Decides.{nat_tests}
use Rattle.fabric.specs.Meaning.{Meaning, Sound, within}
use Rattle.fabric.specs.declared.fault.RouteFault.TheVariants.{CannotBeMade}
use Rattle.rules.specs.State.{State}
use Rattle.rules.specs.Switching.{may_lock, can_be_made, unless, first_of}
use Rattle.unit.specs.declared.fault.SwitchFault.TheVariants.{OutputLocked, Route}
use Rattle.unit.specs.Switches.{locking_fault}

pub no_lock_fault : (s : State) (o i : ℕ) → may_lock s o i ≡ true → can_be_made s o i ≡ true → locking_fault s o i ≡ None
no_lock_fault s o i may made = λ j. first_of (unless (may j) OutputLocked ∷ unless (made j) (Route CannotBeMade) ∷ [])

pub output_kept : (m : Meaning) → Sound m → (o : ℕ) → within o m.outputs ≡ true → within o 256 ≡ true
output_kept m sound o e = let few = sound.few_outputs in grind (arith, nat_tests)
