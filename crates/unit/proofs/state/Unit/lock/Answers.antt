-- The fabric routed, the lock was set, and what changed was noted.
use Rattle.std.proofs.Common.{◌≡◌, true, Option, sym, ap, ◌∙◌, rules}
use Rattle.fabric.specs.Meaning.{Meaning, routed}
use Rattle.fabric.proofs.Means.{after_made}
use Rattle.rules.specs.State.{with_fabric, with_lock}
use Rattle.rules.specs.Switching.{may_lock, do_lock}
use Rattle.unit.specs.declared.fault.SwitchFault.{SwitchFault}
use Rattle.unit.specs.Switches.{unless_found}
use Rattle.unit.specs.Units.{state_of, settled}
use Rattle.unit.proofs.Switches.{no_lock_fault}
use Rattle.unit.proofs.state.Unit.lock.Goals as goal

pub returns-clause-after : goal.returns-clause-after
returns-clause-after g c =
    let s = state_of g.F.Fabric.meaning c.args.self.now in
    let o = c.args.output in
    let i = c.args.input in
    let m = s.fabric in
    let made : m.makeable o i ≡ true = search rules in
    let may : may_lock s o i ≡ true = search rules in
    let routes : g.F.Fabric.meaning c.route.new.self ≡ routed m o i = c.route.ensures.after ∙ after_made m o i made in
    c.settle.ensures
    ∙ (λ j. settled (c.set_lock.ensures j) o (c.output_state-before.ensures.input j) (c.output_state-before.ensures.locked j))
    ∙ ap (λ (n : Meaning). settled (with_lock o true (with_fabric n s)) o (m.feeding o) (s.locks o)) routes
    ∙ ap (λ (f : Option SwitchFault). unless_found s f (do_lock s o i)) (sym (no_lock_fault s o i may made))
