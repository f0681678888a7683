-- One more pair of the plan, and its end.
use Rattle.std.proofs.Common.{◌≡◌, ℕ, ◌+◌, ◌≤◌, Bool, true, false, cond, is_ok, sym, ◌∙◌, subst, arith}
use Rattle.std.proofs.lemmas.List.{drop_all}
use Rattle.fabric.specs.Meaning.{Meaning}
use Rattle.fabric.specs.Laws.{LastAcceptedStays}
use Rattle.fabric.proofs.PlanLaws.{one_more, as_many_accepted, last_accepted}
use Rattle.fabric.proofs.plan.route_all.Goals.{then-is_ok, else-is_ok}
use Rattle.fabric.proofs.plan.route_all.Goals as goal

counting : (t : Bool) → (d n u v w : ℕ) → d ≤ n → d + u ≡ w → u ≡ cond t 1 0 + v → (d + cond t 1 0 ≤ n + 1) × (d + cond t 1 0 + v ≡ w)
counting true d n u v w l e f = (omega arith, omega arith)
counting false d n u v w l e f = (omega arith, omega arith)

pub loop-output-preserved : goal.loop-output-preserved
loop-output-preserved g c =
    let m = g.F.Fabric.meaning in
    let inv = c.loop-output.invariant in
    let turn = one_more c.args.plan.now c.loop-output.output-index c.loop-output-test.true (m c.loop-output.fabric) (m c.route.new.self)
    (g.met.F.Fabric.sound c.loop-output.fabric) c.route.result c.route.ensures.answer c.route.ensures.after in
    let count = counting (is_ok c.route.result) _ _ _ _ _ inv.0 inv.1 turn.0 in
    let done : c.if-is_ok.done ≡ c.loop-output.done + cond (is_ok c.route.result) 1 0 =
    elim c.if-is_ok.branch [
      | then-is_ok w ↦ rw (sym c.is_ok.ensures.value ∙ w.if-is_ok.true) w.done-is
      | else-is_ok w ↦ rw (sym c.is_ok.ensures.value ∙ w.if-is_ok.false) (omega (arith, w.done-is))
    ] in
    (rw done count.0, rw done count.1, sym turn.1 ∙ inv.2)

pub returns : goal.returns
returns g c =
    let m = g.F.Fabric.meaning in
    let none = drop_all c.loop-output.output-index c.args.plan.now c.loop-output-test.false in
    let counted = rw none at c.loop-output.invariant.1 in
    let changed = rw none at c.loop-output.invariant.2 in
    record {
      answer = omega (arith, counted);
      after = changed;
      count = as_many_accepted (m c.args.fabric.now) c.args.plan.now;
      law = subst (λ (end : Meaning). LastAcceptedStays (m c.args.fabric.now) c.args.plan.now end) (sym changed) (last_accepted (m c.args.fabric.now) c.args.plan.now);
    }
