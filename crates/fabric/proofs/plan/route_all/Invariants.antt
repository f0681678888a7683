-- What is left of the plan gives, from here, what the whole plan gives from the start.
use Rattle.std.proofs.Common.{◌≡◌, ◌+◌, ◌≤◌, drop}
use Rattle.fabric.specs.Plans.{accepted, after_all}
use Rattle.fabric.proofs.plan.route_all.Given as goal

abbrev pub invariant-loop-output : goal.invariant-loop-output
invariant-loop-output g l =
    let m = g.F.Fabric.meaning in
    (l.done ≤ l.output-index) × (l.done + accepted (m l.fabric) (drop l.output-index l.plan) ≡ accepted (m l.initial.fabric) l.plan)
    × (after_all (m l.fabric) (drop l.output-index l.plan) ≡ after_all (m l.initial.fabric) l.plan)
