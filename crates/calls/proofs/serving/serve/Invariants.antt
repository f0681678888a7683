-- The calls so far show what the rules say, and the unit is where the rest goes on from.
use Rattle.rules.specs.Calls.{next_lent}
use Rattle.rules.proofs.Lists.{WholeRun}
use Rattle.unit.specs.Units.{state_of}
use Rattle.calls.specs.Listed.{shown_at, shown, lent}
use Rattle.calls.proofs.serving.serve.Given as goal

abbrev pub invariant-loop-listed : goal.invariant-loop-listed
invariant-loop-listed g l =
    let m = g.F.Fabric.meaning in
    WholeRun shown_at next_lent lent shown (state_of m l.initial.unit) l.initial.listed-items l.listed-index (state_of m l.unit) l.listed-items
