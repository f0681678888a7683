-- The calls are those of the pairs so far.
use Rattle.std.proofs.Common.{◌≡◌, map, take, vec_items}
use Rattle.calls.specs.Listed.{shown}
use Rattle.bench.proofs.Pairs.{listed}
use Rattle.bench.proofs.session.calls_in.Given as goal

abbrev pub invariant-loop-first : goal.invariant-loop-first
invariant-loop-first l = map shown (vec_items l.calls) ≡ listed (take l.first-index l.pairs)
