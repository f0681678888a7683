-- The output is the lines of the calls so far.
use Rattle.std.proofs.Common.{◌≡◌, take, vec_items}
use Rattle.calls.specs.Listed.{events}
use Rattle.bench.specs.Sessions.{lines_of}
use Rattle.bench.proofs.session.lines.Given as goal

abbrev pub invariant-loop-listed : goal.invariant-loop-listed
invariant-loop-listed l = vec_items l.output ≡ lines_of (events (take l.listed-index l.calls))
