-- Behind the port's digit stand the bytes so far.
use Rattle.std.proofs.Common.{◌≡◌, ◌+◌, ◌∷◌, take, vec_items}
use Rattle.rules.specs.PerPort.{number_of}
use Rattle.bench.specs.Lines.{spaced}
use Rattle.bench.proofs.line.reply_line.Given as goal

abbrev pub invariant-loop-b : goal.invariant-loop-b
invariant-loop-b l = vec_items l.line ≡ (0x30 + number_of l.fn.port) ∷ spaced (take l.b-index l.reply)
