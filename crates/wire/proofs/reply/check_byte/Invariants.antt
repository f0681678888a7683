-- The check byte so far is that of the bytes so far.
use Rattle.std.proofs.Common.{◌≡◌, take}
use Rattle.wire.specs.Frames.{check_byte}
use Rattle.wire.proofs.reply.check_byte.Given as goal

abbrev pub invariant-loop-b : goal.invariant-loop-b
invariant-loop-b l = l.check ≡ check_byte (take l.b-index l.bytes)
