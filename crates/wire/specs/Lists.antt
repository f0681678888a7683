-- What a list of the code holds.
--
--   kept l   the elements that the list l keeps, and its mark
use Rattle.std.specs.Prelude.{ℕ}
use Rattle.wire.specs.Kept.{Kept, front}
use Rattle.wire.specs.declared.list.KeptList.{KeptList}

abbrev pub kept : {T : Type 0} {n : ℕ} → KeptList T n → Kept T
kept l = front l.cells l.used l.overrun
