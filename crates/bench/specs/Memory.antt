-- The outcome that the rules do not decide: whether there is memory.
--
--   UnlessOutOfMemory r P      P of the value in r; where memory was short, r is an AllocError, which holds nothing
use Rattle.std.specs.declared.alloc.AllocError.{AllocError}
use Rattle.std.specs.Prelude.{Result}
use Rattle.std.specs.Result.{IfOk}

abbrev pub UnlessOutOfMemory : {X : Type 0} → Result X AllocError → (X → Type 0) → Type 0
UnlessOutOfMemory = IfOk
