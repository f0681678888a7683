use Rattle.std.proofs.Common.{false, unwrap_or, refl, ap, ◌∙◌}
use Rattle.records.proofs.Cells.{filled_read}
use Rattle.records.proofs.locks.Locks.new.Goals as goal

pub returns : goal.returns
returns c = ap (λ t o. unwrap_or (t o) false) c.of.ensures ∙ filled_read 256 false (λ v. unwrap_or v false) false refl refl
