use Rattle.std.proofs.Common.{false, unwrap_or, Some, ap, ◌∙◌}
use Rattle.records.specs.Tables.{value_at}
use Rattle.records.proofs.Cells.{put_read}
use Rattle.records.proofs.locks.Locks.set.Goals as goal

pub returns : goal.returns
returns c = ap (λ t o. unwrap_or (t o) false) c.set.ensures ∙ put_read 256 (value_at c.args.self.now.locked) c.args.output (Some c.args.locked) (λ v. unwrap_or v false)
