-- The changes stay small, since only a small one is put.
use Rattle.std.proofs.Common.{sym, ap, ◌∙◌}
use Rattle.wire.specs.Kept.{Kept}
use Rattle.replies.specs.declared.change.Change.{Change}
use Rattle.replies.specs.Queues.{queued, most_queued}
use Rattle.replies.specs.Replies.{all_small}
use Rattle.records.proofs.Small.{change_small, small_put}
use Rattle.records.proofs.record.PortRecord.note.Goals as goal

pub invariant_of-self : goal.invariant_of-self
invariant_of-self c =
    let s = c.self.inside in
    let small = change_small c.args.change (sym c.is_small.ensures ∙ c.if-is_small.true) in
    (ap (λ (k : Kept Change). all_small k.items) c.put.ensures ∙ small_put c.args.change small most_queued (queued s.queue) c.self.invariant.0, c.self.invariant.1)
