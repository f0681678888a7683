-- The changes that are handed out are small, as the record says.
use Rattle.std.proofs.Common.{sym, subst, arith}
use Rattle.std.proofs.lemmas.List.{length-take}
use Rattle.replies.specs.declared.change.Change.{Change}
use Rattle.wire.specs.declared.list.KeptList.{KeptList}
use Rattle.replies.specs.Queues.{queued}
use Rattle.replies.specs.Replies.{changes, FitsContents}
use Rattle.records.proofs.Small.{each_small}
use Rattle.records.proofs.record.PortRecord.take_queue.Goals as goal

pub returns-clause-fits : goal.returns-clause-fits
returns-clause-fits c =
    let s = c.self.inside in
    subst (λ (q : KeptList Change 8). FitsContents (changes (queued q).items)) (sym c.replace.ensures.value) (
      omega (arith, length-take s.queue.used s.queue.cells, s.queue.within),
      each_small (queued s.queue).items c.self.invariant.0,
    )
