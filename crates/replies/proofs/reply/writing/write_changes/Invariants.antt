-- The draft holds the letter, the count and the entries so far, and these fit their places.
use Rattle.std.proofs.Common.{◌≡◌, length, take}
use Rattle.std.specs.List.{AllByRecursion}
use Rattle.replies.specs.Replies.{SmallChange}
use Rattle.replies.proofs.Entries.{entries_frame}
use Rattle.replies.proofs.reply.writing.write_changes.Given as goal

abbrev pub invariant-loop-change : goal.invariant-loop-change
invariant-loop-change l =
    (l.draft ≡ entries_frame l.fn.address.high l.fn.address.low (length l.changes) (take l.change-index l.changes))
    × AllByRecursion SmallChange (take l.change-index l.changes)
