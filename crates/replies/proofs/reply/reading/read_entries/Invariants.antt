-- The entries so far, and then those that are still to be read, are all the entries; none was too many.
use Rattle.std.proofs.Common.{◌≡◌, ◌-◌, false, length}
use Rattle.replies.specs.Queues.{queued}
use Rattle.replies.specs.Replies.{read_entries}
use Rattle.replies.proofs.Entries.{prefixed}
use Rattle.replies.proofs.reply.reading.read_entries.Given as goal

abbrev pub invariant-loop-read : goal.invariant-loop-read
invariant-loop-read l =
    (prefixed (queued l.queue).items (read_entries (l.n - l._read) l.rest) ≡ read_entries l.n l.s)
    × (length (queued l.queue).items ≡ l._read)
    × ((queued l.queue).overrun ≡ false)
