-- What a change queue and a short text of the code hold.
--
--   most_queued   how many changes a queue keeps
--   queued q      the changes that the queue q keeps, and its mark
--   text t        the bytes of the short text t
use Rattle.std.specs.Prelude.{ℕ, List}
use Rattle.wire.specs.Kept.{Kept}
use Rattle.wire.specs.Lists.{kept}
use Rattle.wire.specs.declared.list.KeptList.{KeptList}
use Rattle.replies.specs.declared.change.Change.{Change}
use Rattle.replies.specs.declared.text.ShortText.{ShortText}

abbrev pub most_queued : ℕ
most_queued = 8

abbrev pub queued : KeptList Change 8 → Kept Change
queued = kept

abbrev pub text : ShortText → List ℕ
text t = (kept t.bytes).items
