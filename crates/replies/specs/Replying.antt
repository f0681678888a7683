-- What the replies of the code say.
--
--   reply_of r         what the reply r says
--   written_if h l r   the bytes of the reply r with the address bytes h and l, where its numbers fit their places
--   write_answer h l r the bytes of the reply r with the address bytes h and l, where its numbers fit their places; else a refusal
--   changes_of         the changes of a queue that was read, if one was
--   behind_entry       the bytes behind an entry of Q
--   put_if             k with a change of the output o put into it, if its input was read
--   entered_at         k with an entry put into it, if its output and its input were read
--   entered k xs       k with the entry at the front of xs put into it, if there is one
--   reply_if           a reply that was read, if one was
--   reply_result       a reply that was read, or why none was
--   received           the same with its address bytes
--   queue_marked       whether a queue that was read has an overrun mark
--   marked             whether the queue of a reply has one
--   marked_if          whether that of a reply that was read has one, if a reply was read
--   marked_result      the same, where a fault says why none was
--   received_marked    the same of a reply with its address bytes
--   IsReadAs o r       a reply that was read, if one was, is r, and its queue has no overrun mark
use Rattle.std.specs.Prelude.{◌≡◌, ℕ, Bool, false, cond, List, Some, None, Ok, Err, Option, Result}
use Rattle.wire.specs.Fields.{Field, read_number, then}
use Rattle.wire.specs.Kept.{Kept, put}
use Rattle.wire.specs.declared.list.KeptList.{KeptList}
use Rattle.replies.specs.declared.reply.Reply.{Reply as ReplyOfCode}
use Rattle.replies.specs.declared.reply.Reply.TheVariants.{Flags, Version, KeypadLocked, KeypadState, KeypadUnlocked, OutputLocked, FeedingInput, Status, Changes, OutputSet, OutputUnlocked, EthernetChanged, MaskSet, Login, LoggedIn, Refused}
use Rattle.replies.specs.declared.reply.Received.{Received as ReceivedOfCode}
use Rattle.replies.specs.declared.reply.ReadFault.{ReadFault}
use Rattle.replies.specs.declared.reply.WriteFault.{WriteFault}
use Rattle.replies.specs.declared.reply.WriteFault.TheVariants.{NumberTooLarge}
use Rattle.replies.specs.declared.change.Change.{Change}
use Rattle.replies.specs.Queues.{queued, most_queued, text}
use Rattle.replies.specs.Replies.{Reply, ack, nak, keypad_locked, keypad_unlocked, output_locked, output_set, output_unlocked, ethernet_changed, mask_set, flags, version, keypad_state, feeding_input, status, changes, login, logged_in, reply_bytes, Received, fits_reply}

abbrev pub reply_of : ReplyOfCode → Reply
reply_of (Flags e m v) = ack (flags e m v)
reply_of (Version i o) = ack (version i o)
reply_of KeypadLocked = ack keypad_locked
reply_of (KeypadState l) = ack (keypad_state l)
reply_of KeypadUnlocked = ack keypad_unlocked
reply_of OutputLocked = ack output_locked
reply_of (FeedingInput i) = ack (feeding_input i)
reply_of (Status i l m) = ack (status i l m)
reply_of (Changes q) = ack (changes (queued q).items)
reply_of OutputSet = ack output_set
reply_of OutputUnlocked = ack output_unlocked
reply_of EthernetChanged = ack ethernet_changed
reply_of MaskSet = ack mask_set
reply_of (Login u g n) = ack (login u g (text n))
reply_of (LoggedIn u g) = ack (logged_in u g)
reply_of (Refused x) = nak x

abbrev pub written_if : ℕ → ℕ → Reply → Option (List ℕ)
written_if h l r = cond (fits_reply r) (Some (reply_bytes h l r)) None

abbrev pub write_answer : ℕ → ℕ → Reply → Result (List ℕ) WriteFault
write_answer h l r = cond (fits_reply r) (Ok (reply_bytes h l r)) (Err NumberTooLarge)

abbrev pub changes_of : Option (KeptList Change 8) → Option (List Change)
changes_of None = None
changes_of (Some q) = Some (queued q).items

abbrev pub behind_entry : List ℕ → Option (List ℕ)
behind_entry xs = then (read_number xs) (λ o a. then (read_number a) (λ i b. Some b))

abbrev pub put_if : Kept Change → ℕ → Field ℕ → Kept Change
put_if k o None = k
put_if k o (Some p) = put most_queued k (record { output = o; input = p.0 })

abbrev pub entered_at : Kept Change → Field ℕ → Kept Change
entered_at k None = k
entered_at k (Some p) = put_if k p.0 (read_number p.1)

abbrev pub entered : Kept Change → List ℕ → Kept Change
entered k xs = entered_at k (read_number xs)

abbrev pub reply_if : Option ReplyOfCode → Option Reply
reply_if None = None
reply_if (Some r) = Some (reply_of r)

abbrev pub reply_result : Result ReplyOfCode ReadFault → Result Reply ReadFault
reply_result (Ok r) = Ok (reply_of r)
reply_result (Err f) = Err f

abbrev pub received : Result ReceivedOfCode ReadFault → Result Received ReadFault
received (Ok x) = Ok (record { high = x.address.high; low = x.address.low; reply = reply_of x.reply })
received (Err f) = Err f

abbrev pub queue_marked : Option (KeptList Change 8) → Bool
queue_marked None = false
queue_marked (Some q) = (queued q).overrun

abbrev pub marked : ReplyOfCode → Bool
marked (Flags e m v) = false
marked (Version i o) = false
marked KeypadLocked = false
marked (KeypadState l) = false
marked KeypadUnlocked = false
marked OutputLocked = false
marked (FeedingInput i) = false
marked (Status i l m) = false
marked (Changes q) = (queued q).overrun
marked OutputSet = false
marked OutputUnlocked = false
marked EthernetChanged = false
marked MaskSet = false
marked (Login u g n) = false
marked (LoggedIn u g) = false
marked (Refused x) = false

abbrev pub marked_if : Option ReplyOfCode → Bool
marked_if None = false
marked_if (Some r) = marked r

abbrev pub marked_result : Result ReplyOfCode ReadFault → Bool
marked_result (Ok r) = marked r
marked_result (Err f) = false

abbrev pub received_marked : Result ReceivedOfCode ReadFault → Bool
received_marked (Ok x) = marked x.reply
received_marked (Err f) = false

abbrev pub IsReadAs : Option ReplyOfCode → Option Reply → Type 0
IsReadAs o r = (reply_if o ≡ r) × (marked_if o ≡ false)
