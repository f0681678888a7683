-- The unit's calls: what each does and answers, and what a list of calls does.
--
--   Call                  the calls, with their arguments; of its reply buffer a byte call holds the length
--   refusal_number        the number of a refusal
--   Answer                the length of the reply (0 for none, and for every other call) or a refusal; and the bytes of the reply
--   Outcome               the state after a call, and its answer
--   replied, without_reply, refused   a call that brings a reply; that returns 0; that is refused and changes nothing
--   judged_outcome h l x        a judged packet, replied to with the address bytes h and l
--   if_matching, if_addressed, packet_step   a packet: its address, the parts of what was listed, if it ended
--   heard_step            a byte at a port: the receiver goes on first, and then the packet that it ended is judged
--   byte_step, gap_step, hang_up_step   the calls of a port
--   unless_refused        a panel or user call
--   shortest_buffer       how long a reply buffer is at the least
--   step s c              the call c in the state s
--   next s c              the state after it
--   Event, event_at s c   a call with its answer
--   reply_in r xs         the bytes of the reply, by what a byte call returned and the buffer xs that came back
--   byte_event            a byte call, by what came back
--   along, ending         what each element of a list gives, and the state at its end
--   transcript s cs       the calls cs with their answers
--   final s cs            the state after them
--   Lent                  a call with its reply buffer, as it is lent: empty for every call but a byte
--   next_lent s l         the state after it
use Rattle.std.specs.Prelude.{ℕ, Bool, true, false, cond, List, [], ◌∷◌, length, take, Some, None, Ok, Err, Option, Result, nat_lt}
use Rattle.packets.specs.Address.{Parts, parts, matches}
use Rattle.packets.specs.Commands.{command_in}
use Rattle.packets.specs.Receiver.{idle, Packet, Heard, hear}
use Rattle.replies.specs.Replies.{reply_bytes}
use Rattle.rules.specs.declared.port.Port.{Port}
use Rattle.rules.specs.declared.refusal.Refusal.{Refusal}
use Rattle.rules.specs.declared.refusal.Refusal.TheVariants.{ShortBuffer, NoSuchPort, NoSuchOutput, NoSuchInput, KeypadLocked, OutputLocked, CannotBeMade, WrongUser}
use Rattle.rules.specs.PerPort.{port_of}
use Rattle.rules.specs.State.{State, port_at, with_port, with_receiver, with_login, with_user}
use Rattle.rules.specs.Switching.{do_set, do_lock, do_unlock}
use Rattle.rules.specs.Commands.{Judged, judged, reply_to}
use Rattle.rules.specs.Panel.{set_refusal, lock_refusal, unlock_refusal, user_refusal}

pub data Call : Type 0 where
  -- port, byte, length of the reply buffer
  byte : ℕ → ℕ → ℕ → Call
  -- port
  gap hang_up : ℕ → Call
  -- output, input
  panel_set panel_lock panel_unlock : ℕ → ℕ → Call
  -- number, name, password
  enter_user : ℕ → List ℕ → List ℕ → Call

abbrev pub refusal_number : Refusal → ℕ
refusal_number ShortBuffer = 1
refusal_number NoSuchPort = 2
refusal_number NoSuchOutput = 3
refusal_number NoSuchInput = 4
refusal_number KeypadLocked = 5
refusal_number OutputLocked = 6
refusal_number CannotBeMade = 7
refusal_number WrongUser = 8

pub record Answer : Type 0 where
  pub result : Result ℕ Refusal
  pub reply : List ℕ

pub record Outcome : Type 0 where
  pub next : State
  pub answer : Answer

abbrev pub replied : State → List ℕ → Outcome
replied s r = record { next = s; answer = record { result = Ok (length r); reply = r } }

abbrev pub without_reply : State → Outcome
without_reply s = record { next = s; answer = record { result = Ok 0; reply = [] } }

abbrev pub refused : State → Refusal → Outcome
refused s r = record { next = s; answer = record { result = Err r; reply = [] } }

-- ---- the calls of a port

abbrev pub judged_outcome : ℕ → ℕ → Judged → Outcome
judged_outcome h l x = replied x.next (reply_bytes h l (reply_to x.answer))

abbrev pub if_matching : Bool → State → Port → Packet → Parts → Outcome
if_matching false s p k a = without_reply s
if_matching true s p k a = judged_outcome a.high a.low (judged s p (command_in k a.body))

abbrev pub if_addressed : State → Port → Packet → Option Parts → Outcome
if_addressed s p k None = without_reply s
if_addressed s p k (Some a) = if_matching (matches s.address a.high a.low) s p k a

abbrev pub packet_step : State → Port → Option Packet → Outcome
packet_step s p None = without_reply s
packet_step s p (Some k) = if_addressed s p k (parts k.listed.items)

abbrev pub heard_step : State → Port → Heard → Outcome
heard_step s p x = packet_step (with_port p (with_receiver x.next (port_at s p)) s) p x.packet

abbrev pub byte_step : State → ℕ → Option Port → Outcome
byte_step s b None = refused s NoSuchPort
byte_step s b (Some p) = heard_step s p (hear (port_at s p).receiver b)

abbrev pub gap_step : State → Option Port → Outcome
gap_step s None = refused s NoSuchPort
gap_step s (Some p) = without_reply (with_port p (with_receiver idle (port_at s p)) s)

-- the queue and the flags are kept
abbrev pub hang_up_step : State → Option Port → Outcome
hang_up_step s None = refused s NoSuchPort
hang_up_step s (Some p) = without_reply (with_port p (with_receiver idle (with_login None (port_at s p))) s)

-- ---- all calls

abbrev pub unless_refused : State → Option Refusal → State → Outcome
unless_refused s None t = without_reply t
unless_refused s (Some r) t = refused s r

abbrev pub shortest_buffer : ℕ
shortest_buffer = 64

abbrev pub step : State → Call → Outcome
step s (byte n b room) = cond (nat_lt room shortest_buffer) (refused s ShortBuffer) (byte_step s b (port_of n))
step s (gap n) = gap_step s (port_of n)
step s (hang_up n) = hang_up_step s (port_of n)
step s (panel_set o i) = unless_refused s (set_refusal s o i) (do_set s o i)
step s (panel_lock o i) = unless_refused s (lock_refusal s o i) (do_lock s o i)
step s (panel_unlock o i) = unless_refused s (unlock_refusal s o i) (do_unlock s o)
step s (enter_user u n w) = unless_refused s (user_refusal u n w) (with_user u (record { name = n; password = w }) s)

abbrev pub next : State → Call → State
next s c = (step s c).next

pub record Event : Type 0 where
  pub call : Call
  pub answer : Answer

abbrev pub event_at : State → Call → Event
event_at s c = record { call = c; answer = (step s c).answer }

abbrev pub reply_in : Result ℕ Refusal → List ℕ → List ℕ
reply_in (Ok n) xs = take n xs
reply_in (Err r) xs = []

-- port, byte, what was returned, the buffer that came back
abbrev pub byte_event : ℕ → ℕ → Result ℕ Refusal → List ℕ → Event
byte_event n b r xs = record { call = byte n b (length xs); answer = record { result = r; reply = reply_in r xs } }

-- ---- lists of calls

module _ {S X E : Type 0} (gives : S → X → E) (goes_to : S → X → S) where
  unfoldable pub along : S → List X → List E
  along s [] = []
  along s (x ∷ xs) = gives s x ∷ along (goes_to s x) xs

module _ {S X : Type 0} (goes_to : S → X → S) where
  unfoldable pub ending : S → List X → S
  ending s [] = s
  ending s (x ∷ xs) = ending (goes_to s x) xs

abbrev pub transcript : State → List Call → List Event
transcript = along event_at next

abbrev pub final : State → List Call → State
final = ending next

-- ---- with their reply buffers

pub record Lent : Type 0 where
  pub call : Call
  pub buffer : List ℕ

abbrev pub next_lent : State → Lent → State
next_lent s l = next s l.call
