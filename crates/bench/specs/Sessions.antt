-- What is printed for an input of pairs, each a port and a byte.
--
--   is_from_to a z n   n is from a to z, both included
--   pair_call f b      the call of the pair f b: 01 to 03 is the byte b at port 1 to 3, 11 to 13 a gap there; none for another f
--   calls_of xs        the calls of all pairs of xs, in order; an odd last byte is dropped
--   new_buffer c       the reply buffer that a call is given: as long as it says, of zeros
--   not_made c         the call c with its new buffer, before it is made
--   line_at p r        the line of the reply r at the port p; nothing without a port or a reply
--   line_for c r       the line of the reply r to the call c: only a byte call has one
--   line_of e          the line of an event
--   lines_of es        the lines of all events, in order
--   printed_for xs     what is printed for the input xs: the lines of its calls, made to a unit at address 00 over a card of eight
--                      by eight, access control off
--   WorkedPrint        the packet with Q at port 1 prints its reply
use Rattle.std.specs.Prelude.{◌≡◌, ℕ, ◌-◌, Bool, false, cond, ◌&&◌, List, [], ◌∷◌, ◌++◌, replicate, Some, None, codes, Option, nat_le}
use Rattle.std.specs.List.{flat_map}
use Rattle.std.specs.Option.{option_to_list}
use Rattle.fabric.specs.Cards.{new_card}
use Rattle.rules.specs.declared.port.Port.{Port}
use Rattle.rules.specs.PerPort.{port_of, number_of}
use Rattle.rules.specs.State.{service}
use Rattle.rules.specs.Calls.{Call, byte, gap, hang_up, panel_set, panel_lock, panel_unlock, enter_user, shortest_buffer, Event, along, transcript}
use Rattle.calls.specs.Listed.{Shown}
use Rattle.bench.specs.Lines.{reply_line}

abbrev pub is_from_to : ℕ → ℕ → ℕ → Bool
is_from_to a z n = nat_le a n && nat_le n z

abbrev pub pair_call : ℕ → ℕ → Option Call
pair_call f b = cond (is_from_to 0x01 0x03 f) (Some (byte f b shortest_buffer)) (cond (is_from_to 0x11 0x13 f) (Some (gap (f - 0x10))) None)

abbrev pub calls_of : List ℕ → List Call
calls_of [] = []
calls_of (f ∷ []) = []
calls_of (f ∷ b ∷ rest) = option_to_list (pair_call f b) ++ calls_of rest

abbrev pub new_buffer : Call → List ℕ
new_buffer (byte n b room) = replicate room 0
new_buffer (gap n) = []
new_buffer (hang_up n) = []
new_buffer (panel_set o i) = []
new_buffer (panel_lock o i) = []
new_buffer (panel_unlock o i) = []
new_buffer (enter_user u n w) = []

abbrev pub not_made : Call → Shown
not_made c = record { call = c; answer = None; buffer = new_buffer c }

abbrev pub line_at : Option Port → List ℕ → List ℕ
line_at None r = []
line_at (Some p) [] = []
line_at (Some p) (b ∷ bs) = reply_line (number_of p) (b ∷ bs)

abbrev pub line_for : Call → List ℕ → List ℕ
line_for (byte n b room) r = line_at (port_of n) r
line_for (gap n) r = []
line_for (hang_up n) r = []
line_for (panel_set o i) r = []
line_for (panel_lock o i) r = []
line_for (panel_unlock o i) r = []
line_for (enter_user u n w) r = []

abbrev pub line_of : Event → List ℕ
line_of e = line_for e.call e.answer.reply

abbrev pub lines_of : List Event → List ℕ
lines_of = flat_map line_of

unfoldable pub printed_for : List ℕ → List ℕ
unfolding along
printed_for xs = lines_of (transcript (service 0x00 false (new_card 8 8)) (calls_of xs))

abbrev pub WorkedPrint : Type 0
WorkedPrint = printed_for (0x01 ∷ 0x02 ∷ 0x01 ∷ 0x30 ∷ 0x01 ∷ 0x30 ∷ 0x01 ∷ 0x51 ∷ 0x01 ∷ 0x03 ∷ 0x01 ∷ 0x50 ∷ []) ≡ codes "1 06 30 30 51 30 03 64" ++ 0x0A ∷ []
