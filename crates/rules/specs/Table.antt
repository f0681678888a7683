-- What can be known of a port from outside, from calls and answers alone: its packets, and its table. Nothing here looks into
-- the unit. A history has its newest event first.
--
--   called_at p c r       what the call c does to the receiver r of the port p
--   unless_refused_by_number   a call that was refused by number does nothing
--   heard_at p e r        what the event e does to the receiver r of the port p
--   receiver_after p h    the receiver of the port p after the history h
--   packet_at p h e       the packet of the port p that the event e ended, after the history h
--   Asked, asked          what a command asks for: an input, the queue, a setting, a lock, an unlock, or none of these
--   command_if, command_of_parts, command_of   the command of a packet, if it is one
--   accepted_command p h e   the command of the port p's packet that e ended, if it was accepted
--   asked_by              what a command asks for, if there is one
--   accepted_at p h e     what the packet of the port p that e ended asked for, if it was accepted
--   Told, told            what an answer tells: an input, changes, or neither
--   told_by_reply, told_by, told_in   what a reply, bytes, an event tells
--   Table                 an input, or unknown, for each output
--   unknown               the table that knows nothing
--   entered, entered_all  a table with one input more; with all the inputs of a list of changes
--   with_input_told, with_queue_told, updated   a table after an answer to O or OS; to Q; to whatever was asked
--   table p h             the table of the port p after the history h
use Rattle.std.specs.Prelude.{ℕ, cond, List, [], ◌∷◌, length, Some, None, Ok, Err, Option, Result, ◌==◌, nat_le}
use Rattle.packets.specs.Address.{Parts, parts}
use Rattle.packets.specs.Commands.{Command, ask_flags, ask_version, lock_keypad, show_keypad, unlock_keypad, read_queue, lock_ethernet, ask_login, lock_output, set_output, unlock_output, ask_input, ask_status, unlock_ethernet, set_password, set_mask, log_in, command_in}
use Rattle.packets.specs.Receiver.{Receiver, idle, Packet, Heard, quiet, hear}
use Rattle.replies.specs.Replies.{Contents, keypad_locked, keypad_unlocked, output_locked, output_set, output_unlocked, ethernet_changed, mask_set, flags, version, keypad_state, feeding_input, status, changes, login, logged_in, Reply, ack, nak, Received, read_reply, begins_with_ack}
use Rattle.replies.specs.declared.change.Change.{Change}
use Rattle.packets.specs.declared.packet.PacketFault.{PacketFault}
use Rattle.replies.specs.declared.reply.ReadFault.{ReadFault}
use Rattle.rules.specs.declared.port.Port.{Port}
use Rattle.rules.specs.declared.refusal.Refusal.{Refusal}
use Rattle.rules.specs.PerPort.{number_of}
use Rattle.rules.specs.Calls.{Call, byte, gap, hang_up, panel_set, panel_lock, panel_unlock, enter_user, Event}

-- ---- packets

abbrev pub called_at : Port → Call → Receiver → Heard
called_at p (byte n b room) r = cond (number_of p == n) (hear r b) (quiet r)
called_at p (gap n) r = quiet (cond (number_of p == n) idle r)
called_at p (hang_up n) r = quiet (cond (number_of p == n) idle r)
called_at p (panel_set o i) r = quiet r
called_at p (panel_lock o i) r = quiet r
called_at p (panel_unlock o i) r = quiet r
called_at p (enter_user u n w) r = quiet r

abbrev pub unless_refused_by_number : Result ℕ Refusal → Receiver → Heard → Heard
unless_refused_by_number (Ok n) r x = x
unless_refused_by_number (Err f) r x = quiet r

abbrev pub heard_at : Port → Event → Receiver → Heard
heard_at p e r = unless_refused_by_number e.answer.result r (called_at p e.call r)

unfoldable pub receiver_after : Port → List Event → Receiver
receiver_after p [] = idle
receiver_after p (e ∷ h) = (heard_at p e (receiver_after p h)).next

abbrev pub packet_at : Port → List Event → Event → Option Packet
packet_at p h e = (heard_at p e (receiver_after p h)).packet

-- ---- what was asked for, and accepted

pub data Asked : Type 0 where
  -- O, OS: output
  the_input : ℕ → Asked
  -- Q
  the_queue : Asked
  -- S, L, U: output and input
  to_set to_lock to_unlock : ℕ → ℕ → Asked
  nothing : Asked

abbrev pub asked : Command → Asked
asked ask_flags = nothing
asked ask_version = nothing
asked lock_keypad = nothing
asked show_keypad = nothing
asked unlock_keypad = nothing
asked read_queue = the_queue
asked lock_ethernet = nothing
asked ask_login = nothing
asked (lock_output o i) = to_lock o i
asked (set_output o i) = to_set o i
asked (unlock_output o i) = to_unlock o i
asked (ask_input o) = the_input o
asked (ask_status o) = the_input o
asked (unlock_ethernet w) = nothing
asked (set_password w) = nothing
asked (set_mask g v o) = nothing
asked (log_in n w) = nothing

abbrev pub command_if : Result Command PacketFault → Option Command
command_if (Ok c) = Some c
command_if (Err f) = None

abbrev pub command_of_parts : Packet → Option Parts → Option Command
command_of_parts k None = None
command_of_parts k (Some a) = command_if (command_in k a.body)

abbrev pub command_of : Option Packet → Option Command
command_of None = None
command_of (Some k) = command_of_parts k (parts k.listed.items)

-- a packet is accepted if its reply begins with ACK
abbrev pub accepted_command : Port → List Event → Event → Option Command
accepted_command p h e = cond (begins_with_ack e.answer.reply) (command_of (packet_at p h e)) None

abbrev pub asked_by : Option Command → Asked
asked_by None = nothing
asked_by (Some c) = asked c

abbrev pub accepted_at : Port → List Event → Event → Asked
accepted_at p h e = asked_by (accepted_command p h e)

-- ---- what was told

pub data Told : Type 0 where
  the_input_is : ℕ → Told
  the_changes_are : List Change → Told
  neither : Told

abbrev pub told : Contents → Told
told keypad_locked = neither
told keypad_unlocked = neither
told output_locked = neither
told output_set = neither
told output_unlocked = neither
told ethernet_changed = neither
told mask_set = neither
told (flags e m v) = neither
told (version i o) = neither
told (keypad_state l) = neither
told (feeding_input i) = the_input_is i
told (status i l m) = the_input_is i
told (changes cs) = the_changes_are cs
told (login u g n) = neither
told (logged_in u g) = neither

abbrev pub told_by_reply : Reply → Told
told_by_reply (ack c) = told c
told_by_reply (nak x) = neither

abbrev pub told_by : Result Received ReadFault → Told
told_by (Ok r) = told_by_reply r.reply
told_by (Err f) = neither

abbrev pub told_in : Event → Told
told_in e = told_by (read_reply e.answer.reply)

-- ---- the table

abbrev pub Table : Type 0
Table = ℕ → Option ℕ

abbrev pub unknown : Table
unknown o = None

abbrev pub entered : Table → ℕ → ℕ → Table
entered t o i k = cond (k == o) (Some i) (t k)

abbrev pub entered_all : Table → List Change → Table
entered_all t [] = t
entered_all t (c ∷ cs) = entered_all (entered t c.output c.input) cs

-- O and OS set their output to the input replied
abbrev pub with_input_told : Table → ℕ → Told → Table
with_input_told t o (the_input_is i) = entered t o i
with_input_told t o (the_changes_are cs) = t
with_input_told t o neither = t

-- a Q answer of at most seven entries sets each entry's output, in order; one of eight makes every output unknown
abbrev pub with_queue_told : Table → Told → Table
with_queue_told t (the_input_is i) = t
with_queue_told t (the_changes_are cs) = cond (nat_le (length cs) 7) (entered_all t cs) unknown
with_queue_told t neither = t

abbrev pub updated : Table → Asked → Told → Table
updated t (the_input o) n = with_input_told t o n
updated t the_queue n = with_queue_told t n
updated t (to_set o i) n = t
updated t (to_lock o i) n = t
updated t (to_unlock o i) n = t
updated t nothing n = t

unfoldable pub table : Port → List Event → Table
table p [] = unknown
table p (e ∷ h) = updated (table p h) (accepted_at p h e) (told_in e)
