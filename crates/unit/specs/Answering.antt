-- What the unit's commands of the code answer.
--
--   reply_of_result r        the reply that says what a command returned
--   Carried s p c x t     what a method did that carries out the command c at the port p: answer, state afterwards, and that the reply can be written
--   JudgedSo s p r x t    the same of a packet in which r was read
--   fits_command c        the password of ELP has at most ten bytes
--   fits_outcome r        so has that of a command that was read
use Rattle.std.specs.Prelude.{◌≡◌, Bool, true, length, Ok, Err, Result, nat_le}
use Rattle.packets.specs.declared.packet.PacketFault.{PacketFault}
use Rattle.packets.specs.Commands.{Command, ask_flags, ask_version, lock_keypad, show_keypad, unlock_keypad, read_queue, lock_ethernet, ask_login, lock_output, set_output, unlock_output, ask_input, ask_status, unlock_ethernet, set_password, set_mask, log_in}
use Rattle.replies.specs.Replies.{Reply, nak, Fits}
use Rattle.replies.specs.Replying.{reply_of}
use Rattle.replies.specs.declared.reply.Reply.{Reply as ReplyOfCode}
use Rattle.rules.specs.declared.fault.CommandFault.{CommandFault}
use Rattle.rules.specs.declared.port.Port.{Port}
use Rattle.rules.specs.State.{State}
use Rattle.rules.specs.Commands.{letter, reply_to, carried_out, judged}

abbrev pub reply_of_result : Result ReplyOfCode CommandFault → Reply
reply_of_result (Ok r) = reply_of r
reply_of_result (Err f) = nak (letter f)

-- s and t are the states before and after, x is what was returned
pub record Carried (s : State) (p : Port) (c : Command) (x : Result ReplyOfCode CommandFault) (t : State) : Type 0 where
  pub answer : reply_of_result x ≡ reply_to (carried_out s p c).answer
  pub after : t ≡ (carried_out s p c).next
  pub fits : Fits (reply_of_result x)

pub record JudgedSo (s : State) (p : Port) (r : Result Command PacketFault) (x : Result ReplyOfCode CommandFault) (t : State) : Type 0 where
  pub answer : reply_of_result x ≡ reply_to (judged s p r).answer
  pub after : t ≡ (judged s p r).next
  pub fits : Fits (reply_of_result x)

abbrev pub fits_command : Command → Bool
fits_command ask_flags = true
fits_command ask_version = true
fits_command lock_keypad = true
fits_command show_keypad = true
fits_command unlock_keypad = true
fits_command read_queue = true
fits_command lock_ethernet = true
fits_command ask_login = true
fits_command (lock_output o i) = true
fits_command (set_output o i) = true
fits_command (unlock_output o i) = true
fits_command (ask_input o) = true
fits_command (ask_status o) = true
fits_command (unlock_ethernet w) = true
fits_command (set_password w) = nat_le (length w) 10
fits_command (set_mask g v o) = true
fits_command (log_in n w) = true

abbrev pub fits_outcome : Result Command PacketFault → Bool
fits_outcome (Ok c) = fits_command c
fits_outcome (Err f) = true
