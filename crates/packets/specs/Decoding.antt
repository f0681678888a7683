-- What the commands, and the readers of their data, of the code hold.
--
--   two_parts   two parts of a packet, if they were read
--   command c   a command
--   outcome r   a command, or the fault of the packet
use Rattle.std.specs.Prelude.{ℕ, List, Some, None, Ok, Err, Option, Result}
use Rattle.std.specs.Borrow.{Bor}
use Rattle.packets.specs.declared.packet.PacketFault.{PacketFault}
use Rattle.packets.specs.declared.command.Command.{Command as CommandOfCode}
use Rattle.packets.specs.declared.command.Command.TheVariants.{AskFlags, AskVersion, LockKeypad, ShowKeypad, UnlockKeypad, LockOutput, AskInput, AskStatus, ReadQueue, SetOutput, UnlockOutput, UnlockEthernet, LockEthernet, SetPassword, SetMask, AskLogin, LogIn}
use Rattle.packets.specs.Commands.{Command, ask_flags, ask_version, lock_keypad, show_keypad, unlock_keypad, read_queue, lock_ethernet, ask_login, lock_output, set_output, unlock_output, ask_input, ask_status, unlock_ethernet, set_password, set_mask, log_in}

abbrev pub two_parts : Option (Bor (List ℕ) × Bor (List ℕ)) → Option (List ℕ × List ℕ)
two_parts None = None
two_parts (Some p) = Some (p.0.now, p.1.now)

abbrev pub command : CommandOfCode → Command
command AskFlags = ask_flags
command AskVersion = ask_version
command LockKeypad = lock_keypad
command ShowKeypad = show_keypad
command UnlockKeypad = unlock_keypad
command (LockOutput o i) = lock_output o i
command (AskInput o) = ask_input o
command (AskStatus o) = ask_status o
command ReadQueue = read_queue
command (SetOutput o i) = set_output o i
command (UnlockOutput o i) = unlock_output o i
command (UnlockEthernet w) = unlock_ethernet w.now
command LockEthernet = lock_ethernet
command (SetPassword w) = set_password w.now
command (SetMask g v o) = set_mask g v o
command AskLogin = ask_login
command (LogIn n w) = log_in n.now w.now

abbrev pub outcome : Result CommandOfCode PacketFault → Result Command PacketFault
outcome (Ok c) = Ok (command c)
outcome (Err f) = Err f
