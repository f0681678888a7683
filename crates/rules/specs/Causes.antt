-- The causes that refuse a command, as one table: which checks each command has, and the order in which all checks are made.
--
--   Checks                whether a command passes each check, in the order in which they are made; a check that it does not have is passed
--   is_free s p           the Ethernet lock does not stop the port p
--   ethernet_alone        a command that is asked for the Ethernet lock alone
--   with_range            a command that is asked for its range, and then for the Ethernet lock
--   checks s p c          the checks of the command c at the port p
--   first_cause c x       the first check that is not passed
--   CausesRunDownTheTable       a command is refused by the first check of the table that it does not pass
use Rattle.std.specs.Prelude.{◌≡◌, Bool, true, not, ◌&&◌, [], ◌∷◌, Option}
use Rattle.wire.specs.Fields.{same_bytes}
use Rattle.fabric.specs.Meaning.{within}
use Rattle.packets.specs.Commands.{Command, ask_flags, ask_version, lock_keypad, show_keypad, unlock_keypad, read_queue, lock_ethernet, ask_login, lock_output, set_output, unlock_output, ask_input, ask_status, unlock_ethernet, set_password, set_mask, log_in}
use Rattle.rules.specs.declared.fault.CommandFault.{CommandFault}
use Rattle.rules.specs.declared.fault.CommandFault.TheVariants.{OutOfRange, WrongPassword, EthernetLocked, NoRight, OutputLocked, CannotBeMade}
use Rattle.rules.specs.declared.port.Port.{Port}
use Rattle.rules.specs.PerPort.{is_ethernet}
use Rattle.rules.specs.State.{State, port_at}
use Rattle.rules.specs.Switching.{in_range, may_set, may_lock, can_be_made, unless, first_of}
use Rattle.rules.specs.Commands.{first_letter, may_switch, mask_in_range, is_logged_in_as, is_found, user_with, fault_of}

pub record Checks : Type 0 where
  pub range : Bool
  pub password : Bool
  pub ethernet : Bool
  pub right : Bool
  pub lock : Bool
  pub pair : Bool

abbrev pub is_free : State → Port → Bool
is_free s p = not (s.ethernet && is_ethernet p)

abbrev pub ethernet_alone : State → Port → Checks
ethernet_alone s p = record { range = true; password = true; ethernet = is_free s p; right = true; lock = true; pair = true }

abbrev pub with_range : State → Port → Bool → Checks
with_range s p b = record { range = b; password = true; ethernet = is_free s p; right = true; lock = true; pair = true }

abbrev pub checks : State → Port → Command → Checks
checks s p ask_flags = ethernet_alone s p
checks s p ask_version = ethernet_alone s p
checks s p lock_keypad = ethernet_alone s p
checks s p show_keypad = ethernet_alone s p
checks s p unlock_keypad = ethernet_alone s p
checks s p read_queue = ethernet_alone s p
checks s p lock_ethernet = ethernet_alone s p
checks s p ask_login = ethernet_alone s p
checks s p (lock_output o i) = record { range = in_range s o i; password = true; ethernet = is_free s p; right = may_switch s p o; lock = may_lock s o i; pair = can_be_made s o i }
checks s p (set_output o i) = record { range = in_range s o i; password = true; ethernet = is_free s p; right = may_switch s p o; lock = may_set s o; pair = can_be_made s o i }
checks s p (unlock_output o i) = record { range = in_range s o i; password = true; ethernet = is_free s p; right = may_switch s p o; lock = true; pair = true }
checks s p (ask_input o) = with_range s p (within o s.fabric.outputs)
checks s p (ask_status o) = with_range s p (within o s.fabric.outputs)
checks s p (unlock_ethernet w) = record { range = true; password = same_bytes w s.password; ethernet = true; right = true; lock = true; pair = true }
checks s p (set_password w) = ethernet_alone s p
checks s p (set_mask g v o) = record { range = mask_in_range s g v o; password = true; ethernet = is_free s p; right = is_logged_in_as 1 (port_at s p).login; lock = true; pair = true }
checks s p (log_in n w) = record { range = true; password = true; ethernet = is_free s p; right = is_found (user_with s.users n w); lock = true; pair = true }

abbrev pub first_cause : Command → Checks → Option CommandFault
first_cause c x =
    first_of (unless x.range OutOfRange ∷ unless x.password WrongPassword ∷ unless x.ethernet (EthernetLocked (first_letter c)) ∷ unless x.right NoRight ∷ unless x.lock OutputLocked ∷ unless x.pair CannotBeMade ∷ [])

abbrev pub CausesRunDownTheTable : Type 0
CausesRunDownTheTable = (s : State) (p : Port) (c : Command) → fault_of s p c ≡ first_cause c (checks s p c)
