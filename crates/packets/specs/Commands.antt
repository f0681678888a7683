-- The commands, and which command a packet is.
--
--   Command        the seventeen commands, with their fields
--   fault_letter   the letter that is sent back for a packet that is no command
--   with_data      a command of some data; or that the data are wrong
--   bare           a command without data
--   rows           the letters of the commands, the longer before the shorter, each with what the bytes behind them say
--   decode         the command that a body is; or that none is listed, or that its data are wrong
--   command_in     the command of a packet with that body; before all else its check byte has to be right and its list not overrun
use Rattle.std.specs.Prelude.{ℕ, cond, List, [], ◌∷◌, Some, None, Ok, Err, codes, Option, Result}
use Rattle.wire.specs.Fields.{ended, short_text}
use Rattle.wire.specs.Letters.{Row, row, looked_up}
use Rattle.packets.specs.declared.packet.PacketFault.{PacketFault}
use Rattle.packets.specs.declared.packet.PacketFault.TheVariants.{WrongCheckByte, ListOverrun, Unlisted, WrongData}
use Rattle.packets.specs.Receiver.{Packet}
use Rattle.packets.specs.Data.{one_number, two_numbers, mask_data, login_data}

pub data Command : Type 0 where
  -- C, F, KL, KS, KU, Q, ELE, ZC
  ask_flags ask_version lock_keypad show_keypad unlock_keypad read_queue lock_ethernet ask_login : Command
  -- L, S, U: output and input
  lock_output set_output unlock_output : ℕ → ℕ → Command
  -- O, OS: output
  ask_input ask_status : ℕ → Command
  -- ELD, ELP: password
  unlock_ethernet set_password : List ℕ → Command
  -- ZA: group, bit, output
  set_mask : ℕ → ℕ → ℕ → Command
  -- ZI: name, password
  log_in : List ℕ → List ℕ → Command

abbrev pub fault_letter : PacketFault → ℕ
fault_letter WrongCheckByte = 0x78
fault_letter ListOverrun = 0x69
fault_letter Unlisted = 0x63
fault_letter WrongData = 0x69

abbrev pub with_data : {D : Type 0} → (D → Command) → Option D → Result Command PacketFault
with_data c None = Err WrongData
with_data c (Some d) = Ok (c d)

abbrev pub bare : Command → List ℕ → Result Command PacketFault
bare c xs = with_data (λ x. x) (ended c xs)

abbrev pub rows : List (Row (Result Command PacketFault))
rows =
    row (codes "ELD") (λ xs. with_data unlock_ethernet (short_text xs))
    ∷ row (codes "ELE") (bare lock_ethernet)
    ∷ row (codes "ELP") (λ xs. with_data set_password (short_text xs))
    ∷ row (codes "KL") (bare lock_keypad)
    ∷ row (codes "KS") (bare show_keypad)
    ∷ row (codes "KU") (bare unlock_keypad)
    ∷ row (codes "OS") (λ xs. with_data ask_status (one_number xs))
    ∷ row (codes "ZA") (λ xs. with_data (λ d. set_mask d.0 d.1 d.2) (mask_data xs))
    ∷ row (codes "ZC") (bare ask_login)
    ∷ row (codes "ZI") (λ xs. with_data (λ d. log_in d.0 d.1) (login_data xs))
    ∷ row (codes "C") (bare ask_flags)
    ∷ row (codes "F") (bare ask_version)
    ∷ row (codes "L") (λ xs. with_data (λ d. lock_output d.0 d.1) (two_numbers xs))
    ∷ row (codes "O") (λ xs. with_data ask_input (one_number xs))
    ∷ row (codes "Q") (bare read_queue)
    ∷ row (codes "S") (λ xs. with_data (λ d. set_output d.0 d.1) (two_numbers xs))
    ∷ row (codes "U") (λ xs. with_data (λ d. unlock_output d.0 d.1) (two_numbers xs))
    ∷ []

abbrev pub decode : List ℕ → Result Command PacketFault
decode body = looked_up (Err Unlisted) rows body

abbrev pub command_in : Packet → List ℕ → Result Command PacketFault
command_in k body = cond k.right (cond k.listed.overrun (Err ListOverrun) (decode body)) (Err WrongCheckByte)
