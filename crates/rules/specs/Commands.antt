-- What a command does at a port: the cause that refuses it, or its effect and its answer.
--
--   letter               the letter that is sent back for a cause
--   first_letter         the first of a command's letters
--   is_user, first_user, user_numbers, user_with   the smallest user with a name and a password
--   is_logged_in_as u    the login is of user u
--   group_bit s o        the group of a login has its bit set at output o
--   may_switch s p o     the port p has the right to S, L and U at output o
--   is_found             there is such a user
--   range_fault, ethernet_fault, right_fault, lock_fault, pair_fault   the causes, in the order in which they are looked for
--   mask_in_range        group, bit and output of ZA are in range
--   fault_of s p c       the cause that refuses the command c at the port p, if there is one
--   cleared              a port after Q: queue, overrun and mask flag cleared
--   flag_if, do_mask     what ZA does to a port; to the state
--   effect s p c         the state after c was accepted
--   login_shown, user_shown, flags_shown   what ZC, ZI and C are answered
--   contents s p c       what c is answered, if it is accepted
--   reply_to             the reply that says an answer, or a cause
--   Judged               the state after a packet was judged, and the answer or the cause
--   unless_fault         a command, by the cause that was found
--   carried_out s p c    the command c
--   judged s p r         the packet in which r was read
use Rattle.std.specs.Prelude.{ℕ, Bool, true, false, cond, not, ◌&&◌, ◌||◌, List, [], ◌∷◌, length, Some, None, Ok, Err, Option, Result, ◌==◌, nat_le}
use Rattle.wire.specs.Kept.{empty}
use Rattle.wire.specs.Fields.{same_bytes}
use Rattle.fabric.specs.Meaning.{within}
use Rattle.packets.specs.Commands.{Command, ask_flags, ask_version, lock_keypad, show_keypad, unlock_keypad, read_queue, lock_ethernet, ask_login, lock_output, set_output, unlock_output, ask_input, ask_status, unlock_ethernet, set_password, set_mask, log_in, fault_letter}
use Rattle.replies.specs.Replies.{Contents, keypad_locked, keypad_unlocked, output_locked, output_set, output_unlocked, ethernet_changed, mask_set, flags, version, keypad_state, feeding_input, status, changes, login, logged_in, Reply, ack, nak}
use Rattle.packets.specs.declared.packet.PacketFault.{PacketFault}
use Rattle.rules.specs.declared.fault.CommandFault.{CommandFault}
use Rattle.rules.specs.declared.fault.CommandFault.TheVariants.{Packet, OutOfRange, WrongPassword, EthernetLocked, NoRight, OutputLocked, CannotBeMade}
use Rattle.rules.specs.declared.port.Port.{Port}
use Rattle.rules.specs.PerPort.{each, is_ethernet}
use Rattle.rules.specs.State.{User, PortState, State, port_at, is_locked, feeding, group_of, mask_byte, with_mask, with_keypad, with_ethernet, with_password, with_ports, with_port, with_queue, with_mask_flag, with_login}
use Rattle.rules.specs.Switching.{same, do_set, do_lock, do_unlock, in_range, may_set, may_lock, can_be_made, unless, first_of}

-- ---- letters

abbrev pub letter : CommandFault → ℕ
letter (Packet f) = fault_letter f
letter OutOfRange = 0x64
letter WrongPassword = 0x64
letter (EthernetLocked c) = c
letter NoRight = 0x67
letter OutputLocked = 0x6B
letter CannotBeMade = 0x66

abbrev pub first_letter : Command → ℕ
first_letter ask_flags = 0x43
first_letter ask_version = 0x46
first_letter lock_keypad = 0x4B
first_letter show_keypad = 0x4B
first_letter unlock_keypad = 0x4B
first_letter read_queue = 0x51
first_letter lock_ethernet = 0x45
first_letter ask_login = 0x5A
first_letter (lock_output o i) = 0x4C
first_letter (set_output o i) = 0x53
first_letter (unlock_output o i) = 0x55
first_letter (ask_input o) = 0x4F
first_letter (ask_status o) = 0x4F
first_letter (unlock_ethernet w) = 0x45
first_letter (set_password w) = 0x45
first_letter (set_mask g v o) = 0x5A
first_letter (log_in n w) = 0x5A

-- ---- users and rights

abbrev pub is_user : (ℕ → User) → List ℕ → List ℕ → ℕ → Bool
is_user us n w u = same_bytes n (us u).name && same_bytes w (us u).password

abbrev pub first_user : (ℕ → User) → List ℕ → List ℕ → List ℕ → Option ℕ
first_user us n w [] = None
first_user us n w (u ∷ more) = cond (is_user us n w u) (Some u) (first_user us n w more)

abbrev pub user_numbers : List ℕ
user_numbers = 1 ∷ 2 ∷ 3 ∷ 4 ∷ 5 ∷ 6 ∷ 7 ∷ 8 ∷ []

abbrev pub user_with : (ℕ → User) → List ℕ → List ℕ → Option ℕ
user_with us n w = first_user us n w user_numbers

abbrev pub is_logged_in_as : ℕ → Option ℕ → Bool
is_logged_in_as u None = false
is_logged_in_as u (Some v) = u == v

abbrev pub group_bit : State → ℕ → Option ℕ → Bool
group_bit s o None = false
group_bit s o (Some u) = s.masks o (group_of u)

abbrev pub may_switch : State → Port → ℕ → Bool
may_switch s p o = not s.access || group_bit s o (port_at s p).login

abbrev pub is_found : Option ℕ → Bool
is_found None = false
is_found (Some u) = true

-- ---- causes

abbrev pub range_fault : Bool → Option CommandFault
range_fault b = unless b OutOfRange

-- the Ethernet lock is on, and the port is port 2
abbrev pub ethernet_fault : State → Port → Command → Option CommandFault
ethernet_fault s p c = unless (not (s.ethernet && is_ethernet p)) (EthernetLocked (first_letter c))

abbrev pub right_fault : Bool → Option CommandFault
right_fault b = unless b NoRight

abbrev pub lock_fault : Bool → Option CommandFault
lock_fault b = unless b OutputLocked

abbrev pub pair_fault : State → ℕ → ℕ → Option CommandFault
pair_fault s o i = unless (can_be_made s o i) CannotBeMade

abbrev pub mask_in_range : State → ℕ → ℕ → ℕ → Bool
mask_in_range s g v o = within g 8 && (nat_le v 1 && within o s.fabric.outputs)

-- every command but ELD asks for the Ethernet lock; range comes before that, right, lock and pair after it
abbrev pub fault_of : State → Port → Command → Option CommandFault
fault_of s p ask_flags = ethernet_fault s p ask_flags
fault_of s p ask_version = ethernet_fault s p ask_version
fault_of s p lock_keypad = ethernet_fault s p lock_keypad
fault_of s p show_keypad = ethernet_fault s p show_keypad
fault_of s p unlock_keypad = ethernet_fault s p unlock_keypad
fault_of s p read_queue = ethernet_fault s p read_queue
fault_of s p lock_ethernet = ethernet_fault s p lock_ethernet
fault_of s p ask_login = ethernet_fault s p ask_login
fault_of s p (lock_output o i) = first_of (range_fault (in_range s o i) ∷ ethernet_fault s p (lock_output o i) ∷ right_fault (may_switch s p o) ∷ lock_fault (may_lock s o i) ∷ pair_fault s o i ∷ [])
fault_of s p (set_output o i) = first_of (range_fault (in_range s o i) ∷ ethernet_fault s p (set_output o i) ∷ right_fault (may_switch s p o) ∷ lock_fault (may_set s o) ∷ pair_fault s o i ∷ [])
fault_of s p (unlock_output o i) = first_of (range_fault (in_range s o i) ∷ ethernet_fault s p (unlock_output o i) ∷ right_fault (may_switch s p o) ∷ [])
fault_of s p (ask_input o) = first_of (range_fault (within o s.fabric.outputs) ∷ ethernet_fault s p (ask_input o) ∷ [])
fault_of s p (ask_status o) = first_of (range_fault (within o s.fabric.outputs) ∷ ethernet_fault s p (ask_status o) ∷ [])
fault_of s p (unlock_ethernet w) = unless (same_bytes w s.password) WrongPassword
fault_of s p (set_password w) = ethernet_fault s p (set_password w)
fault_of s p (set_mask g v o) = first_of (range_fault (mask_in_range s g v o) ∷ ethernet_fault s p (set_mask g v o) ∷ right_fault (is_logged_in_as 1 (port_at s p).login) ∷ [])
fault_of s p (log_in n w) = first_of (ethernet_fault s p (log_in n w) ∷ right_fault (is_found (user_with s.users n w)) ∷ [])

-- ---- effects

abbrev pub cleared : PortState → PortState
cleared x = with_queue empty (with_mask_flag false x)

abbrev pub flag_if : Bool → PortState → PortState
flag_if b x = with_mask_flag (x.mask_flag || b) x

-- the flag is raised at every port, if the bit was another
abbrev pub do_mask : State → ℕ → ℕ → Bool → State
do_mask s o g b = with_ports (each (flag_if (not (same b (s.masks o g)))) s.ports) (with_mask o g b s)

abbrev pub effect : State → Port → Command → State
effect s p ask_flags = s
effect s p ask_version = s
effect s p lock_keypad = with_keypad true s
effect s p show_keypad = s
effect s p unlock_keypad = with_keypad false s
effect s p read_queue = with_port p (cleared (port_at s p)) s
effect s p lock_ethernet = with_ethernet true s
effect s p ask_login = s
effect s p (lock_output o i) = do_lock s o i
effect s p (set_output o i) = do_set s o i
effect s p (unlock_output o i) = do_unlock s o
effect s p (ask_input o) = s
effect s p (ask_status o) = s
effect s p (unlock_ethernet w) = with_ethernet false s
effect s p (set_password w) = with_password w s
effect s p (set_mask g v o) = do_mask s o g (v == 1)
effect s p (log_in n w) = with_port p (with_login (user_with s.users n w) (port_at s p)) s

-- ---- answers

abbrev pub login_shown : State → Option ℕ → Contents
login_shown s None = login 0 0 []
login_shown s (Some u) = login u (group_of u) (s.users u).name

abbrev pub user_shown : Option ℕ → Contents
user_shown None = logged_in 0 0
user_shown (Some u) = logged_in u (group_of u)

abbrev pub flags_shown : PortState → Contents
flags_shown x = flags (nat_le 1 (length x.queue.items)) x.mask_flag x.queue.overrun

abbrev pub contents : State → Port → Command → Contents
contents s p ask_flags = flags_shown (port_at s p)
contents s p ask_version = version s.fabric.inputs s.fabric.outputs
contents s p lock_keypad = keypad_locked
contents s p show_keypad = keypad_state s.keypad
contents s p unlock_keypad = keypad_unlocked
contents s p read_queue = changes (port_at s p).queue.items
contents s p lock_ethernet = ethernet_changed
contents s p ask_login = login_shown s (port_at s p).login
contents s p (lock_output o i) = output_locked
contents s p (set_output o i) = output_set
contents s p (unlock_output o i) = output_unlocked
contents s p (ask_input o) = feeding_input (feeding s o)
contents s p (ask_status o) = status (feeding s o) (is_locked s o) (mask_byte s o)
contents s p (unlock_ethernet w) = ethernet_changed
contents s p (set_password w) = ethernet_changed
contents s p (set_mask g v o) = mask_set
contents s p (log_in n w) = user_shown (user_with s.users n w)

abbrev pub reply_to : Result Contents CommandFault → Reply
reply_to (Ok c) = ack c
reply_to (Err f) = nak (letter f)

-- ---- all together

pub record Judged : Type 0 where
  pub next : State
  pub answer : Result Contents CommandFault

abbrev pub unless_fault : State → Port → Command → Option CommandFault → Judged
unless_fault s p c None = record { next = effect s p c; answer = Ok (contents s p c) }
unless_fault s p c (Some f) = record { next = s; answer = Err f }

abbrev pub carried_out : State → Port → Command → Judged
carried_out s p c = unless_fault s p c (fault_of s p c)

abbrev pub judged : State → Port → Result Command PacketFault → Judged
judged s p (Ok c) = carried_out s p c
judged s p (Err f) = record { next = s; answer = Err (Packet f) }
