-- Who is let do what, by the history: laws on the packets and panel calls that are accepted.
--
--   switched_output c     the output of S, L and U
--   HasRight p h o        the port p is logged in as a user whose group has its bit set at output o
--   is_panel c            the call c is a panel set, lock or unlock
--   RightsHold on h e     of the event e after the history h, of a unit with access control on or off: with access control on S, L and U
--                         are accepted only with a right to their output; ZA only from a login as user 1; at port 2 under the Ethernet
--                         lock only ELD; ELD only with the password; a panel call only with the keypad unlocked
use Rattle.std.specs.Prelude.{◌≡◌, ℕ, Bool, true, false, List, Some, None, Option}
use Rattle.wire.specs.Fields.{same_bytes}
use Rattle.packets.specs.Commands.{Command, ask_flags, ask_version, lock_keypad, show_keypad, unlock_keypad, read_queue, lock_ethernet, ask_login, lock_output, set_output, unlock_output, ask_input, ask_status, unlock_ethernet, set_password, set_mask, log_in}
use Rattle.rules.specs.declared.port.Port.{Port}
use Rattle.rules.specs.declared.port.Port.TheVariants.{Two}
use Rattle.rules.specs.State.{group_of}
use Rattle.rules.specs.Calls.{Call, byte, gap, hang_up, panel_set, panel_lock, panel_unlock, enter_user, Event}
use Rattle.rules.specs.Table.{accepted_command}
use Rattle.rules.specs.Standing.{was_accepted, login_after, masks_after, ethernet_after, password_after, keypad_after}

abbrev pub switched_output : Command → Option ℕ
switched_output ask_flags = None
switched_output ask_version = None
switched_output lock_keypad = None
switched_output show_keypad = None
switched_output unlock_keypad = None
switched_output read_queue = None
switched_output lock_ethernet = None
switched_output ask_login = None
switched_output (lock_output o i) = Some o
switched_output (set_output o i) = Some o
switched_output (unlock_output o i) = Some o
switched_output (ask_input o) = None
switched_output (ask_status o) = None
switched_output (unlock_ethernet w) = None
switched_output (set_password w) = None
switched_output (set_mask g v o) = None
switched_output (log_in n w) = None

pub record HasRight (p : Port) (h : List Event) (o : ℕ) : Type 0 where
  pub user : ℕ
  pub logged_in : login_after p h ≡ Some user
  pub bit_set : masks_after h o (group_of user) ≡ true

abbrev pub is_panel : Call → Bool
is_panel (byte n b room) = false
is_panel (gap n) = false
is_panel (hang_up n) = false
is_panel (panel_set o i) = true
is_panel (panel_lock o i) = true
is_panel (panel_unlock o i) = true
is_panel (enter_user u n w) = false

pub record RightsHold (on : Bool) (h : List Event) (e : Event) : Type 0 where
  pub switching : on ≡ true → (p : Port) (c : Command) (o : ℕ) → accepted_command p h e ≡ Some c → switched_output c ≡ Some o → HasRight p h o
  pub masks : (p : Port) (g v o : ℕ) → accepted_command p h e ≡ Some (set_mask g v o) → login_after p h ≡ Some 1
  pub ethernet : ethernet_after h ≡ true → (c : Command) → accepted_command Two h e ≡ Some c → (w : List ℕ) × (c ≡ unlock_ethernet w)
  pub password : (p : Port) (w : List ℕ) → accepted_command p h e ≡ Some (unlock_ethernet w) → same_bytes w (password_after h) ≡ true
  pub keypad : keypad_after h ≡ true → is_panel e.call ≡ true → was_accepted e.answer.result ≡ false
