-- What stands after a history, from calls and answers alone: all that a unit keeps. Nothing here looks into the unit. A history has
-- its newest event first.
--
--   Effects              what an accepted command does beside switching an output: it locks or unlocks the keypad or Ethernet, sets the
--                        password, sets or clears a mask bit, logs in with a name and a password, reads the queue
--   no_effect, keypad_locking, ethernet_locking   none of these; one of the two locks alone
--   effects              the effects of each command
--   effects_of           the effects of a command, if there is one
--   effects_at p h e     the effects of the port p's packet that e ended, after the history h, if it was accepted
--   effects_by, effects_in_call, effects_in h e   the same of the packet that e ended, at whichever port; none for a call that is no byte
--   keypad_after h       the keypad is locked: by the last accepted KL or KU
--   ethernet_after h     Ethernet is locked: by the last accepted ELE or ELD
--   password_after h     the password of ELD: that of the last accepted ELP, "Quintech" before
--   with_bit, masks_after h   for each output and group the bit of the last accepted ZA, set before
--   was_accepted         a call was not refused
--   entry_by, with_entry, users_after h   for each number the user last entered, without name and password before
--   hangs_up p c         the call c is a hang-up of the port p
--   login_by, login_after p h   the port p is logged in: by its last accepted ZI, if no hang-up came since
--   altered_by, mask_flag_after p h   an accepted ZA altered a mask bit since the port's last accepted Q
--   is_some              there is a value
--   is_held o xs         output o has an accepted lock and no accepted unlock since
--   output_of            the output of an accepted setting, lock or unlock
--   input_after m o xs   the input that is named for output o over a fabric that began as m
--   changed, change_by   the change that an accepted setting, lock or unlock made: one entry if the input or the lock differs
--   changes_since m p h  the changes since the port's last accepted Q, oldest first
--   standing_port        what a port keeps
--   standing a on m h    all that a unit keeps that was put in service at address a, with access control on or off, over a fabric that meant m
use Rattle.std.specs.Prelude.{ℕ, Bool, true, false, cond, not, ◌&&◌, ◌||◌, List, [], ◌∷◌, ◌++◌, Some, None, Ok, Err, codes, Option, Result, ◌==◌}
use Rattle.std.specs.Option.{unwrap_or}
use Rattle.wire.specs.Kept.{firsts}
use Rattle.fabric.specs.Meaning.{Meaning}
use Rattle.packets.specs.Commands.{Command, ask_flags, ask_version, lock_keypad, show_keypad, unlock_keypad, read_queue, lock_ethernet, ask_login, lock_output, set_output, unlock_output, ask_input, ask_status, unlock_ethernet, set_password, set_mask, log_in}
use Rattle.replies.specs.Queues.{most_queued}
use Rattle.replies.specs.declared.change.Change.{Change}
use Rattle.rules.specs.declared.port.Port.{Port}
use Rattle.rules.specs.declared.port.Port.TheVariants.{One, Two, Three}
use Rattle.rules.specs.declared.refusal.Refusal.{Refusal}
use Rattle.rules.specs.PerPort.{number_of, port_of}
use Rattle.rules.specs.State.{User, PortState, State}
use Rattle.rules.specs.Switching.{same}
use Rattle.rules.specs.Commands.{user_with}
use Rattle.rules.specs.Calls.{Call, byte, gap, hang_up, panel_set, panel_lock, panel_unlock, enter_user, Event}
use Rattle.rules.specs.Table.{accepted_command, receiver_after}
use Rattle.rules.specs.History.{Accepted, was_set, was_locked, was_unlocked, accepted_by, accepted_in, locked_on, named}

-- ---- what accepted commands do

pub record Effects : Type 0 where
  pub keypad : Option Bool
  pub ethernet : Option Bool
  pub password : Option (List ℕ)
  -- output, group, bit
  pub mask : Option (ℕ × ℕ × Bool)
  -- name, password
  pub login : Option (List ℕ × List ℕ)
  pub reads_queue : Bool

abbrev pub no_effect : Effects
no_effect = record { keypad = None; ethernet = None; password = None; mask = None; login = None; reads_queue = false }

abbrev pub keypad_locking : Bool → Effects
keypad_locking b = record { keypad = Some b; ethernet = None; password = None; mask = None; login = None; reads_queue = false }

abbrev pub ethernet_locking : Bool → Effects
ethernet_locking b = record { keypad = None; ethernet = Some b; password = None; mask = None; login = None; reads_queue = false }

abbrev pub effects : Command → Effects
effects ask_flags = no_effect
effects ask_version = no_effect
effects lock_keypad = keypad_locking true
effects show_keypad = no_effect
effects unlock_keypad = keypad_locking false
effects read_queue = record { keypad = None; ethernet = None; password = None; mask = None; login = None; reads_queue = true }
effects lock_ethernet = ethernet_locking true
effects ask_login = no_effect
effects (lock_output o i) = no_effect
effects (set_output o i) = no_effect
effects (unlock_output o i) = no_effect
effects (ask_input o) = no_effect
effects (ask_status o) = no_effect
effects (unlock_ethernet w) = ethernet_locking false
effects (set_password w) = record { keypad = None; ethernet = None; password = Some w; mask = None; login = None; reads_queue = false }
effects (set_mask g v o) = record { keypad = None; ethernet = None; password = None; mask = Some (o, g, (v == 1)); login = None; reads_queue = false }
effects (log_in n w) = record { keypad = None; ethernet = None; password = None; mask = None; login = Some (n, w); reads_queue = false }

abbrev pub effects_of : Option Command → Effects
effects_of None = no_effect
effects_of (Some c) = effects c

abbrev pub effects_at : Port → List Event → Event → Effects
effects_at p h e = effects_of (accepted_command p h e)

abbrev pub effects_by : Option Port → List Event → Event → Effects
effects_by None h e = no_effect
effects_by (Some p) h e = effects_at p h e

abbrev pub effects_in_call : List Event → Event → Call → Effects
effects_in_call h e (byte n b room) = effects_by (port_of n) h e
effects_in_call h e (gap n) = no_effect
effects_in_call h e (hang_up n) = no_effect
effects_in_call h e (panel_set o i) = no_effect
effects_in_call h e (panel_lock o i) = no_effect
effects_in_call h e (panel_unlock o i) = no_effect
effects_in_call h e (enter_user u n w) = no_effect

abbrev pub effects_in : List Event → Event → Effects
effects_in h e = effects_in_call h e e.call

-- ---- locks of keypad and Ethernet, password

unfoldable pub keypad_after : List Event → Bool
keypad_after [] = false
keypad_after (e ∷ h) = unwrap_or (effects_in h e).keypad (keypad_after h)

unfoldable pub ethernet_after : List Event → Bool
ethernet_after [] = false
ethernet_after (e ∷ h) = unwrap_or (effects_in h e).ethernet (ethernet_after h)

unfoldable pub password_after : List Event → List ℕ
password_after [] = codes "Quintech"
password_after (e ∷ h) = unwrap_or (effects_in h e).password (password_after h)

-- ---- masks

abbrev pub with_bit : Option (ℕ × ℕ × Bool) → (ℕ → ℕ → Bool) → ℕ → ℕ → Bool
with_bit None f k g = f k g
with_bit (Some x) f k g = cond (k == x.0) (cond (g == x.1) x.2 (f k g)) (f k g)

unfoldable pub masks_after : List Event → ℕ → ℕ → Bool
masks_after [] o g = true
masks_after (e ∷ h) o g = with_bit (effects_in h e).mask (masks_after h) o g

-- ---- users

abbrev pub was_accepted : Result ℕ Refusal → Bool
was_accepted (Ok n) = true
was_accepted (Err r) = false

abbrev pub entry_by : Bool → Call → Option (ℕ × User)
entry_by b (byte n x room) = None
entry_by b (gap n) = None
entry_by b (hang_up n) = None
entry_by b (panel_set o i) = None
entry_by b (panel_lock o i) = None
entry_by b (panel_unlock o i) = None
entry_by b (enter_user u n w) = cond b (Some (u, record { name = n; password = w })) None

abbrev pub with_entry : Option (ℕ × User) → (ℕ → User) → ℕ → User
with_entry None f u = f u
with_entry (Some x) f u = cond (u == x.0) x.1 (f u)

unfoldable pub users_after : List Event → ℕ → User
users_after [] u = record { name = []; password = [] }
users_after (e ∷ h) u = with_entry (entry_by (was_accepted e.answer.result) e.call) (users_after h) u

-- ---- logins

abbrev pub hangs_up : Port → Call → Bool
hangs_up p (byte n b room) = false
hangs_up p (gap n) = false
hangs_up p (hang_up n) = number_of p == n
hangs_up p (panel_set o i) = false
hangs_up p (panel_lock o i) = false
hangs_up p (panel_unlock o i) = false
hangs_up p (enter_user u n w) = false

-- of the users as they are then, the smallest with the name and the password
abbrev pub login_by : Option (List ℕ × List ℕ) → (ℕ → User) → Option ℕ → Option ℕ
login_by None us before = before
login_by (Some x) us before = user_with us x.0 x.1

unfoldable pub login_after : Port → List Event → Option ℕ
login_after p [] = None
login_after p (e ∷ h) = cond (was_accepted e.answer.result && hangs_up p e.call) None (login_by (effects_at p h e).login (users_after h) (login_after p h))

-- ---- the mask flag

abbrev pub altered_by : Option (ℕ × ℕ × Bool) → (ℕ → ℕ → Bool) → Bool
altered_by None f = false
altered_by (Some x) f = not (same x.2 (f x.0 x.1))

unfoldable pub mask_flag_after : Port → List Event → Bool
mask_flag_after p [] = false
mask_flag_after p (e ∷ h) = cond (effects_at p h e).reads_queue false (mask_flag_after p h || altered_by (effects_in h e).mask (masks_after h))

-- ---- changes

abbrev pub is_some : {V : Type 0} → Option V → Bool
is_some None = false
is_some (Some x) = true

abbrev pub is_held : ℕ → List Accepted → Bool
is_held o xs = is_some (locked_on o xs)

abbrev pub output_of : Accepted → ℕ
output_of (was_set o i) = o
output_of (was_locked o i) = o
output_of (was_unlocked o i) = o

abbrev pub input_after : Meaning → ℕ → List Accepted → ℕ
input_after m o xs = named o xs (m.feeding o)

-- of output o, between what was accepted before, xs, and with the newest, ys
abbrev pub changed : Meaning → ℕ → List Accepted → List Accepted → List Change
changed m o xs ys =
    cond (input_after m o xs == input_after m o ys && same (is_held o xs) (is_held o ys)) [] (record { output = o; input = input_after m o ys } ∷ [])

abbrev pub change_by : Meaning → List Accepted → Option Accepted → List Change
change_by m xs None = []
change_by m xs (Some x) = changed m (output_of x) xs (x ∷ xs)

unfoldable pub changes_since : Meaning → Port → List Event → List Change
changes_since m p [] = []
changes_since m p (e ∷ h) = cond (effects_at p h e).reads_queue [] (changes_since m p h ++ change_by m (accepted_in h) (accepted_by h e e.call))

-- ---- all together

abbrev pub standing_port : Meaning → List Event → Port → PortState
standing_port m h p = record {
  receiver = receiver_after p h;
  queue = firsts most_queued (changes_since m p h);
  mask_flag = mask_flag_after p h;
  login = login_after p h;
}

abbrev pub standing : ℕ → Bool → Meaning → List Event → State
standing a on m h = record {
  address = a;
  access = on;
  fabric = record { inputs = m.inputs; outputs = m.outputs; feeding = λ o. input_after m o (accepted_in h); makeable = m.makeable };
  locks = λ o. is_held o (accepted_in h);
  masks = masks_after h;
  keypad = keypad_after h;
  ethernet = ethernet_after h;
  password = password_after h;
  users = users_after h;
  ports = record { one = standing_port m h One; two = standing_port m h Two; three = standing_port m h Three };
}
