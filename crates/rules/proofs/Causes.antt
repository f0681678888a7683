-- The causes of each command stand in the order of the table.
use Rattle.std.proofs.Common.{◌≡◌, Bool, true, false, cond, List, [], ◌∷◌, Some, None, Option, refl}
use Rattle.packets.specs.Commands.{ask_flags, ask_version, lock_keypad, show_keypad, unlock_keypad, read_queue, lock_ethernet, ask_login, lock_output, set_output, unlock_output, ask_input, ask_status, unlock_ethernet, set_password, set_mask, log_in}
use Rattle.fabric.specs.Meaning.{within}
use Rattle.rules.specs.declared.fault.CommandFault.TheVariants.{OutOfRange, EthernetLocked, NoRight}
use Rattle.rules.specs.State.{port_at}
use Rattle.rules.specs.Switching.{first_of, in_range, may_set, may_lock}
use Rattle.rules.specs.Commands.{first_letter, may_switch, mask_in_range, is_logged_in_as, is_found, user_with, ethernet_fault, right_fault, lock_fault, pair_fault}
use Rattle.rules.specs.Causes.{is_free, CausesRunDownTheTable}

-- checks that are passed by all leave no cause behind the last that is looked for
alone : {X : Type 0} (b : Bool) (f : X) → cond b None (Some f) ≡ first_of (cond b None (Some f) ∷ None ∷ None ∷ None ∷ [])
alone true f = refl
alone false f = refl

behind_one : {X : Type 0} (a b : Bool) (f g : X) → first_of (cond a None (Some f) ∷ cond b None (Some g) ∷ []) ≡ first_of (cond a None (Some f) ∷ None ∷ cond b None (Some g) ∷ None ∷ None ∷ None ∷ [])
behind_one true true f g = refl
behind_one true false f g = refl
behind_one false b f g = refl

password_alone : {X : Type 0} (b : Bool) (f : X) → cond b None (Some f) ≡ first_of (cond b None (Some f) ∷ None ∷ None ∷ None ∷ None ∷ [])
password_alone true f = refl
password_alone false f = refl

three_checks : {X : Type 0} (a b c : Bool) (f g h : X) → first_of (cond a None (Some f) ∷ cond b None (Some g) ∷ cond c None (Some h) ∷ []) ≡ first_of (cond a None (Some f) ∷ None ∷ cond b None (Some g) ∷ cond c None (Some h) ∷ None ∷ None ∷ [])
three_checks true true true f g h = refl
three_checks true true false f g h = refl
three_checks true false c f g h = refl
three_checks false b c f g h = refl

two_checks : {X : Type 0} (a b : Bool) (f g : X) → first_of (cond a None (Some f) ∷ cond b None (Some g) ∷ []) ≡ first_of (cond a None (Some f) ∷ cond b None (Some g) ∷ None ∷ None ∷ [])
two_checks true true f g = refl
two_checks true false f g = refl
two_checks false b f g = refl

five_checks : {X : Type 0} (a : Bool) (f : X) (fs : List (Option X)) → first_of (cond a None (Some f) ∷ fs) ≡ first_of (cond a None (Some f) ∷ None ∷ fs)
five_checks true f fs = refl
five_checks false f fs = refl

pub down_the_table : CausesRunDownTheTable
down_the_table s p ask_flags = alone _ _
down_the_table s p ask_version = alone _ _
down_the_table s p lock_keypad = alone _ _
down_the_table s p show_keypad = alone _ _
down_the_table s p unlock_keypad = alone _ _
down_the_table s p read_queue = alone _ _
down_the_table s p lock_ethernet = alone _ _
down_the_table s p ask_login = alone _ _
down_the_table s p (lock_output o i) = five_checks (in_range s o i) OutOfRange (ethernet_fault s p (lock_output o i) ∷ right_fault (may_switch s p o) ∷ lock_fault (may_lock s o i) ∷ pair_fault s o i ∷ [])
down_the_table s p (set_output o i) = five_checks (in_range s o i) OutOfRange (ethernet_fault s p (set_output o i) ∷ right_fault (may_switch s p o) ∷ lock_fault (may_set s o) ∷ pair_fault s o i ∷ [])
down_the_table s p (unlock_output o i) = three_checks (in_range s o i) (is_free s p) (may_switch s p o) OutOfRange (EthernetLocked (first_letter (unlock_output o i))) NoRight
down_the_table s p (ask_input o) = behind_one (within o s.fabric.outputs) (is_free s p) OutOfRange (EthernetLocked (first_letter (ask_input o)))
down_the_table s p (ask_status o) = behind_one (within o s.fabric.outputs) (is_free s p) OutOfRange (EthernetLocked (first_letter (ask_status o)))
down_the_table s p (unlock_ethernet w) = password_alone _ _
down_the_table s p (set_password w) = alone _ _
down_the_table s p (set_mask g v o) = three_checks (mask_in_range s g v o) (is_free s p) (is_logged_in_as 1 (port_at s p).login) OutOfRange (EthernetLocked (first_letter (set_mask g v o))) NoRight
down_the_table s p (log_in n w) = two_checks (is_free s p) (is_found (user_with s.users n w)) (EthernetLocked (first_letter (log_in n w))) NoRight
