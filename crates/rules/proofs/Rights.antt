-- What is accepted is what no cause refuses; so only those with a right are let do what needs one.
use Rattle.std.proofs.Common.{◌≡◌, ℕ, Bool, true, false, cond, not, ◌&&◌, ◌||◌, List, [], ◌∷◌, Some, None, Option, sym, refl, ap, ◌∙◌, subst}
use Rattle.std.proofs.lemmas.Bool.{eqb-true, false≢true}
use Rattle.wire.specs.Fields.{same_bytes}
use Rattle.packets.specs.Receiver.{Receiver}
use Rattle.packets.specs.Commands.{Command, ask_flags, ask_version, lock_keypad, show_keypad, unlock_keypad, read_queue, lock_ethernet, ask_login, lock_output, set_output, unlock_output, ask_input, ask_status, unlock_ethernet, set_password, set_mask, log_in}
use Rattle.rules.specs.declared.fault.CommandFault.TheVariants.{OutOfRange, WrongPassword, EthernetLocked, NoRight}
use Rattle.rules.specs.declared.port.Port.{Port}
use Rattle.rules.specs.declared.port.Port.TheVariants.{One, Two, Three}
use Rattle.rules.specs.PerPort.{is_ethernet}
use Rattle.rules.specs.State.{State, group_of, port_at, with_port, with_receiver}
use Rattle.rules.specs.Switching.{first_of, in_range}
use Rattle.rules.specs.Commands.{first_letter, group_bit, may_switch, mask_in_range, is_logged_in_as, fault_of}
use Rattle.rules.specs.Rights.{switched_output}
use Rattle.rules.proofs.Commands.{first_none}

-- the state in which a packet of the port p is judged, where its receiver is r then
abbrev pub judging : State → Port → Receiver → State
judging s p r = with_port p (with_receiver r (port_at s p)) s

pub same_login : (s : State) (p : Port) (r : Receiver) → (port_at (judging s p r) p).login ≡ (port_at s p).login
same_login s One r = refl
same_login s Two r = refl
same_login s Three r = refl

-- a login that has its group's bit
pub record Granted (s : State) (o : ℕ) (login : Option ℕ) : Type 0 where
  pub user : ℕ
  pub logged_in : login ≡ Some user
  pub bit_set : s.masks o (group_of user) ≡ true

by_login : (s : State) (o : ℕ) (login : Option ℕ) → group_bit s o login ≡ true → Granted s o login
by_login s o None e = absurd cc
by_login s o (Some u) e = record { user = u; logged_in = refl; bit_set = e }

with_access : (s : State) (p : Port) (o : ℕ) (on : Bool) → on ≡ true → (not on || group_bit s o (port_at s p).login) ≡ true → Granted s o (port_at s p).login
with_access s p o true t e = by_login s o (port_at s p).login e
with_access s p o false t e = absurd cc

-- the third of several checks was passed
third : {X : Type 0} (a b c : Bool) (f₁ f₂ f₃ : X) (fs : List (Option X)) → first_of (cond a None (Some f₁) ∷ cond b None (Some f₂) ∷ cond c None (Some f₃) ∷ fs) ≡ None → c ≡ true
third a b c f₁ f₂ f₃ fs e =
    let x = first_none a f₁ (cond b None (Some f₂) ∷ cond c None (Some f₃) ∷ fs) e in
    let y = first_none b f₂ (cond c None (Some f₃) ∷ fs) x.1 in
    (first_none c f₃ fs y.1).0

second : {X : Type 0} (a b : Bool) (f₁ f₂ : X) (fs : List (Option X)) → first_of (cond a None (Some f₁) ∷ cond b None (Some f₂) ∷ fs) ≡ None → b ≡ true
second a b f₁ f₂ fs e = (first_none b f₂ fs (first_none a f₁ (cond b None (Some f₂) ∷ fs) e).1).0

passed : {X : Type 0} (b : Bool) (f : X) → cond b None (Some f) ≡ None → b ≡ true
passed true f e = refl
passed false f e = absurd cc

no_output : {X : Type 0} (o : ℕ) → ◌≡◌ {A = Option ℕ} None (Some o) → X
no_output o e = absurd cc

module _ (s : State) (p : Port) where
  pub switching_granted : (c : Command) (o : ℕ) → s.access ≡ true → fault_of s p c ≡ None → switched_output c ≡ Some o → Granted s o (port_at s p).login
  switching_granted ask_flags o on f e = no_output o e
  switching_granted ask_version o on f e = no_output o e
  switching_granted lock_keypad o on f e = no_output o e
  switching_granted show_keypad o on f e = no_output o e
  switching_granted unlock_keypad o on f e = no_output o e
  switching_granted read_queue o on f e = no_output o e
  switching_granted lock_ethernet o on f e = no_output o e
  switching_granted ask_login o on f e = no_output o e
  switching_granted (lock_output k i) o on f e =
      subst (λ (x : ℕ). Granted s x (port_at s p).login) (let z : k ≡ o = cc in z)
      (with_access s p k s.access on (third (in_range s k i) (not (s.ethernet && is_ethernet p)) (may_switch s p k) OutOfRange (EthernetLocked (first_letter (lock_output k i))) NoRight _ f))
  switching_granted (set_output k i) o on f e =
      subst (λ (x : ℕ). Granted s x (port_at s p).login) (let z : k ≡ o = cc in z)
      (with_access s p k s.access on (third (in_range s k i) (not (s.ethernet && is_ethernet p)) (may_switch s p k) OutOfRange (EthernetLocked (first_letter (set_output k i))) NoRight _ f))
  switching_granted (unlock_output k i) o on f e =
      subst (λ (x : ℕ). Granted s x (port_at s p).login) (let z : k ≡ o = cc in z)
      (with_access s p k s.access on (third (in_range s k i) (not (s.ethernet && is_ethernet p)) (may_switch s p k) OutOfRange (EthernetLocked (first_letter (unlock_output k i))) NoRight _ f))
  switching_granted (ask_input k) o on f e = no_output o e
  switching_granted (ask_status k) o on f e = no_output o e
  switching_granted (unlock_ethernet w) o on f e = no_output o e
  switching_granted (set_password w) o on f e = no_output o e
  switching_granted (set_mask g v k) o on f e = no_output o e
  switching_granted (log_in n w) o on f e = no_output o e

  user_one : (login : Option ℕ) → is_logged_in_as 1 login ≡ true → login ≡ Some 1
  user_one None e = absurd cc
  user_one (Some u) e = ap (λ (x : ℕ). Some x) (sym (eqb-true 1 u e))

  pub masks_granted : (g v o : ℕ) → fault_of s p (set_mask g v o) ≡ None → (port_at s p).login ≡ Some 1
  masks_granted g v o f =
      user_one (port_at s p).login
      (third (mask_in_range s g v o) (not (s.ethernet && is_ethernet p)) (is_logged_in_as 1 (port_at s p).login) OutOfRange (EthernetLocked (first_letter (set_mask g v o))) NoRight [] f)

  pub password_granted : (w : List ℕ) → fault_of s p (unlock_ethernet w) ≡ None → same_bytes w s.password ≡ true
  password_granted w f = passed (same_bytes w s.password) WrongPassword f

-- under the Ethernet lock nothing but ELD passes at port 2
module _ (s : State) (locked : s.ethernet ≡ true) where
  not_free : {X : Type 0} → not (s.ethernet && true) ≡ true → X
  not_free e = absurd (false≢true (sym (ap (λ (b : Bool). not (b && true)) locked) ∙ e))

  alone : {X : Type 0} (c : Command) → cond (not (s.ethernet && true)) None (Some (EthernetLocked (first_letter c))) ≡ None → X
  alone c e = not_free (passed (not (s.ethernet && true)) (EthernetLocked (first_letter c)) e)

  pub only_eld : (c : Command) → fault_of s Two c ≡ None → (w : List ℕ) × (c ≡ unlock_ethernet w)
  only_eld ask_flags f = alone ask_flags f
  only_eld ask_version f = alone ask_version f
  only_eld lock_keypad f = alone lock_keypad f
  only_eld show_keypad f = alone show_keypad f
  only_eld unlock_keypad f = alone unlock_keypad f
  only_eld read_queue f = alone read_queue f
  only_eld lock_ethernet f = alone lock_ethernet f
  only_eld ask_login f = alone ask_login f
  only_eld (lock_output o i) f = not_free (second _ _ OutOfRange (EthernetLocked (first_letter (lock_output o i))) _ f)
  only_eld (set_output o i) f = not_free (second _ _ OutOfRange (EthernetLocked (first_letter (set_output o i))) _ f)
  only_eld (unlock_output o i) f = not_free (second _ _ OutOfRange (EthernetLocked (first_letter (unlock_output o i))) _ f)
  only_eld (ask_input o) f = not_free (second _ _ OutOfRange (EthernetLocked (first_letter (ask_input o))) [] f)
  only_eld (ask_status o) f = not_free (second _ _ OutOfRange (EthernetLocked (first_letter (ask_status o))) [] f)
  only_eld (unlock_ethernet w) f = (w, refl)
  only_eld (set_password w) f = alone (set_password w) f
  only_eld (set_mask g v o) f = not_free (second _ _ OutOfRange (EthernetLocked (first_letter (set_mask g v o))) _ f)
  only_eld (log_in n w) f = not_free (first_none _ (EthernetLocked (first_letter (log_in n w))) _ f).0
