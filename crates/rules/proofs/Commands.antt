-- An accepted command keeps the state in agreement with what is known from outside.
use Rattle.std.proofs.Common.{◌≡◌, ℕ, Bool, true, false, cond, not, ◌&&◌, eqb, List, [], ◌∷◌, Some, None, Option, refl, subst}
use Rattle.std.proofs.lemmas.Bool.{and_parts, not-true}
use Rattle.packets.specs.Receiver.{Receiver}
use Rattle.packets.specs.Commands.{Command, ask_flags, ask_version, lock_keypad, show_keypad, unlock_keypad, read_queue, lock_ethernet, ask_login, lock_output, set_output, unlock_output, ask_input, ask_status, unlock_ethernet, set_password, set_mask, log_in}
use Rattle.rules.specs.declared.fault.CommandFault.TheVariants.{OutOfRange, EthernetLocked, NoRight, OutputLocked, CannotBeMade}
use Rattle.rules.specs.declared.port.PerPort.{PerPort}
use Rattle.rules.specs.declared.port.Port.{Port}
use Rattle.rules.specs.PerPort.{at, set_at, is_ethernet}
use Rattle.rules.specs.State.{State, port_at, feeding, with_keypad, with_ethernet, with_password, with_port, with_login}
use Rattle.rules.specs.Switching.{same, do_set, do_lock, do_unlock, first_of, may_set, may_lock, in_range, can_be_made}
use Rattle.rules.specs.Commands.{first_letter, flag_if, do_mask, cleared, user_with, fault_of, effect, contents, may_switch, ethernet_fault, right_fault}
use Rattle.rules.specs.Table.{Table, asked, updated, told, entered}
use Rattle.rules.specs.History.{Accepted, was_set, was_locked, was_unlocked, switched_by, with_accepted}
use Rattle.rules.proofs.Queues.{PortRight, cleared_right, right_entered}
use Rattle.rules.proofs.Switchings.{Agrees, all_each, all_set, both_set, unchanged, set_agrees, lock_agrees, unlock_agrees}

pub first_none : {X : Type 0} (b : Bool) (f : X) (fs : List (Option X)) → first_of (cond b None (Some f) ∷ fs) ≡ None → (b ≡ true) × (first_of fs ≡ None)
first_none true f fs e = (refl, e)
first_none false f fs e = absurd cc

-- five checks were passed
pub five_passed : {X : Type 0} (a b c d g : Bool) (f₁ f₂ f₃ f₄ f₅ : X) → first_of (cond a None (Some f₁) ∷ cond b None (Some f₂) ∷ cond c None (Some f₃) ∷ cond d None (Some f₄) ∷ cond g None (Some f₅) ∷ []) ≡ None
    → (a ≡ true) × (d ≡ true) × (g ≡ true)
five_passed a b c d g f₁ f₂ f₃ f₄ f₅ e =
    let x = first_none a f₁ (cond b None (Some f₂) ∷ cond c None (Some f₃) ∷ cond d None (Some f₄) ∷ cond g None (Some f₅) ∷ []) e in
    let y = first_none b f₂ (cond c None (Some f₃) ∷ cond d None (Some f₄) ∷ cond g None (Some f₅) ∷ []) x.1 in
    let z = first_none c f₃ (cond d None (Some f₄) ∷ cond g None (Some f₅) ∷ []) y.1 in
    let w = first_none d f₄ (cond g None (Some f₅) ∷ []) z.1 in
    (x.0, w.0, (first_none g f₅ [] w.1).0)

module _ (f₀ : ℕ → ℕ) (s : State) (rs : PerPort Receiver) (ts : PerPort Table) (xs : List Accepted) (v : Agrees f₀ s rs ts xs) (p : Port) where
  -- nothing that is known from outside is touched
  aside : (t : State) → Agrees f₀ t rs ts xs → Agrees f₀ t rs (set_at ts p (at ts p)) xs
  aside t w = subst (λ (us : PerPort Table). Agrees f₀ t rs us xs) (unchanged ts p) w

  keypad_agrees : (b : Bool) → Agrees f₀ (with_keypad b s) rs ts xs
  keypad_agrees b = record { sound = v.sound; ports = v.ports; kept = v.kept; fed = v.fed }

  ethernet_agrees : (b : Bool) → Agrees f₀ (with_ethernet b s) rs ts xs
  ethernet_agrees b = record { sound = v.sound; ports = v.ports; kept = v.kept; fed = v.fed }

  password_agrees : (w : List ℕ) → Agrees f₀ (with_password w s) rs ts xs
  password_agrees w = record { sound = v.sound; ports = v.ports; kept = v.kept; fed = v.fed }

  login_agrees : (u : Option ℕ) → Agrees f₀ (with_port p (with_login u (port_at s p)) s) rs ts xs
  login_agrees u = record {
    sound = v.sound;
    ports = all_set (λ q x. PortRight (feeding s) (at ts q) (at rs q) x) s.ports p (with_login u (port_at s p)) v.ports
        (let w = v.ports p in record { receiver = w.receiver; few = w.few; small = w.small; right = w.right });
    kept = v.kept;
    fed = v.fed;
  }

  mask_agrees : (o g : ℕ) (b : Bool) → Agrees f₀ (do_mask s o g b) rs ts xs
  mask_agrees o g b = record {
    sound = v.sound;
    ports = all_each (λ q x. PortRight (feeding s) (at ts q) (at rs q) x) (flag_if (not (same b (s.masks o g)))) s.ports
        (λ q. let w = v.ports q in record { receiver = w.receiver; few = w.few; small = w.small; right = w.right });
    kept = v.kept;
    fed = v.fed;
  }

  queue_agrees : Agrees f₀ (with_port p (cleared (port_at s p)) s) rs (set_at ts p (updated (at ts p) (asked read_queue) (told (contents s p read_queue)))) xs
  queue_agrees = record {
    sound = v.sound;
    ports = both_set (λ q t x. PortRight (feeding s) t (at rs q) x) ts s.ports p (updated (at ts p) (asked read_queue) (told (contents s p read_queue))) (cleared (port_at s p)) v.ports
        (cleared_right (feeding s) (at ts p) (at rs p) (port_at s p) (v.ports p));
    kept = v.kept;
    fed = v.fed;
  }

  input_agrees : (o : ℕ) → Agrees f₀ s rs (set_at ts p (entered (at ts p) o (feeding s o))) xs
  input_agrees o = record {
    sound = v.sound;
    ports = all_set (λ q t. PortRight (feeding s) t (at rs q) (port_at s q)) ts p (entered (at ts p) o (feeding s o)) v.ports
        (let w = v.ports p in record { receiver = w.receiver; few = w.few; small = w.small; right = right_entered (feeding s) (at ts p) (port_at s p).queue.items o w.right });
    kept = v.kept;
    fed = v.fed;
  }

  pub effect_agrees : (c : Command) → fault_of s p c ≡ None
      → Agrees f₀ (effect s p c) rs (set_at ts p (updated (at ts p) (asked c) (told (contents s p c)))) (with_accepted (switched_by (asked c)) xs)
  effect_agrees ask_flags e = aside s v
  effect_agrees ask_version e = aside s v
  effect_agrees lock_keypad e = aside _ (keypad_agrees true)
  effect_agrees show_keypad e = aside s v
  effect_agrees unlock_keypad e = aside _ (keypad_agrees false)
  effect_agrees read_queue e = queue_agrees
  effect_agrees lock_ethernet e = aside _ (ethernet_agrees true)
  effect_agrees ask_login e = aside s v
  effect_agrees (lock_output o i) e =
      let a = five_passed (in_range s o i) (not (s.ethernet && is_ethernet p)) (may_switch s p o) (may_lock s o i) (can_be_made s o i) OutOfRange (EthernetLocked (first_letter (lock_output o i))) NoRight OutputLocked CannotBeMade e in
      subst (λ (us : PerPort Table). Agrees f₀ (do_lock s o i) rs us (was_locked o i ∷ xs)) (unchanged ts p) (lock_agrees f₀ s rs ts xs v o i a.2)
  effect_agrees (set_output o i) e =
      let a = five_passed (in_range s o i) (not (s.ethernet && is_ethernet p)) (may_switch s p o) (may_set s o) (can_be_made s o i) OutOfRange (EthernetLocked (first_letter (set_output o i))) NoRight OutputLocked CannotBeMade e in
      subst (λ (us : PerPort Table). Agrees f₀ (do_set s o i) rs us (was_set o i ∷ xs)) (unchanged ts p) (set_agrees f₀ s rs ts xs v o i a.2 (not-true _ a.1))
  effect_agrees (unlock_output o i) e =
      let a = first_none (in_range s o i) OutOfRange (ethernet_fault s p (unlock_output o i) ∷ right_fault (may_switch s p o) ∷ []) e in
      subst (λ (us : PerPort Table). Agrees f₀ (do_unlock s o) rs us (was_unlocked o i ∷ xs)) (unchanged ts p) (unlock_agrees f₀ s rs ts xs v o i (and_parts _ _ a.0).0)
  effect_agrees (ask_input o) e = input_agrees o
  effect_agrees (ask_status o) e = input_agrees o
  effect_agrees (unlock_ethernet w) e = aside _ (ethernet_agrees false)
  effect_agrees (set_password w) e = aside _ (password_agrees w)
  effect_agrees (set_mask g b o) e = aside _ (mask_agrees o g (eqb b 1))
  effect_agrees (log_in n w) e = aside _ (login_agrees (user_with s.users n w))
