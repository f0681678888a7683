-- Settings, locks and unlocks keep the state in agreement with what is known from outside.
use Rattle.std.proofs.Common.{◌≡◌, ℕ, ◌<◌, ◌≤◌, Bool, true, false, cond, eqb, List, ◌∷◌, Some, None, unwrap_or, sym, refl, ap, ◌∙◌, subst, arith}
use Rattle.std.proofs.lemmas.Bool.{eqb-true, eq-eqb, and_parts, not-false}
use Rattle.std.proofs.lemmas.Bool.Decides.{nat_tests}
use Rattle.fabric.specs.Meaning.{Meaning, Sound, within, routed}
use Rattle.packets.specs.Receiver.{Receiver}
use Rattle.rules.specs.declared.port.PerPort.{PerPort}
use Rattle.rules.specs.declared.port.Port.{Port}
use Rattle.rules.specs.declared.port.Port.TheVariants.{One, Two, Three}
use Rattle.rules.specs.PerPort.{at, set_at, each}
use Rattle.rules.specs.State.{State, PortState, port_at, is_locked, feeding, with_lock, with_fabric}
use Rattle.rules.specs.Switching.{differs, note_if, noted, do_set, do_lock, do_unlock}
use Rattle.rules.specs.Table.{Table}
use Rattle.rules.specs.History.{Accepted, was_set, was_locked, was_unlocked, locked_on, last_sent}
use Rattle.rules.proofs.Queues.{Apart, PortRight, noted_right}

-- The state s agrees with what is known from outside: the receivers rs, the tables ts, and the accepted settings, locks and unlocks xs of a unit whose outputs started on f₀
pub record Agrees (f₀ : ℕ → ℕ) (s : State) (rs : PerPort Receiver) (ts : PerPort Table) (xs : List Accepted) : Type 0 where
  pub sound : Sound s.fabric
  pub ports : (q : Port) → PortRight (feeding s) (at ts q) (at rs q) (port_at s q)
  pub kept : (o : ℕ) → locked_on o xs ≡ cond (is_locked s o) (Some (feeding s o)) None
  pub fed : (o : ℕ) → feeding s o ≡ unwrap_or (last_sent o xs) (f₀ o)

-- ---- meanings

within_low : (k n : ℕ) → within k n ≡ true → k ≤ n
within_low k n h = grind (arith, nat_tests)

pub feed_small : (m : Meaning) → Sound m → (o : ℕ) → m.feeding o < 1000
feed_small m s o = by (within o m.outputs) refl
  where
    by : (b : Bool) → within o m.outputs ≡ b → m.feeding o < 1000
    by true e = let l = within_low (m.feeding o) m.inputs (s.fed o e) in omega (arith, s.few_inputs)
    by false e = omega (arith, s.unfed o e)

pub routed_sound : (m : Meaning) (o i : ℕ) → Sound m → m.makeable o i ≡ true → Sound (routed m o i)
routed_sound m o i s e = record {
  some_inputs = s.some_inputs;
  few_inputs = s.few_inputs;
  some_outputs = s.some_outputs;
  few_outputs = s.few_outputs;
  fed = λ k w. elim (eqb k o) as (λ b. within (cond b i (m.feeding k)) m.inputs ≡ true) [ true ↦ (and_parts _ _ (s.made_within o i e)).1 | false ↦ s.fed k w ];
  unfed = λ k w. off k w (eqb k o) refl;
  made_within = s.made_within;
}
  where
    off : (k : ℕ) → within k m.outputs ≡ false → (b : Bool) → eqb k o ≡ b → cond b i (m.feeding k) ≡ 0
    off k w false f = s.unfed k w
    off k w true f = absurd (let ko : k ≡ o = eqb-true k o f in let t : within o m.outputs ≡ true = (and_parts _ _ (s.made_within o i e)).0 in let u : within o m.outputs ≡ false = subst (λ (x : ℕ). within x m.outputs ≡ false) ko w in grind (arith, nat_tests))

output_small : (m : Meaning) → Sound m → (o : ℕ) → within o m.outputs ≡ true → o < 1000
output_small m s o w = let l = within_low o m.outputs w in omega (arith, s.few_outputs)

-- ---- ports

pub all_each : {R : Type 0} (P : Port → R → Type 0) (f : R → R) (t : PerPort R) → ((q : Port) → P q (f (at t q))) → (q : Port) → P q (at (each f t) q)
all_each P f t h One = h One
all_each P f t h Two = h Two
all_each P f t h Three = h Three

pub all_set : {R : Type 0} (P : Port → R → Type 0) (t : PerPort R) (p : Port) (x : R) → ((q : Port) → P q (at t q)) → P p x → (q : Port) → P q (at (set_at t p x) q)
all_set P t One x h g One = g
all_set P t One x h g Two = h Two
all_set P t One x h g Three = h Three
all_set P t Two x h g One = h One
all_set P t Two x h g Two = g
all_set P t Two x h g Three = h Three
all_set P t Three x h g One = h One
all_set P t Three x h g Two = h Two
all_set P t Three x h g Three = g

pub both_set : {R S : Type 0} (P : Port → R → S → Type 0) (t : PerPort R) (u : PerPort S) (p : Port) (x : R) (y : S) → ((q : Port) → P q (at t q) (at u q)) → P p x y → (q : Port) → P q (at (set_at t p x) q) (at (set_at u p y) q)
both_set P t u One x y h g One = g
both_set P t u One x y h g Two = h Two
both_set P t u One x y h g Three = h Three
both_set P t u Two x y h g One = h One
both_set P t u Two x y h g Two = g
both_set P t u Two x y h g Three = h Three
both_set P t u Three x y h g One = h One
both_set P t u Three x y h g Two = h Two
both_set P t u Three x y h g Three = g

pub unchanged : {R : Type 0} (t : PerPort R) (p : Port) → t ≡ set_at t p (at t p)
unchanged t One = refl
unchanged t Two = refl
unchanged t Three = refl

-- ---- settings, locks and unlocks

still : (s t : State) (o : ℕ) → differs s t o ≡ false → feeding t o ≡ feeding s o
still s t o d = sym (eqb-true (feeding s o) (feeding t o) (and_parts _ _ (not-false _ d)).0)

module _ (f₀ : ℕ → ℕ) (s : State) (rs : PerPort Receiver) (ts : PerPort Table) (xs : List Accepted) (v : Agrees f₀ s rs ts xs) where
  -- t is s but for the lock and the feeding input of o
  noted_ports : (t : State) (o : ℕ) → Apart (feeding s) (feeding t) o → o < 1000 → feeding t o < 1000 → s.ports ≡ t.ports
      → (q : Port) → PortRight (feeding t) (at ts q) (at rs q) (port_at (noted s o t) q)
  noted_ports t o apart ho hi same =
      all_each (λ q x. PortRight (feeding t) (at ts q) (at rs q) x) (note_if (differs s t o) (record { output = o; input = feeding t o })) t.ports
      (λ q. noted_right (feeding s) (feeding t) (at ts q) (at rs q) (at t.ports q) o (differs s t o) apart (still s t o) ho hi
      (subst (λ (ps : PerPort PortState). PortRight (feeding s) (at ts q) (at rs q) (at ps q)) same (v.ports q)))

  to_itself : (o i k : ℕ) → cond (eqb k o) i (feeding s k) ≡ cond (eqb k o) (cond (eqb o o) i (feeding s o)) (feeding s k)
  to_itself o i k = rw (eq-eqb o o refl)

  routed_small : (o i : ℕ) → s.fabric.makeable o i ≡ true → (routed s.fabric o i).feeding o < 1000
  routed_small o i e = feed_small (routed s.fabric o i) (routed_sound s.fabric o i v.sound e) o

  pub set_agrees : (o i : ℕ) → s.fabric.makeable o i ≡ true → is_locked s o ≡ false → Agrees f₀ (do_set s o i) rs ts (was_set o i ∷ xs)
  set_agrees o i made free = record {
    sound = routed_sound s.fabric o i v.sound made;
    ports = noted_ports (with_fabric (routed s.fabric o i) s) o (to_itself o i) (output_small s.fabric v.sound o (and_parts _ _ (v.sound.made_within o i made)).0) (routed_small o i made) refl;
    kept = λ k. v.kept k ∙ by k (eqb k o) refl;
    fed = λ k. let f = v.fed k in elim (eqb k o) as (λ b. cond b i (feeding s k) ≡ unwrap_or (cond b (Some i) (last_sent k xs)) (f₀ k)) [ true ↦ refl | false ↦ f ];
  }
    where
      by : (k : ℕ) (b : Bool) → eqb k o ≡ b → cond (is_locked s k) (Some (feeding s k)) None ≡ cond (is_locked s k) (Some (cond b i (feeding s k))) None
      by k true e = let l : is_locked s k ≡ false = ap s.locks (eqb-true k o e) ∙ free in rw l
      by k false e = refl

  pub lock_agrees : (o i : ℕ) → s.fabric.makeable o i ≡ true → Agrees f₀ (do_lock s o i) rs ts (was_locked o i ∷ xs)
  lock_agrees o i made = record {
    sound = routed_sound s.fabric o i v.sound made;
    ports = noted_ports (with_lock o true (with_fabric (routed s.fabric o i) s)) o (to_itself o i) (output_small s.fabric v.sound o (and_parts _ _ (v.sound.made_within o i made)).0) (routed_small o i made) refl;
    kept = λ k. let h = v.kept k in elim (eqb k o) as (λ b. cond b (Some i) (locked_on k xs) ≡ cond (cond b true (is_locked s k)) (Some (cond b i (feeding s k))) None) [ true ↦ refl | false ↦ h ];
    fed = λ k. let f = v.fed k in elim (eqb k o) as (λ b. cond b i (feeding s k) ≡ unwrap_or (cond b (Some i) (last_sent k xs)) (f₀ k)) [ true ↦ refl | false ↦ f ];
  }

  pub unlock_agrees : (o i : ℕ) → within o s.fabric.outputs ≡ true → Agrees f₀ (do_unlock s o) rs ts (was_unlocked o i ∷ xs)
  unlock_agrees o i w = record {
    sound = v.sound;
    ports = noted_ports (with_lock o false s) o (λ k. by k (eqb k o) refl) (output_small s.fabric v.sound o w) (feed_small s.fabric v.sound o) refl;
    kept = λ k. let h = v.kept k in elim (eqb k o) as (λ b. cond b None (locked_on k xs) ≡ cond (cond b false (is_locked s k)) (Some (feeding s k)) None) [ true ↦ refl | false ↦ h ];
    fed = v.fed;
  }
    where
      by : (k : ℕ) (b : Bool) → eqb k o ≡ b → feeding s k ≡ cond b (feeding s o) (feeding s k)
      by k true e = ap (feeding s) (eqb-true k o e)
      by k false e = refl
