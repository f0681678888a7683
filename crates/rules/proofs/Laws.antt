-- The laws over whole runs, and call by call, from what each call keeps.
use Rattle.std.proofs.Common.{◌≡◌, ℕ, ◌≤◌, Bool, List, [], ◌∷◌, ◌++◌, reverse, length, Some, sym, refl, ap, ◌∙◌, subst, arith}
use mathlib.Core.List.{reverse_aux}
use Rattle.wire.specs.Fields.{same_bytes}
use Rattle.fabric.specs.Meaning.{Meaning, Sound}
use Rattle.packets.specs.Commands.{set_mask, unlock_ethernet}
use Rattle.replies.specs.declared.change.Change.{Change}
use Rattle.rules.specs.declared.port.Port.{Port}
use Rattle.rules.specs.declared.port.Port.TheVariants.{One, Two, Three}
use Rattle.rules.specs.PerPort.{at}
use Rattle.rules.specs.State.{State, service, feeding, group_of, port_at}
use Rattle.rules.specs.Calls.{Call, Event, event_at, step, next, along, ending, final, transcript}
use Rattle.rules.specs.Table.{receiver_after, table, entered_all}
use Rattle.rules.specs.History.{accepted_in}
use Rattle.rules.specs.Standing.{standing}
use Rattle.rules.specs.Rights.{RightsHold}
use Rattle.rules.specs.Laws.{NamesFeeding, OnNamedInputs, state_after, Reached, LawsHold, QueueAnswersAlwaysMakeTablesTrue, OutputsAlwaysStayAsNamed, AskersAreAlwaysTold, UnitIsAlwaysWhatStands, RightsAlwaysHold, LawsHoldAfterEachCall}
use Rattle.rules.proofs.Queues.{Right, PortRight, none_known}
use Rattle.rules.proofs.Bytes.{receivers, tables, AgreesWith}
use Rattle.rules.proofs.Standing.{Stands, stands_at_start, stands_whole, input_is, lock_is}
use Rattle.rules.proofs.Rights.{judging, same_login, switching_granted, masks_granted, password_granted, only_eld}
use Rattle.rules.proofs.Calls.{Keeps, call_keeps}

-- ---- agreement at the start, and ever after

starts : (a : ℕ) (on : Bool) (m : Meaning) → Sound m → AgreesWith m.feeding (service a on m) []
unfolding receiver_after table accepted_in
starts a on m s = record { sound = s; ports = λ q. by q; kept = λ o. refl; fed = λ o. refl }
  where
    by : (q : Port) → PortRight m.feeding (at (tables []) q) (at (receivers []) q) (port_at (service a on m) q)
    by One = record { receiver = refl; few = omega arith; small = tt; right = none_known m.feeding }
    by Two = record { receiver = refl; few = omega arith; small = tt; right = none_known m.feeding }
    by Three = record { receiver = refl; few = omega arith; small = tt; right = none_known m.feeding }

-- what is known of the state from outside, all of it
record Known (a : ℕ) (on : Bool) (m : Meaning) (s : State) (h : List Event) : Type 0 where
  agrees : AgreesWith m.feeding s h
  stands : Stands a on m s h

reached_known : (a : ℕ) (on : Bool) (m : Meaning) (h : List Event) (s : State) → Reached a on m h s → Known a on m s h
unfolding Reached
reached_known a on m [] s r = subst (λ (t : State). Known a on m t []) (sym r.1) (record { agrees = starts a on m r.0; stands = stands_at_start a on m })
reached_known a on m (e ∷ h) s r =
    let k = reached_known a on m h r.0 r.1 in
    let n = call_keeps a on m r.0 h k.agrees k.stands e.call in
    subst (λ (t : State). Known a on m t (e ∷ h)) (sym r.3)
    (subst (λ (x : Event). Known a on m (next r.0 e.call) (x ∷ h)) (sym r.2) (record { agrees = n.agrees; stands = n.stands }))

reached_agrees : (a : ℕ) (on : Bool) (m : Meaning) (h : List Event) (s : State) → Reached a on m h s → AgreesWith m.feeding s h
reached_agrees a on m h s r = (reached_known a on m h s r).agrees

-- ---- what agreement says

-- where a port's queue is empty, its table is true
true_when_empty : (f₀ : ℕ → ℕ) (s : State) (h : List Event) → AgreesWith f₀ s h → (p : Port) → (port_at s p).queue.items ≡ [] → NamesFeeding (table p h) s
unfolding Right
true_when_empty f₀ s h v p e o i k = subst (λ (cs : List Change). length cs ≤ 7 → (o i : ℕ) → entered_all (at (tables h) p) cs o ≡ Some i → feeding s o ≡ i) e (v.ports p).right (omega arith) o i (by p k)
  where
    by : (p : Port) → table p h o ≡ Some i → at (tables h) p o ≡ Some i
    by One k = k
    by Two k = k
    by Three k = k

named_now : (m : Meaning) (h : List Event) (s : State) → AgreesWith m.feeding s h → OnNamedInputs m h s
named_now m h s v o within = input_is m s (accepted_in h) v.kept v.fed o

known_whole : (a : ℕ) (on : Bool) (m : Meaning) (s : State) (h : List Event) → Known a on m s h → s ≡ standing a on m h
known_whole a on m s h k =
    let v = k.agrees in
    stands_whole a on m s h k.stands (λ q. sym (by q)) (input_is m s (accepted_in h) v.kept v.fed) (lock_is m s (accepted_in h) v.kept v.fed)
  where
    by : (q : Port) → receiver_after q h ≡ (port_at s q).receiver
    by One = (k.agrees.ports One).receiver
    by Two = (k.agrees.ports Two).receiver
    by Three = (k.agrees.ports Three).receiver

-- what was accepted had no cause against it, in the state that the history says
rights_held : (a : ℕ) (on : Bool) (m : Meaning) (s : State) (h : List Event) → Stands a on m s h → (c : Call) → Keeps a on m s h c (step s c) → RightsHold on h (event_at s c)
rights_held a on m s h v c k = record {
  switching = λ t p d o x y.
      let g = k.granted p d x in
      let j = judging s p g.0 in
      let w = switching_granted j p d o (v.access ∙ t) g.1 y in
      record { user = w.user; logged_in = sym (v.ports p).login ∙ sym (same_login s p g.0) ∙ w.logged_in; bit_set = sym (λ i. v.masks i o (group_of w.user)) ∙ w.bit_set };
  masks = λ p g b o x.
      let w = k.granted p (set_mask g b o) x in
      sym (v.ports p).login ∙ sym (same_login s p w.0) ∙ masks_granted (judging s p w.0) p g b o w.1;
  ethernet = λ t d x. let g = k.granted Two d x in only_eld (judging s Two g.0) (v.ethernet ∙ t) d g.1;
  password = λ p x y. let g = k.granted p (unlock_ethernet x) y in sym (ap (same_bytes x) v.password) ∙ password_granted (judging s p g.0) p x g.1;
  keypad = λ t x. k.unlocked (v.keypad ∙ t) x;
}

-- ---- call by call

pub started : (a : ℕ) (on : Bool) (m : Meaning) → Sound m → Reached a on m [] (service a on m)
unfolding Reached
started a on m z = (z, refl)

pub reached_sound : (a : ℕ) (on : Bool) (m : Meaning) (h : List Event) (s : State) → Reached a on m h s → Sound s.fabric
reached_sound a on m h s r = (reached_agrees a on m h s r).sound

pub outputs_named : (a : ℕ) (on : Bool) (m : Meaning) (h : List Event) (s : State) → Reached a on m h s → OnNamedInputs m h s
outputs_named a on m h s r = named_now m h s (reached_agrees a on m h s r)

pub reached_standing : (a : ℕ) (on : Bool) (m : Meaning) (h : List Event) (s : State) → Reached a on m h s → s ≡ standing a on m h
reached_standing a on m h s r = known_whole a on m s h (reached_known a on m h s r)

pub laws_after : LawsHoldAfterEachCall
unfolding Reached
laws_after s c a on m h r =
    let v = reached_known a on m h s r in
    let k = call_keeps a on m s h v.agrees v.stands c in
    record {
      reached = (s, r, refl, refl);
      tables = λ p q. true_when_empty m.feeding (next s c) (event_at s c ∷ h) k.agrees p (k.emptied p q.asked);
      outputs = named_now m (event_at s c ∷ h) (next s c) k.agrees;
      asker = k.asker;
      standing = known_whole a on m (next s c) (event_at s c ∷ h) (record { agrees = k.agrees; stands = k.stands });
      rights = rights_held a on m s h v.stands c k;
    }

-- ---- whole lists

pub after-transcript : (s : State) (cs : List Call) → state_after s (transcript s cs) ≡ final s cs
unfolding along ending
after-transcript s [] = refl
after-transcript s (c ∷ cs) = after-transcript (next s c) cs

pub reached_along : (a : ℕ) (on : Bool) (m : Meaning) (h : List Event) (s : State) → Reached a on m h s → (cs : List Call) → Reached a on m (reverse_aux (transcript s cs) h) (final s cs)
unfolding along ending
reached_along a on m h s r [] = r
reached_along a on m h s r (c ∷ cs) = reached_along a on m (event_at s c ∷ h) (next s c) (laws_after s c a on m h r).reached cs

-- the state after a list of calls is reached by its transcript
pub reached_by : (a : ℕ) (on : Bool) (m : Meaning) → Sound m → (cs : List Call) → Reached a on m (reverse (transcript (service a on m) cs)) (final (service a on m) cs)
reached_by a on m z cs = reached_along a on m [] (service a on m) (started a on m z) cs

head_of : {x y : Event} {xs ys : List Event} → x ∷ xs ≡ y ∷ ys → x ≡ y
head_of e = cc

tail_of : {x y : Event} {xs ys : List Event} → x ∷ xs ≡ y ∷ ys → xs ≡ ys
tail_of e = cc

-- the laws hold at each event of a list
at_event : (a : ℕ) (on : Bool) (m : Meaning) (h : List Event) (s : State) → Reached a on m h s → (cs : List Call) (before later : List Event) (e : Event)
    → transcript s cs ≡ before ++ e ∷ later → LawsHold a on m (reverse_aux before h) e (state_after s (before ++ e ∷ []))
unfolding along ending
at_event a on m h s r [] [] later e t = absurd cc
at_event a on m h s r [] (b ∷ before) later e t = absurd cc
at_event a on m h s r (c ∷ cs) [] later e t = subst (λ (x : Event). LawsHold a on m h x (next s x.call)) (head_of t) (laws_after s c a on m h r)
at_event a on m h s r (c ∷ cs) (b ∷ before) later e t =
    subst (λ (x : Event). LawsHold a on m (reverse_aux before (x ∷ h)) e (state_after (next s x.call) (before ++ e ∷ []))) (head_of t)
    (at_event a on m (event_at s c ∷ h) (next s c) (laws_after s c a on m h r).reached cs before later e (tail_of t))

pub laws_at : (a : ℕ) (on : Bool) (m : Meaning) → Sound m → (cs : List Call) (before later : List Event) (e : Event)
    → transcript (service a on m) cs ≡ before ++ e ∷ later → LawsHold a on m (reverse before) e (state_after (service a on m) (before ++ e ∷ []))
laws_at a on m z cs before later e t = at_event a on m [] (service a on m) (started a on m z) cs before later e t

pub tables_true : QueueAnswersAlwaysMakeTablesTrue
tables_true a on m z cs before later e p t q = (laws_at a on m z cs before later e t).tables p q

pub askers_told : AskersAreAlwaysTold
askers_told a on m z cs before later e t = (laws_at a on m z cs before later e t).asker

-- each beginning of a list reaches the state after its calls
at_moment : (a : ℕ) (on : Bool) (m : Meaning) (h : List Event) (s : State) → Reached a on m h s → (cs : List Call) (before later : List Event)
    → transcript s cs ≡ before ++ later → Reached a on m (reverse_aux before h) (state_after s before)
unfolding along ending
at_moment a on m h s r cs [] later t = r
at_moment a on m h s r [] (b ∷ before) later t = absurd cc
at_moment a on m h s r (c ∷ cs) (b ∷ before) later t =
    subst (λ (x : Event). Reached a on m (reverse_aux before (x ∷ h)) (state_after (next s x.call) before)) (head_of t)
    (at_moment a on m (event_at s c ∷ h) (next s c) (laws_after s c a on m h r).reached cs before later (tail_of t))

pub outputs_as_named : OutputsAlwaysStayAsNamed
outputs_as_named a on m z cs before later t =
    let s : State = service a on m in
    outputs_named a on m (reverse before) (state_after s before) (at_moment a on m [] s (started a on m z) cs before later t)

pub units_stand : UnitIsAlwaysWhatStands
units_stand a on m z cs before later t =
    let s : State = service a on m in
    reached_standing a on m (reverse before) (state_after s before) (at_moment a on m [] s (started a on m z) cs before later t)

pub rights_throughout : RightsAlwaysHold
rights_throughout a on m z cs before later e t = (laws_at a on m z cs before later e t).rights
