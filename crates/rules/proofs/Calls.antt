-- Each call keeps the state in agreement with what is known from outside.
use Rattle.std.proofs.Common.{◌≡◌, ℕ, Bool, true, false, cond, not, eqb, ltb, List, [], ◌∷◌, length, Some, None, Ok, Err, Option, Result, sym, refl, ap, ◌∙◌, subst, ⊎_elim}
use mathlib.Core.Path.{subst₃}
use Rattle.std.proofs.lemmas.Bool.{eqb-true, not-true}
use Rattle.wire.specs.Kept.{Kept}
use Rattle.fabric.specs.Meaning.{Meaning, within, routed}
use Rattle.packets.specs.Address.{Parts, parts, matches}
use Rattle.packets.specs.Commands.{Command, command_in}
use Rattle.packets.specs.Receiver.{Receiver, idle, Packet, hear}
use Rattle.replies.specs.declared.change.Change.{Change}
use Rattle.replies.specs.Replies.{ack, nak, reply_bytes, begins_with_ack}
use Rattle.packets.specs.declared.packet.PacketFault.{PacketFault}
use Rattle.rules.specs.declared.fault.CommandFault.{CommandFault}
use Rattle.rules.specs.declared.fault.CommandFault.TheVariants.{Packet as NoCommand}
use Rattle.rules.specs.declared.port.PerPort.{PerPort}
use Rattle.rules.specs.declared.port.Port.{Port}
use Rattle.rules.specs.declared.port.Port.TheVariants.{One, Two, Three}
use Rattle.rules.specs.declared.refusal.Refusal.{Refusal}
use Rattle.rules.specs.declared.refusal.Refusal.TheVariants.{ShortBuffer, NoSuchOutput, NoSuchInput, KeypadLocked, OutputLocked, CannotBeMade}
use Rattle.rules.specs.PerPort.{at, set_at, three, number_of, port_of}
use Rattle.rules.specs.State.{State, port_at, feeding, with_port, with_receiver, with_login, with_user, with_fabric, with_lock}
use Rattle.rules.specs.Switching.{unless, first_of, noted, do_set, do_lock, do_unlock, may_set, may_lock, can_be_made}
use Rattle.rules.specs.Commands.{letter, fault_of, effect, contents, unless_fault, judged}
use Rattle.rules.specs.Panel.{panel_refusal}
use Rattle.rules.specs.Calls.{Call, byte, gap, hang_up, panel_set, panel_lock, panel_unlock, enter_user, Outcome, Event, replied, without_reply, refused, judged_outcome, if_matching, if_addressed, packet_step, byte_step, gap_step, hang_up_step, unless_refused, shortest_buffer, step}
use Rattle.rules.specs.Table.{Table, asked, asked_by, command_of, command_of_parts, command_if, accepted_command, accepted_at, told_in, receiver_after, table}
use Rattle.rules.specs.History.{Accepted, was_set, was_locked, was_unlocked, switched_by, switched_at, with_accepted, accepted_in}
use Rattle.rules.specs.Standing.{no_effect, was_accepted, output_of}
use Rattle.rules.specs.Rights.{is_panel}
use Rattle.rules.specs.Laws.{Tells, AskerTold}
use Rattle.rules.proofs.Queues.{PortRight}
use Rattle.rules.proofs.Switchings.{Agrees, both_set, set_agrees, lock_agrees, unlock_agrees}
use Rattle.rules.proofs.Standing.{Stands, Goes, stands_moved, stands_next, input_is, lock_is, goes_nowhere, command_goes, switched_goes, hung_up_goes, entered_goes}
use Rattle.rules.proofs.Commands.{effect_agrees, first_none}
use Rattle.rules.proofs.Rights.{judging}
use Rattle.rules.proofs.Bytes.{receivers, tables, AgreesWith, Emptied, nothing_is_no_queue, moved_agrees, updated_by_reply, tells_by_reply, emptied_by, heard, receivers_heard, elsewhere, no_command, without_ack, tables_without_ack, emptied_without_ack, told_without_ack, command_own, accepted_as, tables_with_ack, emptied_with_ack, told_with_ack}
use Rattle.rules.proofs.Seen.{refused_seen, gap_seen, hang_up_seen, set_seen, lock_seen, unlock_seen, entry_seen, unacknowledged_seen, command_seen}

-- what a call keeps, by its outcome, after the history h
pub record Keeps (a : ℕ) (on : Bool) (m : Meaning) (s : State) (h : List Event) (c : Call) (o : Outcome) : Type 0 where
  pub agrees : AgreesWith m.feeding o.next (record { call = c; answer = o.answer } ∷ h)
  pub stands : Stands a on m o.next (record { call = c; answer = o.answer } ∷ h)
  pub emptied : Emptied h (record { call = c; answer = o.answer }) o.next
  pub asker : AskerTold m h (record { call = c; answer = o.answer }) o.next
  pub granted : (q : Port) (d : Command) → accepted_command q h (record { call = c; answer = o.answer }) ≡ Some d → (r : Receiver) × (fault_of (judging s q r) q d ≡ None)
  pub unlocked : s.keypad ≡ true → is_panel c ≡ true → was_accepted o.answer.result ≡ false

no_such : {X : Type 0} (d : Command) → ◌≡◌ {A = Option Command} None (Some d) → X
no_such d e = absurd cc

no_panel : {X : Type 0} → false ≡ true → X
no_panel e = absurd cc

agrees_as : (f₀ : ℕ → ℕ) (s : State) {rs ks : PerPort Receiver} {ts us : PerPort Table} {xs ys : List Accepted} → ks ≡ rs → us ≡ ts → ys ≡ xs → Agrees f₀ s rs ts xs → Agrees f₀ s ks us ys
agrees_as f₀ s p q r v = subst₃ (λ (x : PerPort Receiver) (y : PerPort Table) (z : List Accepted). Agrees f₀ s x y z) (sym p) (sym q) (sym r) v

-- ---- bytes

module _ (a : ℕ) (on : Bool) (m : Meaning) (s : State) (h : List Event) (v : AgreesWith m.feeding s h) (w : Stands a on m s h) (p : Port) (b room : ℕ) (r : Receiver) (hr : (hear (receiver_after p h) b).next ≡ r) where
  abbrev moved : State
  moved = with_port p (with_receiver r (port_at s p)) s

  abbrev ByteKeeps : Outcome → Type 0
  ByteKeeps o = Keeps a on m s h (byte (number_of p) b room) o

  moved_on : Agrees m.feeding moved (set_at (receivers h) p r) (tables h) (accepted_in h)
  moved_on = moved_agrees m.feeding s (receivers h) (tables h) (accepted_in h) p r v

  stood : Stands a on m moved h
  stood = stands_moved m s h p r w

  -- the reply, if there is one, does not begin with ACK
  no_ack_keeps : (n : ℕ) (ys : List ℕ) → begins_with_ack ys ≡ false → ByteKeeps (record { next = moved; answer = record { result = Ok n; reply = ys } })
  no_ack_keeps n ys e = record {
    agrees = agrees_as m.feeding moved (receivers_heard h b room n ys p r hr) (tables_without_ack h p b room n ys e) (accepted_as h p b room n ys _ (without_ack h p b room n ys e p)) moved_on;
    stands = stands_next m moved moved h (heard h p b room n ys) (unacknowledged_seen h p b room n ys e) (goes_nowhere m (accepted_in h) moved) stood;
    emptied = emptied_without_ack h p b room n ys e moved;
    asker = told_without_ack h p b room n ys e m moved;
    granted = λ q d x. no_such d (sym (no_command h p b room n ys e q) ∙ x);
    unlocked = λ k x. no_panel x;
  }

  silence_keeps : ByteKeeps (without_reply moved)
  silence_keeps = no_ack_keeps 0 [] refl

  nak_keeps : (hi lo x : ℕ) → ByteKeeps (replied moved (reply_bytes hi lo (nak x)))
  nak_keeps hi lo x = no_ack_keeps (length (reply_bytes hi lo (nak x))) (reply_bytes hi lo (nak x)) refl

  ack_keeps : (hi lo : ℕ) (c : Command) → command_of (hear (receiver_after p h) b).packet ≡ Some c → fault_of moved p c ≡ None
      → ByteKeeps (replied (effect moved p c) (reply_bytes hi lo (ack (contents moved p c))))
  ack_keeps hi lo c a f =
      let ys : List ℕ = reply_bytes hi lo (ack (contents moved p c)) in
      let n : ℕ = length ys in
      let command : accepted_command p h (heard h p b room n ys) ≡ Some c = command_own h b room n ys p (Some c) a refl in
      let own : accepted_at p h (heard h p b room n ys) ≡ asked c = ap asked_by command in
      let then = effect_agrees m.feeding moved (set_at (receivers h) p r) (tables h) (accepted_in h) moved_on p c f in
      let later : List Accepted = with_accepted (switched_by (asked c)) (accepted_in h) in
      record {
        agrees = agrees_as m.feeding (effect moved p c) (receivers_heard h b room n ys p r hr)
            (tables_with_ack h b room n ys p (asked c) own
            ∙ ap (λ (z : Table). set_at (tables h) p z) (updated_by_reply m.feeding moved (set_at (receivers h) p r) (tables h) (accepted_in h) moved_on p hi lo (at (tables h) p) c))
            (accepted_as h p b room n ys (asked c) own)
            then;
        stands = stands_next m moved (effect moved p c) h (heard h p b room n ys) (command_seen h p b room n ys c command)
            (command_goes m (accepted_in h) moved p (input_is m moved (accepted_in h) moved_on.kept moved_on.fed) (lock_is m moved (accepted_in h) moved_on.kept moved_on.fed) c
            (input_is m (effect moved p c) later then.kept then.fed) (lock_is m (effect moved p c) later then.kept then.fed))
            stood;
        emptied = emptied_with_ack h p b room n ys (asked c) own (effect moved p c) (emptied_by moved p c);
        asker = told_with_ack h p b room n ys (asked c) own m (effect moved p c)
            (subst (λ (cs : List Change). Tells (effect moved p c) cs (asked c) (told_in (heard h p b room n ys))) (ap (λ (k : Kept Change). k.items) (stood.ports p).queue) (tells_by_reply m.feeding moved (set_at (receivers h) p r) (tables h) (accepted_in h) moved_on p hi lo c));
        granted = λ q d x.
            ⊎_elim (λ z. no_such d (sym z ∙ x))
            (λ z. subst (λ (q : Port). accepted_command q h (heard h p b room n ys) ≡ Some d → (r : Receiver) × (fault_of (judging s q r) q d ≡ None)) z
            (λ y. (r, subst (λ (k : Command). fault_of moved p k ≡ None) (let same : Some c ≡ Some d = sym command ∙ y in let is : c ≡ d = cc in is) f)) x) (elsewhere h p b room n ys q);
        unlocked = λ k x. no_panel x;
      }

  carried_out_keeps : (hi lo : ℕ) (c : Command) (w : Option CommandFault) → fault_of moved p c ≡ w → command_of (hear (receiver_after p h) b).packet ≡ Some c
      → ByteKeeps (judged_outcome hi lo (unless_fault moved p c w))
  carried_out_keeps hi lo c None f a = ack_keeps hi lo c a f
  carried_out_keeps hi lo c (Some x) f a = nak_keeps hi lo (letter x)

  judged_keeps : (k : Packet) (pa : Parts) (d : Result Command PacketFault) → command_in k pa.body ≡ d → (hear (receiver_after p h) b).packet ≡ Some k → parts k.listed.items ≡ Some pa
      → ByteKeeps (judged_outcome pa.high pa.low (judged moved p d))
  judged_keeps k pa (Err x) e f g = nak_keeps pa.high pa.low (letter (NoCommand x))
  judged_keeps k pa (Ok c) e f g =
      carried_out_keeps pa.high pa.low c (fault_of moved p c) refl (ap command_of f ∙ ap (command_of_parts k) g ∙ ap command_if e)

  matching_keeps : (k : Packet) (pa : Parts) (m : Bool) → (hear (receiver_after p h) b).packet ≡ Some k → parts k.listed.items ≡ Some pa → ByteKeeps (if_matching m moved p k pa)
  matching_keeps k pa false f g = silence_keeps
  matching_keeps k pa true f g = judged_keeps k pa (command_in k pa.body) refl f g

  addressed_keeps : (k : Packet) (pa : Option Parts) → (hear (receiver_after p h) b).packet ≡ Some k → parts k.listed.items ≡ pa → ByteKeeps (if_addressed moved p k pa)
  addressed_keeps k None f g = silence_keeps
  addressed_keeps k (Some pa) f g = matching_keeps k pa (matches moved.address pa.high pa.low) f g

  packet_keeps : (k : Option Packet) → (hear (receiver_after p h) b).packet ≡ k → ByteKeeps (packet_step moved p k)
  packet_keeps None f = silence_keeps
  packet_keeps (Some k) f = addressed_keeps k (parts k.listed.items) f refl

-- ---- all calls

port_is : (n : ℕ) (p : Port) → port_of n ≡ Some p → n ≡ number_of p
port_is n p e = by (eqb n 1) (eqb n 2) (eqb n 3) refl refl refl e
  where
    by : (a b c : Bool) → eqb n 1 ≡ a → eqb n 2 ≡ b → eqb n 3 ≡ c → cond a (Some One) (cond b (Some Two) (cond c (Some Three) None)) ≡ Some p → n ≡ number_of p
    by true b c x y z e = eqb-true n 1 x ∙ ap number_of (let q : One ≡ p = cc in q)
    by false true c x y z e = eqb-true n 2 y ∙ ap number_of (let q : Two ≡ p = cc in q)
    by false false true x y z e = eqb-true n 3 z ∙ ap number_of (let q : Three ≡ p = cc in q)
    by false false false x y z e = absurd cc

pub first_one : {F : Type 0} (a : Option F) (fs : List (Option F)) → first_of (a ∷ fs) ≡ None → (a ≡ None) × (first_of fs ≡ None)
first_one None fs e = (refl, e)
first_one (Some x) fs e = absurd cc

module _ (a : ℕ) (on : Bool) (m : Meaning) (s : State) (h : List Event) (v : AgreesWith m.feeding s h) (w : Stands a on m s h) where
  stays : (c : Call) (r : Refusal) → Stands a on m s (record { call = c; answer = record { result = Err r; reply = [] } } ∷ h)
  stays c r = stands_next m s s h _ (refused_seen h r c) (goes_nowhere m (accepted_in h) s) w

  refused_keeps : (c : Call) (r : Refusal) → Keeps a on m s h c (refused s r)
  unfolding receiver_after table accepted_in
  refused_keeps (byte n b room) r = record { agrees = agrees_as m.feeding s refl refl (not_switched (port_of n)) v; stands = stays (byte n b room) r; emptied = λ q e. absurd (nothing_is_no_queue e); asker = λ q. tt; granted = λ q d x. no_such d x; unlocked = λ k x. refl }
    where
      not_switched : (q : Option Port) → with_accepted (switched_at q h (record { call = byte n b room; answer = record { result = Err r; reply = [] } })) (accepted_in h) ≡ accepted_in h
      not_switched None = refl
      not_switched (Some q) = refl
  refused_keeps (gap n) r = record { agrees = v; stands = stays (gap n) r; emptied = λ q e. absurd (nothing_is_no_queue e); asker = λ q. tt; granted = λ q d x. no_such d x; unlocked = λ k x. refl }
  refused_keeps (hang_up n) r = record { agrees = v; stands = stays (hang_up n) r; emptied = λ q e. absurd (nothing_is_no_queue e); asker = λ q. tt; granted = λ q d x. no_such d x; unlocked = λ k x. refl }
  refused_keeps (panel_set o i) r = record { agrees = v; stands = stays (panel_set o i) r; emptied = λ q e. absurd (nothing_is_no_queue e); asker = λ q. tt; granted = λ q d x. no_such d x; unlocked = λ k x. refl }
  refused_keeps (panel_lock o i) r = record { agrees = v; stands = stays (panel_lock o i) r; emptied = λ q e. absurd (nothing_is_no_queue e); asker = λ q. tt; granted = λ q d x. no_such d x; unlocked = λ k x. refl }
  refused_keeps (panel_unlock o i) r = record { agrees = v; stands = stays (panel_unlock o i) r; emptied = λ q e. absurd (nothing_is_no_queue e); asker = λ q. tt; granted = λ q d x. no_such d x; unlocked = λ k x. refl }
  refused_keeps (enter_user u n w) r = record { agrees = v; stands = stays (enter_user u n w) r; emptied = λ q e. absurd (nothing_is_no_queue e); asker = λ q. tt; granted = λ q d x. no_such d x; unlocked = λ k x. refl }

  receiver_is : (q : Port) → receiver_after q h ≡ (port_at s q).receiver
  receiver_is One = (v.ports One).receiver
  receiver_is Two = (v.ports Two).receiver
  receiver_is Three = (v.ports Three).receiver

  byte_keeps : (n b room : ℕ) (q : Option Port) → port_of n ≡ q → Keeps a on m s h (byte n b room) (byte_step s b q)
  byte_keeps n b room None e = refused_keeps _ _
  byte_keeps n b room (Some q) e =
      subst (λ (n : ℕ). Keeps a on m s h (byte n b room) (byte_step s b (Some q))) (sym (port_is n q e))
      (let now = hear (port_at s q).receiver b in
      packet_keeps a on m s h v w q b room now.next (ap (λ (x : Receiver). (hear x b).next) (receiver_is q)) now.packet (ap (λ (x : Receiver). (hear x b).packet) (receiver_is q)))

  roomy_keeps : (n b room : ℕ) (short : Bool) → Keeps a on m s h (byte n b room) (cond short (refused s ShortBuffer) (byte_step s b (port_of n)))
  roomy_keeps n b room true = refused_keeps _ _
  roomy_keeps n b room false = byte_keeps n b room (port_of n) refl

  abbrev event_of : Call → Event
  event_of c = record { call = c; answer = record { result = Ok 0; reply = [] } }

  gap_receivers : (q : Port) → receivers (event_of (gap (number_of q)) ∷ h) ≡ set_at (receivers h) q idle
  unfolding receiver_after
  gap_receivers One = refl
  gap_receivers Two = refl
  gap_receivers Three = refl

  gap_keeps : (n : ℕ) (q : Option Port) → port_of n ≡ q → Keeps a on m s h (gap n) (gap_step s q)
  unfolding table accepted_in
  gap_keeps n None e = refused_keeps _ _
  gap_keeps n (Some q) e =
      subst (λ (n : ℕ). Keeps a on m s h (gap n) (gap_step s (Some q))) (sym (port_is n q e))
      (record {
        agrees = agrees_as m.feeding _ (gap_receivers q) refl refl (moved_agrees m.feeding s (receivers h) (tables h) (accepted_in h) q idle v);
        stands = let t = with_port q (with_receiver idle (port_at s q)) s in stands_next m t t h (event_of (gap (number_of q))) (gap_seen h (number_of q)) (goes_nowhere m (accepted_in h) t) (stands_moved m s h q idle w);
        emptied = λ q e. absurd (nothing_is_no_queue e);
        asker = λ q. tt;
        granted = λ q d x. no_such d x;
        unlocked = λ k x. no_panel x;
      })

  hung_up : (q : Port) → Agrees m.feeding (with_port q (with_receiver idle (with_login None (port_at s q))) s) (set_at (receivers h) q idle) (tables h) (accepted_in h)
  hung_up q = record {
    sound = v.sound;
    ports = both_set (λ q l x. PortRight (feeding s) (at (tables h) q) l x) (receivers h) s.ports q idle (with_receiver idle (with_login None (port_at s q))) v.ports
        (let w = v.ports q in record { receiver = refl; few = w.few; small = w.small; right = w.right });
    kept = v.kept;
    fed = v.fed;
  }

  hang_up_receivers : (q : Port) → receivers (event_of (hang_up (number_of q)) ∷ h) ≡ set_at (receivers h) q idle
  unfolding receiver_after
  hang_up_receivers One = refl
  hang_up_receivers Two = refl
  hang_up_receivers Three = refl

  hang_up_keeps : (n : ℕ) (q : Option Port) → port_of n ≡ q → Keeps a on m s h (hang_up n) (hang_up_step s q)
  unfolding table accepted_in
  hang_up_keeps n None e = refused_keeps _ _
  hang_up_keeps n (Some q) e =
      subst (λ (n : ℕ). Keeps a on m s h (hang_up n) (hang_up_step s (Some q))) (sym (port_is n q e))
      (record {
        agrees = agrees_as m.feeding _ (hang_up_receivers q) refl refl (hung_up q);
        stands = stands_next m s _ h (event_of (hang_up (number_of q))) (hang_up_seen h q) (hung_up_goes m (accepted_in h) s q) w;
        emptied = λ q e. absurd (nothing_is_no_queue e);
        asker = λ q. tt;
        granted = λ q d x. no_such d x;
        unlocked = λ k x. no_panel x;
      })

  -- an accepted setting, lock or unlock at the panel
  module _ (t : State) (o : ℕ) (z : Accepted) (is_o : output_of z ≡ o) (then : Agrees m.feeding (noted s o t) (receivers h) (tables h) (z ∷ accepted_in h)) where
    panel_goes : t.address ≡ s.address → t.access ≡ s.access → t.fabric.inputs ≡ s.fabric.inputs → t.fabric.outputs ≡ s.fabric.outputs → t.fabric.makeable ≡ s.fabric.makeable
        → t.masks ≡ s.masks → t.users ≡ s.users → t.keypad ≡ s.keypad → t.ethernet ≡ s.ethernet → t.password ≡ s.password → s.ports ≡ t.ports
        → Goes m (accepted_in h) s (noted s o t) no_effect (three no_effect) (three false) None (Some z)
    panel_goes = switched_goes m (accepted_in h) s t o z is_o (input_is m s (accepted_in h) v.kept v.fed) (lock_is m s (accepted_in h) v.kept v.fed)
        (input_is m (noted s o t) (z ∷ accepted_in h) then.kept then.fed) (lock_is m (noted s o t) (z ∷ accepted_in h) then.kept then.fed) One

  -- a panel call, by what refuses it
  set_keeps : (o i : ℕ) (r : Option Refusal) → (r ≡ None → Agrees m.feeding (do_set s o i) (receivers h) (tables h) (was_set o i ∷ accepted_in h)) → (r ≡ None → s.keypad ≡ false) → Keeps a on m s h (panel_set o i) (unless_refused s r (do_set s o i))
  unfolding receiver_after table accepted_in
  set_keeps o i None g free = record {
    agrees = g refl;
    stands = stands_next m s (do_set s o i) h (event_of (panel_set o i)) (set_seen h o i) (panel_goes (with_fabric (routed s.fabric o i) s) o (was_set o i) refl (g refl) refl refl refl refl refl refl refl refl refl refl refl) w;
    emptied = λ q e. absurd (nothing_is_no_queue e);
    asker = λ q. tt;
    granted = λ q d x. no_such d x;
    unlocked = λ k x. no_panel (sym (free refl) ∙ k);
  }
  set_keeps o i (Some x) g free = refused_keeps _ x

  lock_keeps : (o i : ℕ) (r : Option Refusal) → (r ≡ None → Agrees m.feeding (do_lock s o i) (receivers h) (tables h) (was_locked o i ∷ accepted_in h)) → (r ≡ None → s.keypad ≡ false) → Keeps a on m s h (panel_lock o i) (unless_refused s r (do_lock s o i))
  unfolding receiver_after table accepted_in
  lock_keeps o i None g free = record {
    agrees = g refl;
    stands = stands_next m s (do_lock s o i) h (event_of (panel_lock o i)) (lock_seen h o i) (panel_goes (with_lock o true (with_fabric (routed s.fabric o i) s)) o (was_locked o i) refl (g refl) refl refl refl refl refl refl refl refl refl refl refl) w;
    emptied = λ q e. absurd (nothing_is_no_queue e);
    asker = λ q. tt;
    granted = λ q d x. no_such d x;
    unlocked = λ k x. no_panel (sym (free refl) ∙ k);
  }
  lock_keeps o i (Some x) g free = refused_keeps _ x

  unlock_keeps : (o i : ℕ) (r : Option Refusal) → (r ≡ None → Agrees m.feeding (do_unlock s o) (receivers h) (tables h) (was_unlocked o i ∷ accepted_in h)) → (r ≡ None → s.keypad ≡ false) → Keeps a on m s h (panel_unlock o i) (unless_refused s r (do_unlock s o))
  unfolding receiver_after table accepted_in
  unlock_keeps o i None g free = record {
    agrees = g refl;
    stands = stands_next m s (do_unlock s o) h (event_of (panel_unlock o i)) (unlock_seen h o i) (panel_goes (with_lock o false s) o (was_unlocked o i) refl (g refl) refl refl refl refl refl refl refl refl refl refl refl) w;
    emptied = λ q e. absurd (nothing_is_no_queue e);
    asker = λ q. tt;
    granted = λ q d x. no_such d x;
    unlocked = λ k x. no_panel (sym (free refl) ∙ k);
  }
  unlock_keeps o i (Some x) g free = refused_keeps _ x

  user_keeps : (u : ℕ) (n x : List ℕ) (r : Option Refusal) → Keeps a on m s h (enter_user u n x) (unless_refused s r (with_user u (record { name = n; password = x }) s))
  unfolding receiver_after table accepted_in
  user_keeps u n x None = record {
    agrees = record { sound = v.sound; ports = v.ports; kept = v.kept; fed = v.fed };
    stands = stands_next m s _ h (event_of (enter_user u n x)) (entry_seen h u n x) (entered_goes m (accepted_in h) s u (record { name = n; password = x })) w;
    emptied = λ q e. absurd (nothing_is_no_queue e);
    asker = λ q. tt;
    granted = λ q d x. no_such d x;
    unlocked = λ k x. no_panel x;
  }
  user_keeps u n x (Some r) = refused_keeps _ r

  keypad_free : (o i : ℕ) → panel_refusal s o i ≡ None → s.keypad ≡ false
  keypad_free o i e =
      let x = first_none (within o s.fabric.outputs) NoSuchOutput (unless (within i s.fabric.inputs) NoSuchInput ∷ unless (not s.keypad) KeypadLocked ∷ []) e in
      let y = first_none (within i s.fabric.inputs) NoSuchInput (unless (not s.keypad) KeypadLocked ∷ []) x.1 in
      not-true _ (first_none (not s.keypad) KeypadLocked [] y.1).0

  pub call_keeps : (c : Call) → Keeps a on m s h c (step s c)
  call_keeps (byte n b room) = roomy_keeps n b room (ltb room shortest_buffer)
  call_keeps (gap n) = gap_keeps n (port_of n) refl
  call_keeps (hang_up n) = hang_up_keeps n (port_of n) refl
  call_keeps (panel_set o i) = set_keeps o i _ (λ e.
      let a = first_one (panel_refusal s o i) (unless (may_set s o) OutputLocked ∷ unless (can_be_made s o i) CannotBeMade ∷ []) e in
      let b = first_none (may_set s o) OutputLocked (unless (can_be_made s o i) CannotBeMade ∷ []) a.1 in
      set_agrees m.feeding s (receivers h) (tables h) (accepted_in h) v o i (first_none (can_be_made s o i) CannotBeMade [] b.1).0 (not-true _ b.0))
      (λ e. keypad_free o i (first_one (panel_refusal s o i) (unless (may_set s o) OutputLocked ∷ unless (can_be_made s o i) CannotBeMade ∷ []) e).0)
  call_keeps (panel_lock o i) = lock_keeps o i _ (λ e.
      let a = first_one (panel_refusal s o i) (unless (may_lock s o i) OutputLocked ∷ unless (can_be_made s o i) CannotBeMade ∷ []) e in
      let b = first_none (may_lock s o i) OutputLocked (unless (can_be_made s o i) CannotBeMade ∷ []) a.1 in
      lock_agrees m.feeding s (receivers h) (tables h) (accepted_in h) v o i (first_none (can_be_made s o i) CannotBeMade [] b.1).0)
      (λ e. keypad_free o i (first_one (panel_refusal s o i) (unless (may_lock s o i) OutputLocked ∷ unless (can_be_made s o i) CannotBeMade ∷ []) e).0)
  call_keeps (panel_unlock o i) = unlock_keeps o i _ (λ e.
      let a = first_none (within o s.fabric.outputs) NoSuchOutput (unless (within i s.fabric.inputs) NoSuchInput ∷ unless (not s.keypad) KeypadLocked ∷ []) e in
      unlock_agrees m.feeding s (receivers h) (tables h) (accepted_in h) v o i a.0)
      (keypad_free o i)
  call_keeps (enter_user u n x) = user_keeps u n x _
