-- A refused call changes nothing, and a byte that brings no ACK changes the receiver of its port alone.
use Rattle.std.proofs.Common.{◌≡◌, ℕ, Bool, true, false, cond, ltb, [], Some, None, Ok, Err, Option, Result, refl, ap, ◌∙◌, subst}
use Rattle.packets.specs.Address.{Parts, parts, matches}
use Rattle.packets.specs.Commands.{Command, command_in}
use Rattle.packets.specs.Receiver.{Receiver, Packet, hear}
use Rattle.packets.specs.declared.packet.PacketFault.{PacketFault}
use Rattle.replies.specs.Replies.{begins_with_ack}
use Rattle.rules.specs.declared.fault.CommandFault.{CommandFault}
use Rattle.rules.specs.declared.port.Port.{Port}
use Rattle.rules.specs.declared.port.Port.TheVariants.{One, Two, Three}
use Rattle.rules.specs.declared.refusal.Refusal.{Refusal}
use Rattle.rules.specs.declared.refusal.Refusal.TheVariants.{ShortBuffer}
use Rattle.rules.specs.PerPort.{port_of}
use Rattle.rules.specs.State.{State, port_at, with_port, with_receiver, with_user}
use Rattle.rules.specs.Switching.{do_set, do_lock, do_unlock}
use Rattle.rules.specs.Commands.{fault_of, unless_fault, judged}
use Rattle.rules.specs.Panel.{set_refusal, lock_refusal, unlock_refusal, user_refusal}
use Rattle.rules.specs.Calls.{byte, gap, hang_up, panel_set, panel_lock, panel_unlock, enter_user, Outcome, refused, judged_outcome, if_matching, if_addressed, packet_step, byte_step, gap_step, hang_up_step, unless_refused, shortest_buffer}
use Rattle.rules.specs.Laws.{RefusedCallsChangeNothing, WithoutAckOnlyTheReceiverChanges}

-- ---- refused by number

abbrev Unchanged : State → Outcome → Refusal → Type 0
Unchanged s o r = o.answer.result ≡ Err r → (o.next ≡ s) × (o.answer.reply ≡ [])

taken : {X : Type 0} (n : ℕ) (r : Refusal) → ◌≡◌ {A = Result ℕ Refusal} (Ok n) (Err r) → X
taken n r e = absurd cc

-- a packet is never refused by number
matching_taken : (m : Bool) (s t : State) (p : Port) (k : Packet) (a : Parts) (r : Refusal) → Unchanged t (if_matching m s p k a) r
matching_taken false s t p k a r e = taken _ r e
matching_taken true s t p k a r e = taken _ r e

addressed_taken : (s t : State) (p : Port) (k : Packet) (a : Option Parts) (r : Refusal) → Unchanged t (if_addressed s p k a) r
addressed_taken s t p k None r e = taken _ r e
addressed_taken s t p k (Some a) r e = matching_taken (matches s.address a.high a.low) s t p k a r e

packet_taken : (s t : State) (p : Port) (k : Option Packet) (r : Refusal) → Unchanged t (packet_step s p k) r
packet_taken s t p None r e = taken _ r e
packet_taken s t p (Some k) r e = addressed_taken s t p k (parts k.listed.items) r e

module _ (s : State) where
  byte_refused : (b : ℕ) (p : Option Port) (r : Refusal) → Unchanged s (byte_step s b p) r
  byte_refused b None r e = (refl, refl)
  byte_refused b (Some p) r e = packet_taken (with_port p (with_receiver (hear (port_at s p).receiver b).next (port_at s p)) s) s p (hear (port_at s p).receiver b).packet r e

  short_refused : (short : Bool) (b : ℕ) (p : Option Port) (r : Refusal) → Unchanged s (cond short (refused s ShortBuffer) (byte_step s b p)) r
  short_refused true b p r e = (refl, refl)
  short_refused false b p r e = byte_refused b p r e

  gap_refused : (p : Option Port) (r : Refusal) → Unchanged s (gap_step s p) r
  gap_refused None r e = (refl, refl)
  gap_refused (Some p) r e = taken _ r e

  hang_up_refused : (p : Option Port) (r : Refusal) → Unchanged s (hang_up_step s p) r
  hang_up_refused None r e = (refl, refl)
  hang_up_refused (Some p) r e = taken _ r e

  call_refused : (x : Option Refusal) (t : State) (r : Refusal) → Unchanged s (unless_refused s x t) r
  call_refused None t r e = taken _ r e
  call_refused (Some x) t r e = (refl, refl)

pub refused_nothing : RefusedCallsChangeNothing
refused_nothing s (byte n b room) r e = short_refused s (ltb room shortest_buffer) b (port_of n) r e
refused_nothing s (gap n) r e = gap_refused s (port_of n) r e
refused_nothing s (hang_up n) r e = hang_up_refused s (port_of n) r e
refused_nothing s (panel_set o i) r e = call_refused s (set_refusal s o i) (do_set s o i) r e
refused_nothing s (panel_lock o i) r e = call_refused s (lock_refusal s o i) (do_lock s o i) r e
refused_nothing s (panel_unlock o i) r e = call_refused s (unlock_refusal s o i) (do_unlock s o) r e
refused_nothing s (enter_user u n w) r e = call_refused s (user_refusal u n w) (with_user u (record { name = n; password = w }) s) r e

-- ---- no ACK

abbrev Stays : State → Outcome → Type 0
Stays s o = begins_with_ack o.answer.reply ≡ false → o.next ≡ s

acknowledged : {X : Type 0} → true ≡ false → X
acknowledged e = absurd cc

command_stays : (h l : ℕ) (s : State) (p : Port) (c : Command) (f : Option CommandFault) → Stays s (judged_outcome h l (unless_fault s p c f))
command_stays h l s p c None e = acknowledged e
command_stays h l s p c (Some f) e = refl

judged_stays : (h l : ℕ) (s : State) (p : Port) (d : Result Command PacketFault) → Stays s (judged_outcome h l (judged s p d))
judged_stays h l s p (Ok c) e = command_stays h l s p c (fault_of s p c) e
judged_stays h l s p (Err f) e = refl

matching_stays : (m : Bool) (s : State) (p : Port) (k : Packet) (a : Parts) → Stays s (if_matching m s p k a)
matching_stays false s p k a e = refl
matching_stays true s p k a e = judged_stays a.high a.low s p (command_in k a.body) e

addressed_stays : (s : State) (p : Port) (k : Packet) (a : Option Parts) → Stays s (if_addressed s p k a)
addressed_stays s p k None e = refl
addressed_stays s p k (Some a) e = matching_stays (matches s.address a.high a.low) s p k a e

packet_stays : (s : State) (p : Port) (k : Option Packet) → Stays s (packet_step s p k)
packet_stays s p None e = refl
packet_stays s p (Some k) e = addressed_stays s p k (parts k.listed.items) e

same_receiver : (s : State) (p : Port) → s ≡ with_port p (with_receiver (port_at s p).receiver (port_at s p)) s
same_receiver s One = refl
same_receiver s Two = refl
same_receiver s Three = refl

pub receiver_alone : WithoutAckOnlyTheReceiverChanges
receiver_alone s n b room p port e =
    by (ltb room shortest_buffer) (subst (λ (q : Option Port). begins_with_ack (cond (ltb room shortest_buffer) (refused s ShortBuffer) (byte_step s b q)).answer.reply ≡ false) port e)
  where
    by : (short : Bool) → begins_with_ack (cond short (refused s ShortBuffer) (byte_step s b (Some p))).answer.reply ≡ false → (r : Receiver) × ((cond short (refused s ShortBuffer) (byte_step s b (port_of n))).next ≡ with_port p (with_receiver r (port_at s p)) s)
    by true e = ((port_at s p).receiver, same_receiver s p)
    by false e = (
      (hear (port_at s p).receiver b).next,
      ap (λ (q : Option Port). (byte_step s b q).next) port
          ∙ packet_stays (with_port p (with_receiver (hear (port_at s p).receiver b).next (port_at s p)) s) p (hear (port_at s p).receiver b).packet e,
    )
