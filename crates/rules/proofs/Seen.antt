-- What each event is seen to do from outside, and that the unit is, after it, as its history says.
use Rattle.std.proofs.Common.{◌≡◌, ℕ, true, false, cond, ◌&&◌, List, [], Some, None, Ok, Err, Option, refl, ap, ◌∙◌}
use Rattle.packets.specs.Commands.{Command}
use Rattle.replies.specs.Replies.{begins_with_ack}
use Rattle.rules.specs.declared.port.Port.{Port}
use Rattle.rules.specs.declared.port.Port.TheVariants.{One, Two, Three}
use Rattle.rules.specs.declared.refusal.Refusal.{Refusal}
use Rattle.rules.specs.PerPort.{at, set_at, three, number_of, port_of}
use Rattle.rules.specs.Calls.{Call, byte, gap, hang_up, panel_set, panel_lock, panel_unlock, enter_user, Event}
use Rattle.rules.specs.Table.{asked, accepted_command, asked_by}
use Rattle.rules.specs.History.{was_set, was_locked, was_unlocked, accepted_by, switched_by, switched_at}
use Rattle.rules.specs.Standing.{no_effect, effects, effects_of, effects_at, effects_by, effects_in, entry_by, hangs_up}
use Rattle.rules.proofs.Standing.{SeenAs}
use Rattle.rules.proofs.Bytes.{heard, port_again, either_none, no_command}

alike : {R : Type 0} (x : R) (q : Port) → x ≡ at (three x) q
alike x One = refl
alike x Two = refl
alike x Three = refl

module _ (h : List Event) where
  -- a call that was refused by number
  module _ (r : Refusal) where
    abbrev refusal : Call → Event
    refusal c = record { call = c; answer = record { result = Err r; reply = [] } }

    no_effects : (c : Call) (q : Option Port) → effects_by q h (refusal c) ≡ no_effect
    no_effects c None = refl
    no_effects c (Some p) = refl

    not_switched : (c : Call) (q : Option Port) → switched_at q h (refusal c) ≡ None
    not_switched c None = refl
    not_switched c (Some p) = refl

    unseen : (c : Call) → effects_in h (refusal c) ≡ no_effect → entry_by false c ≡ None → accepted_by h (refusal c) c ≡ None → SeenAs h (refusal c) no_effect (three no_effect) (three false) None None
    unseen c e u z = record { effects = e; by_port = alike no_effect; hung_up = alike false; entry = u; switched = z }

    pub refused_seen : (c : Call) → SeenAs h (refusal c) no_effect (three no_effect) (three false) None None
    refused_seen (byte n b room) = unseen (byte n b room) (no_effects (byte n b room) (port_of n)) refl (not_switched (byte n b room) (port_of n))
    refused_seen (gap n) = unseen (gap n) refl refl refl
    refused_seen (hang_up n) = unseen (hang_up n) refl refl refl
    refused_seen (panel_set o i) = unseen (panel_set o i) refl refl refl
    refused_seen (panel_lock o i) = unseen (panel_lock o i) refl refl refl
    refused_seen (panel_unlock o i) = unseen (panel_unlock o i) refl refl refl
    refused_seen (enter_user u n w) = unseen (enter_user u n w) refl refl refl

  -- a call that returned 0
  abbrev done : Call → Event
  done c = record { call = c; answer = record { result = Ok 0; reply = [] } }

  pub gap_seen : (n : ℕ) → SeenAs h (done (gap n)) no_effect (three no_effect) (three false) None None
  gap_seen n = record { effects = refl; by_port = alike no_effect; hung_up = alike false; entry = refl; switched = refl }

  pub hang_up_seen : (p : Port) → SeenAs h (done (hang_up (number_of p))) no_effect (three no_effect) (set_at (three false) p true) None None
  hang_up_seen p = record { effects = refl; by_port = alike no_effect; hung_up = by p; entry = refl; switched = refl }
    where
      by : (p q : Port) → (true && hangs_up q (hang_up (number_of p))) ≡ at (set_at (three false) p true) q
      by One One = refl
      by One Two = refl
      by One Three = refl
      by Two One = refl
      by Two Two = refl
      by Two Three = refl
      by Three One = refl
      by Three Two = refl
      by Three Three = refl

  pub set_seen : (o i : ℕ) → SeenAs h (done (panel_set o i)) no_effect (three no_effect) (three false) None (Some (was_set o i))
  set_seen o i = record { effects = refl; by_port = alike no_effect; hung_up = alike false; entry = refl; switched = refl }

  pub lock_seen : (o i : ℕ) → SeenAs h (done (panel_lock o i)) no_effect (three no_effect) (three false) None (Some (was_locked o i))
  lock_seen o i = record { effects = refl; by_port = alike no_effect; hung_up = alike false; entry = refl; switched = refl }

  pub unlock_seen : (o i : ℕ) → SeenAs h (done (panel_unlock o i)) no_effect (three no_effect) (three false) None (Some (was_unlocked o i))
  unlock_seen o i = record { effects = refl; by_port = alike no_effect; hung_up = alike false; entry = refl; switched = refl }

  pub entry_seen : (u : ℕ) (n w : List ℕ) → SeenAs h (done (enter_user u n w)) no_effect (three no_effect) (three false) (Some (u, record { name = n; password = w })) None
  entry_seen u n w = record { effects = refl; by_port = alike no_effect; hung_up = alike false; entry = refl; switched = refl }

  -- a byte that was heard
  module _ (p : Port) (b room n : ℕ) (ys : List ℕ) where
    effects_own : effects_in h (heard h p b room n ys) ≡ effects_at p h (heard h p b room n ys)
    effects_own = ap (λ (q : Option Port). effects_by q h (heard h p b room n ys)) (port_again p)

    switched_own : accepted_by h (heard h p b room n ys) (byte (number_of p) b room) ≡ switched_by (asked_by (accepted_command p h (heard h p b room n ys)))
    switched_own = ap (λ (q : Option Port). switched_at q h (heard h p b room n ys)) (port_again p)

    pub unacknowledged_seen : begins_with_ack ys ≡ false → SeenAs h (heard h p b room n ys) no_effect (three no_effect) (three false) None None
    unacknowledged_seen e = record {
      effects = effects_own ∙ ap effects_of (no_command h p b room n ys e p);
      by_port = λ q. ap effects_of (no_command h p b room n ys e q) ∙ alike no_effect q;
      hung_up = alike false;
      entry = refl;
      switched = switched_own ∙ ap (λ (c : Option Command). switched_by (asked_by c)) (no_command h p b room n ys e p);
    }

    pub command_seen : (c : Command) → accepted_command p h (heard h p b room n ys) ≡ Some c → SeenAs h (heard h p b room n ys) (effects c) (set_at (three no_effect) p (effects c)) (three false) None (switched_by (asked c))
    command_seen c own = record {
      effects = effects_own ∙ ap effects_of own;
      by_port = by p own;
      hung_up = alike false;
      entry = refl;
      switched = switched_own ∙ ap (λ (c : Option Command). switched_by (asked_by c)) own;
    }
      where
        none : effects_of (cond (begins_with_ack ys) None None) ≡ no_effect
        none = ap effects_of (either_none (begins_with_ack ys))

        by : (p : Port) → accepted_command p h (heard h p b room n ys) ≡ Some c → (q : Port) → effects_at q h (heard h p b room n ys) ≡ at (set_at (three no_effect) p (effects c)) q
        by One own One = ap effects_of own
        by One own Two = none
        by One own Three = none
        by Two own One = none
        by Two own Two = ap effects_of own
        by Two own Three = none
        by Three own One = none
        by Three own Two = none
        by Three own Three = ap effects_of own
