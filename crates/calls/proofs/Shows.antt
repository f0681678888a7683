-- What the calls of a list show is what the rules say of them, as events and as laws.
use Rattle.std.proofs.Common.{◌≡◌, ℕ, List, [], ◌∷◌, ◌++◌, map, reverse, Some, None, Option, Result, sym, refl, ap, ◌∙◌, subst}
use Rattle.std.specs.List.{cons_option}
use Rattle.wire.specs.Frames.{written}
use Rattle.rules.specs.declared.port.Port.{Port}
use Rattle.rules.specs.declared.refusal.Refusal.{Refusal}
use Rattle.rules.specs.PerPort.{port_of}
use Rattle.rules.specs.State.{State, with_user}
use Rattle.rules.specs.Switching.{do_set, do_lock, do_unlock}
use Rattle.rules.specs.Panel.{set_refusal, lock_refusal, unlock_refusal, user_refusal}
use Rattle.rules.specs.Calls.{Call, byte, gap, hang_up, panel_set, panel_lock, panel_unlock, enter_user, gap_step, hang_up_step, unless_refused, step, next, Event, event_at, along, transcript, Lent}
use Rattle.rules.specs.Table.{table}
use Rattle.rules.specs.Laws.{QueueAnswersMakeTablesTrue, NamesFeeding, state_after}
use Rattle.rules.proofs.Lists.{SizedAnswer, byte_sized}
use Rattle.calls.specs.Listed.{Shown, shown_at, shown_along, event_in, events_in, LastTableTrue}

-- a call that brings no reply
gap_sized : (s : State) (p : Option Port) → SizedAnswer (gap_step s p).answer
gap_sized s None xs = refl
gap_sized s (Some p) xs = refl

hang_up_sized : (s : State) (p : Option Port) → SizedAnswer (hang_up_step s p).answer
hang_up_sized s None xs = refl
hang_up_sized s (Some p) xs = refl

panel_sized : (s : State) (r : Option Refusal) (t : State) → SizedAnswer (unless_refused s r t).answer
panel_sized s None t xs = refl
panel_sized s (Some r) t xs = refl

-- every call leaves its reply at the front of its buffer, as long as it says
sized : (s : State) (c : Call) → SizedAnswer (step s c).answer
sized s (byte n b room) = byte_sized s n b room
sized s (gap n) = gap_sized s (port_of n)
sized s (hang_up n) = hang_up_sized s (port_of n)
sized s (panel_set o i) = panel_sized s (set_refusal s o i) (do_set s o i)
sized s (panel_lock o i) = panel_sized s (lock_refusal s o i) (do_lock s o i)
sized s (panel_unlock o i) = panel_sized s (unlock_refusal s o i) (do_unlock s o)
sized s (enter_user u n w) = panel_sized s (user_refusal u n w) (with_user u (record { name = n; password = w }) s)

event_is : (s : State) (l : Lent) → event_in (shown_at s l) ≡ Some (event_at s l.call)
event_is s l = ap (λ (r : List ℕ). Some (record { call = l.call; answer = record { result = (step s l.call).answer.result; reply = r } })) (sized s l.call l.buffer)

pub events_are : (s : State) (ls : List Lent) → events_in (shown_along s ls) ≡ transcript s (map (λ (l : Lent). l.call) ls)
unfolding along
events_are s [] = refl
events_are s (l ∷ ls) =
    ap (λ (e : Option Event). cons_option e (events_in (shown_along (next s l.call) ls))) (event_is s l)
    ∙ ap (λ (es : List Event). event_at s l.call ∷ es) (events_are (next s l.call) ls)

-- one call of the list, after it was made
pub shows_so : (s : State) (c : Call) (before : List ℕ) (d : Call) (r : Result ℕ Refusal) (after : List ℕ) → d ≡ c → r ≡ (step s c).answer.result → after ≡ written (step s c).answer.reply before
    → ◌≡◌ {A = Shown} (record { call = d; answer = Some r; buffer = after }) (shown_at s (record { call = c; buffer = before }))
shows_so s c before d r after same result left = λ i. record { call = same i; answer = Some (result i); buffer = left i }

-- the law of the tables, at the end of the list
pub last_true : (s : State) (es : List Event) (t : State) → QueueAnswersMakeTablesTrue s es → t ≡ state_after s es → LastTableTrue es t
last_true s es t law goes before e p cut short =
    let here : state_after s (before ++ e ∷ []) ≡ t = ap (state_after s) (sym cut) ∙ sym goes in
    subst (λ (x : State). NamesFeeding (table p (e ∷ reverse before)) x) here (law before [] e p cut short)
