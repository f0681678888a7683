-- A call that did what the rules say keeps the laws, for every history by which the unit came to be as it is.
use Rattle.std.proofs.Common.{◌≡◌, ℕ, Bool, true, false, List, [], length, Some, None, Option, Result, sym, refl, subst}
use Rattle.wire.specs.Frames.{written}
use Rattle.rules.specs.declared.port.Port.{Port}
use Rattle.rules.specs.declared.refusal.Refusal.{Refusal}
use Rattle.rules.specs.PerPort.{port_of}
use Rattle.rules.specs.State.{State}
use Rattle.rules.specs.Calls.{Call, byte, gap, hang_up, panel_set, panel_lock, panel_unlock, enter_user, Event, byte_event, gap_step, hang_up_step, unless_refused, step, next, event_at}
use Rattle.rules.specs.Laws.{KeepsTheLaws}
use Rattle.rules.proofs.Laws.{laws_after}
use Rattle.rules.proofs.Lists.{byte_event_is}
use Rattle.unit.specs.Calling.{plain_event}

event_keeps : (s t : State) (c : Call) (e : Event) → e ≡ event_at s c → t ≡ next s c → KeepsTheLaws s e t
event_keeps s t c e event goes = subst (λ (x : Event). KeepsTheLaws s x t) (sym event) (subst (λ (x : State). KeepsTheLaws s (event_at s c) x) (sym goes) (laws_after s c))

-- every call but a byte brings no reply
abbrev pub is_plain : Call → Bool
is_plain (byte n b room) = false
is_plain (gap n) = true
is_plain (hang_up n) = true
is_plain (panel_set o i) = true
is_plain (panel_lock o i) = true
is_plain (panel_unlock o i) = true
is_plain (enter_user u n w) = true

pub panel_silent : (s : State) (r : Option Refusal) (t : State) → (unless_refused s r t).answer.reply ≡ []
panel_silent s None t = refl
panel_silent s (Some r) t = refl

gap_silent : (s : State) (p : Option Port) → (gap_step s p).answer.reply ≡ []
gap_silent s None = refl
gap_silent s (Some p) = refl

hang_up_silent : (s : State) (p : Option Port) → (hang_up_step s p).answer.reply ≡ []
hang_up_silent s None = refl
hang_up_silent s (Some p) = refl

silent : (s : State) (c : Call) → is_plain c ≡ true → (step s c).answer.reply ≡ []
silent s (byte n b room) e = cc
silent s (gap n) e = gap_silent s (port_of n)
silent s (hang_up n) e = hang_up_silent s (port_of n)
silent s (panel_set o i) e = panel_silent s _ _
silent s (panel_lock o i) e = panel_silent s _ _
silent s (panel_unlock o i) e = panel_silent s _ _
silent s (enter_user u n w) e = panel_silent s _ _

pub laws_kept : (s t : State) (c : Call) (r : Result ℕ Refusal) → is_plain c ≡ true → r ≡ (step s c).answer.result → t ≡ next s c → KeepsTheLaws s (plain_event c r) t
laws_kept s t c r plain result goes =
    event_keeps s t c (plain_event c r) (λ i. record { call = c; answer = record { result = result i; reply = sym (silent s c plain) i } }) goes

-- what a byte call returned and left in its buffer
pub byte_keeps_the_laws : (s t : State) (n b : ℕ) (before after : List ℕ) (r : Result ℕ Refusal) → length after ≡ length before
    → r ≡ (step s (byte n b (length before))).answer.result → after ≡ written (step s (byte n b (length before))).answer.reply before
    → t ≡ next s (byte n b (length before)) → KeepsTheLaws s (byte_event n b r after) t
byte_keeps_the_laws s t n b before after r long result left goes = event_keeps s t (byte n b (length before)) _ (byte_event_is s n b before after r long result left) goes
