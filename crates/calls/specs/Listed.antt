-- A list of calls, with their answers beside them.
--
--   call_of c        the call, as the rules have it
--   buffer_of c      its reply buffer; a call without one has an empty one
--   lent x           a call of the list with its buffer, as it is lent
--   Shown            a call with what came back: the answer, if it was made, and the buffer
--   shown x          what a call of the list shows
--   shown_at s l     what a call shows that was made in the state s
--   shown_along s ls the same of all calls of a list
--   event_if_made    a call with its answer, as it is seen from outside; none if it was not made
--   event_in x       the event of a call that shows x
--   event x          the event of a call of the list
--   events_in xs     the events of all calls that were made, in order
--   events xs        the same of the calls of a list
--   LastTableTrue    where the last event is a Q answer of at most seven entries, its port's table is true in the state at the end
use Rattle.std.specs.Prelude.{◌≡◌, ℕ, List, [], ◌∷◌, ◌++◌, map, reverse, length, Some, None, vec_items, Option, Result}
use Rattle.std.specs.List.{filter_map}
use Rattle.wire.specs.Frames.{written}
use Rattle.rules.specs.declared.refusal.Refusal.{Refusal}
use Rattle.rules.specs.State.{State}
use Rattle.rules.specs.Calls.{Call, byte, gap, hang_up, panel_set, panel_lock, panel_unlock, enter_user, step, Event, reply_in, along, Lent, next_lent}
use Rattle.rules.specs.declared.port.Port.{Port}
use Rattle.rules.specs.Table.{table}
use Rattle.rules.specs.Laws.{ShortQueueAnswer, NamesFeeding}
use Rattle.calls.specs.declared.list.Call.{Call as CallOfCode}
use Rattle.calls.specs.declared.list.Call.TheVariants.{Byte, Gap, HangUp, PanelSet, PanelLock, PanelUnlock, EnterUser}
use Rattle.calls.specs.declared.list.ListedCall.{ListedCall}

abbrev pub call_of : CallOfCode → Call
call_of (Byte p b r) = byte p b (length (vec_items r))
call_of (Gap p) = gap p
call_of (HangUp p) = hang_up p
call_of (PanelSet o i) = panel_set o i
call_of (PanelLock o i) = panel_lock o i
call_of (PanelUnlock o i) = panel_unlock o i
call_of (EnterUser u n w) = enter_user u (vec_items n) (vec_items w)

abbrev pub buffer_of : CallOfCode → List ℕ
buffer_of (Byte p b r) = vec_items r
buffer_of (Gap p) = []
buffer_of (HangUp p) = []
buffer_of (PanelSet o i) = []
buffer_of (PanelLock o i) = []
buffer_of (PanelUnlock o i) = []
buffer_of (EnterUser u n w) = []

abbrev pub lent : ListedCall → Lent
lent x = record { call = call_of x.call; buffer = buffer_of x.call }

pub record Shown : Type 0 where
  pub call : Call
  pub answer : Option (Result ℕ Refusal)
  pub buffer : List ℕ

abbrev pub shown : ListedCall → Shown
shown x = record { call = call_of x.call; answer = x.answer; buffer = buffer_of x.call }

abbrev pub shown_at : State → Lent → Shown
shown_at s l = record { call = l.call; answer = Some (step s l.call).answer.result; buffer = written (step s l.call).answer.reply l.buffer }

abbrev pub shown_along : State → List Lent → List Shown
shown_along = along shown_at next_lent

-- call, buffer, answer
abbrev pub event_if_made : Call → List ℕ → Option (Result ℕ Refusal) → Option Event
event_if_made c xs None = None
event_if_made c xs (Some r) = Some (record { call = c; answer = record { result = r; reply = reply_in r xs } })

abbrev pub event_in : Shown → Option Event
event_in x = event_if_made x.call x.buffer x.answer

abbrev pub event : ListedCall → Option Event
event x = event_in (shown x)

abbrev pub events_in : List Shown → List Event
events_in = filter_map event_in

abbrev pub events : List ListedCall → List Event
events xs = events_in (map shown xs)

abbrev pub LastTableTrue : List Event → State → Type 0
LastTableTrue es s = (before : List Event) (e : Event) (p : Port) → es ≡ before ++ e ∷ [] → ShortQueueAnswer p (reverse before) e → NamesFeeding (table p (e ∷ reverse before)) s
