-- The accepted settings, locks and unlocks of all ports and the panel together, from calls and answers alone, and the inputs that
-- they name. Nothing here looks into the unit. The newest stands first.
--
--   Accepted            an accepted setting, lock or unlock
--   switched_by, switched_at   what a packet, a byte of a port asked for, if that is a setting, lock or unlock
--   if_accepted         a panel call, if it returned 0
--   accepted_by h e c   what the call c of the event e, after the history h, was accepted for
--   with_accepted       one more, if there is one
--   accepted_in h       all of the history h
--   locked_on o xs      the input of the last accepted lock of output o, where no accepted unlock came since
--   last_sent o xs      the input of the last accepted setting or lock of output o
--   lasting             the first of these that is there, or else the starting input
--   named o xs i        the input that is named for output o, which started on input i
use Rattle.std.specs.Prelude.{ℕ, cond, List, [], ◌∷◌, Some, None, Ok, Err, Option, Result, ◌==◌}
use Rattle.rules.specs.declared.port.Port.{Port}
use Rattle.rules.specs.declared.refusal.Refusal.{Refusal}
use Rattle.rules.specs.PerPort.{port_of}
use Rattle.rules.specs.Calls.{Call, byte, gap, hang_up, panel_set, panel_lock, panel_unlock, enter_user, Event}
use Rattle.rules.specs.Table.{Asked, the_input, the_queue, to_set, to_lock, to_unlock, nothing, accepted_at}

-- output and input
pub data Accepted : Type 0 where
  was_set was_locked was_unlocked : ℕ → ℕ → Accepted

abbrev pub switched_by : Asked → Option Accepted
switched_by (the_input o) = None
switched_by the_queue = None
switched_by (to_set o i) = Some (was_set o i)
switched_by (to_lock o i) = Some (was_locked o i)
switched_by (to_unlock o i) = Some (was_unlocked o i)
switched_by nothing = None

abbrev pub switched_at : Option Port → List Event → Event → Option Accepted
switched_at None h e = None
switched_at (Some p) h e = switched_by (accepted_at p h e)

abbrev pub if_accepted : Result ℕ Refusal → Accepted → Option Accepted
if_accepted (Ok n) x = cond (n == 0) (Some x) None
if_accepted (Err r) x = None

abbrev pub accepted_by : List Event → Event → Call → Option Accepted
accepted_by h e (byte n b room) = switched_at (port_of n) h e
accepted_by h e (gap n) = None
accepted_by h e (hang_up n) = None
accepted_by h e (panel_set o i) = if_accepted e.answer.result (was_set o i)
accepted_by h e (panel_lock o i) = if_accepted e.answer.result (was_locked o i)
accepted_by h e (panel_unlock o i) = if_accepted e.answer.result (was_unlocked o i)
accepted_by h e (enter_user u n w) = None

abbrev pub with_accepted : Option Accepted → List Accepted → List Accepted
with_accepted None xs = xs
with_accepted (Some x) xs = x ∷ xs

unfoldable pub accepted_in : List Event → List Accepted
accepted_in [] = []
accepted_in (e ∷ h) = with_accepted (accepted_by h e e.call) (accepted_in h)

abbrev pub locked_on : ℕ → List Accepted → Option ℕ
locked_on o [] = None
locked_on o (was_set k i ∷ xs) = locked_on o xs
locked_on o (was_locked k i ∷ xs) = cond (o == k) (Some i) (locked_on o xs)
locked_on o (was_unlocked k i ∷ xs) = cond (o == k) None (locked_on o xs)

abbrev pub last_sent : ℕ → List Accepted → Option ℕ
last_sent o [] = None
last_sent o (was_set k i ∷ xs) = cond (o == k) (Some i) (last_sent o xs)
last_sent o (was_locked k i ∷ xs) = cond (o == k) (Some i) (last_sent o xs)
last_sent o (was_unlocked k i ∷ xs) = last_sent o xs

abbrev pub lasting : Option ℕ → Option ℕ → ℕ → ℕ
lasting (Some i) sent start = i
lasting None (Some i) start = i
lasting None None start = start

abbrev pub named : ℕ → List Accepted → ℕ → ℕ
named o xs start = lasting (locked_on o xs) (last_sent o xs) start
