-- What S, L and U, and the panel's set, lock and unlock, have in common.
--
--   same a b        the flags a and b are the same
--   differs s t o   the feeding input or the lock of output o differs between s and t
--   note_if b c x   the port x with the change c put into its queue, if b
--   noted s o t     t, which was made of s, with the change of output o put into every port's queue, if there is one
--   do_set s o i    output o is put on input i
--   do_lock s o i   output o is put on input i and locked
--   do_unlock s o   output o is unlocked
--   in_range s o i  output o and input i are inside the counts
--   may_set s o     the lock of output o lets it be set
--   may_lock s o i  the lock of output o lets it be locked on input i
--   can_be_made     output o can be put on input i
--   unless b f      the cause f, unless b
--   first_of fs     the first cause that is there
use Rattle.std.specs.Prelude.{ℕ, Bool, true, false, cond, not, ◌&&◌, ◌||◌, List, [], ◌∷◌, Some, None, Option, ◌==◌}
use Rattle.wire.specs.Kept.{put}
use Rattle.fabric.specs.Meaning.{within, routed}
use Rattle.replies.specs.Queues.{most_queued}
use Rattle.replies.specs.declared.change.Change.{Change}
use Rattle.rules.specs.PerPort.{each}
use Rattle.rules.specs.State.{PortState, State, is_locked, feeding, with_fabric, with_lock, with_ports, with_queue}

-- ---- changes

abbrev pub same : Bool → Bool → Bool
same true b = b
same false b = not b

abbrev pub differs : State → State → ℕ → Bool
differs s t o = not (feeding s o == feeding t o && same (is_locked s o) (is_locked t o))

abbrev pub note_if : Bool → Change → PortState → PortState
note_if b c x = with_queue (cond b (put most_queued x.queue c) x.queue) x

-- the entry names the input that feeds the output afterwards
abbrev pub noted : State → ℕ → State → State
noted s o t = with_ports (each (note_if (differs s t o) (record { output = o; input = feeding t o })) t.ports) t

-- ---- effects

abbrev pub do_set : State → ℕ → ℕ → State
do_set s o i = noted s o (with_fabric (routed s.fabric o i) s)

abbrev pub do_lock : State → ℕ → ℕ → State
do_lock s o i = noted s o (with_lock o true (with_fabric (routed s.fabric o i) s))

abbrev pub do_unlock : State → ℕ → State
do_unlock s o = noted s o (with_lock o false s)

-- ---- tests

abbrev pub in_range : State → ℕ → ℕ → Bool
in_range s o i = within o s.fabric.outputs && within i s.fabric.inputs

-- a locked output refuses to be set, even to its own input
abbrev pub may_set : State → ℕ → Bool
may_set s o = not (is_locked s o)

-- a locked output is locked again only on the input that it has
abbrev pub may_lock : State → ℕ → ℕ → Bool
may_lock s o i = not (is_locked s o) || i == feeding s o

abbrev pub can_be_made : State → ℕ → ℕ → Bool
can_be_made s o i = s.fabric.makeable o i

-- ---- causes

abbrev pub unless : {F : Type 0} → Bool → F → Option F
unless b f = cond b None (Some f)

abbrev pub first_of : {F : Type 0} → List (Option F) → Option F
first_of [] = None
first_of (None ∷ fs) = first_of fs
first_of (Some f ∷ fs) = Some f
