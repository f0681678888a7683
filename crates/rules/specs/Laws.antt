-- The laws over whole runs of a unit that was put in service at any address, with access control on or off, over any fabric.
--
--   ShortQueueAnswer p h e     after the history h, the event e brings the port p a Q answer of at most seven entries
--   NamesFeeding t s           the table t names, for every output that it knows, the input that feeds it in s
--   OnNamedInputs m h s        each output is, in s, on the input that the accepted settings and locks of h name, over a fabric that began as m
--   Tells s cs a n             what was told, n, is what was asked for, a, in s, where the changes cs wait
--   AskerTold m h e s          at the event e, after the history h, an accepted packet is told what it asked for
--   state_after s es           the state after the calls of the events es
--   QueueAnswersMakeTablesTrue       a Q answer of at most seven entries makes its port's table true
--   OutputsStayAsNamed         at every moment each output is on the input that the accepted settings and locks name
--   AskersAreTold              what was asked for can be read in the reply
--   UnitIsWhatStands           at every moment the unit is what its history says: receivers, queues, flags, logins, feeding inputs, locks,
--                              masks, users, keypad and Ethernet lock, password
--   RightsHoldThroughout       what is accepted is accepted by right
--   QueueAnswersAlwaysMakeTablesTrue, OutputsAlwaysStayAsNamed, AskersAreAlwaysTold, UnitIsAlwaysWhatStands,
--   RightsAlwaysHold           each of the laws, of all lists of calls
--   RefusedCallsChangeNothing      a call that is refused by number changes nothing
--   WithoutAckOnlyTheReceiverChanges        a byte that brings no ACK changes nothing but its port's receiver
--   Reached a on m h s         the unit was put in service at address a with access control on or off over a fabric that means m, the
--                              events of h came since, and its state is s
--   LawsHold a on m h e s      the laws, at the event e after the history h, which left the unit in s
--   KeepsTheLaws s e t         the laws hold at the event e, which led from s to t, after whatever history led to s
--   LawsHoldAfterEachCall      so does each call of the rules
use Rattle.std.specs.Prelude.{◌≡◌, ℕ, ◌≤◌, Bool, true, false, List, [], ◌∷◌, ◌++◌, map, reverse, length, take, Some, Err}
use Rattle.fabric.specs.Meaning.{Meaning, Sound, within}
use Rattle.packets.specs.Receiver.{Receiver}
use Rattle.replies.specs.Queues.{most_queued}
use Rattle.replies.specs.Replies.{begins_with_ack}
use Rattle.replies.specs.declared.change.Change.{Change}
use Rattle.rules.specs.declared.port.Port.{Port}
use Rattle.rules.specs.declared.refusal.Refusal.{Refusal}
use Rattle.rules.specs.PerPort.{port_of}
use Rattle.rules.specs.State.{State, service, feeding, port_at, with_port, with_receiver}
use Rattle.rules.specs.Calls.{Call, byte, Event, event_at, step, next, final, transcript}
use Rattle.rules.specs.Table.{Asked, the_input, the_queue, to_set, to_lock, to_unlock, nothing, accepted_at, Told, the_input_is, the_changes_are, told_in, Table, table}
use Rattle.rules.specs.History.{accepted_in, named}
use Rattle.rules.specs.Standing.{changes_since, standing}
use Rattle.rules.specs.Rights.{RightsHold}

-- ---- one event

pub record ShortQueueAnswer (p : Port) (h : List Event) (e : Event) : Type 0 where
  pub entries : List Change
  pub asked : accepted_at p h e ≡ the_queue
  pub told : told_in e ≡ the_changes_are entries
  pub few : length entries ≤ 7

abbrev pub NamesFeeding : Table → State → Type 0
NamesFeeding t s = (o i : ℕ) → t o ≡ Some i → feeding s o ≡ i

-- An output with an accepted lock and no accepted unlock since is on the input that its last accepted lock named; each
-- other output is on the input of its last accepted setting or lock, or with none on its starting one.
abbrev pub OnNamedInputs : Meaning → List Event → State → Type 0
OnNamedInputs m h s = (o : ℕ) → within o m.outputs ≡ true → feeding s o ≡ named o (accepted_in h) (m.feeding o)

-- an accepted O or OS is told the input that feeds its output, an accepted Q the changes that wait
abbrev pub Tells : State → List Change → Asked → Told → Type 0
Tells s cs (the_input o) n = n ≡ the_input_is (feeding s o)
Tells s cs the_queue n = n ≡ the_changes_are cs
Tells s cs (to_set o i) n = Unit {0}
Tells s cs (to_lock o i) n = Unit {0}
Tells s cs (to_unlock o i) n = Unit {0}
Tells s cs nothing n = Unit {0}

-- of the changes since the port's last accepted Q the first eight wait, oldest first
abbrev pub AskerTold : Meaning → List Event → Event → State → Type 0
AskerTold m h e s = (p : Port) → Tells s (take most_queued (changes_since m p h)) (accepted_at p h e) (told_in e)

-- ---- whole runs

abbrev pub state_after : State → List Event → State
state_after s es = final s (map (λ (e : Event). e.call) es)

-- At each Q answer of at most seven entries, at whichever port p, the table of p with that answer entered names, for
-- every output that it knows, the input that feeds the output at that moment.
abbrev pub QueueAnswersMakeTablesTrue : State → List Event → Type 0
QueueAnswersMakeTablesTrue s es =
    (before later : List Event) (e : Event) (p : Port) → es ≡ before ++ e ∷ later → ShortQueueAnswer p (reverse before) e
    → NamesFeeding (table p (e ∷ reverse before)) (state_after s (before ++ e ∷ []))

-- At every moment of the list, from its start to its end, each output is on the input that is named for it.
abbrev pub OutputsStayAsNamed : State → List Event → Type 0
OutputsStayAsNamed s es =
    (before later : List Event) → es ≡ before ++ later → OnNamedInputs s.fabric (reverse before) (state_after s before)

-- Each accepted packet, at whichever port, is told what it asked for.
abbrev pub AskersAreTold : State → List Event → Type 0
AskersAreTold s es =
    (before later : List Event) (e : Event) → es ≡ before ++ e ∷ later → AskerTold s.fabric (reverse before) e (state_after s (before ++ e ∷ []))

-- At every moment of the list the unit is what its history says, and nothing else.
abbrev pub UnitIsWhatStands : ℕ → Bool → Meaning → List Event → Type 0
UnitIsWhatStands a on m es = (before later : List Event) → es ≡ before ++ later → state_after (service a on m) before ≡ standing a on m (reverse before)

-- At each event what is accepted is accepted by right.
abbrev pub RightsHoldThroughout : Bool → List Event → Type 0
RightsHoldThroughout on es = (before later : List Event) (e : Event) → es ≡ before ++ e ∷ later → RightsHold on (reverse before) e

abbrev pub QueueAnswersAlwaysMakeTablesTrue : Type 0
QueueAnswersAlwaysMakeTablesTrue = (a : ℕ) (on : Bool) (m : Meaning) → Sound m → (cs : List Call) → QueueAnswersMakeTablesTrue (service a on m) (transcript (service a on m) cs)

abbrev pub OutputsAlwaysStayAsNamed : Type 0
OutputsAlwaysStayAsNamed = (a : ℕ) (on : Bool) (m : Meaning) → Sound m → (cs : List Call) → OutputsStayAsNamed (service a on m) (transcript (service a on m) cs)

abbrev pub AskersAreAlwaysTold : Type 0
AskersAreAlwaysTold = (a : ℕ) (on : Bool) (m : Meaning) → Sound m → (cs : List Call) → AskersAreTold (service a on m) (transcript (service a on m) cs)

abbrev pub UnitIsAlwaysWhatStands : Type 0
UnitIsAlwaysWhatStands = (a : ℕ) (on : Bool) (m : Meaning) → Sound m → (cs : List Call) → UnitIsWhatStands a on m (transcript (service a on m) cs)

abbrev pub RightsAlwaysHold : Type 0
RightsAlwaysHold = (a : ℕ) (on : Bool) (m : Meaning) → Sound m → (cs : List Call) → RightsHoldThroughout on (transcript (service a on m) cs)

-- ---- refusals

-- A call that is refused by number changes nothing, and brings no reply.
abbrev pub RefusedCallsChangeNothing : Type 0
RefusedCallsChangeNothing = (s : State) (c : Call) (r : Refusal) → (step s c).answer.result ≡ Err r → (next s c ≡ s) × ((step s c).answer.reply ≡ [])

-- A byte that brings no ACK changes nothing but the receiver of its port; so does a packet that is refused by a letter.
abbrev pub WithoutAckOnlyTheReceiverChanges : Type 0
WithoutAckOnlyTheReceiverChanges =
    (s : State) (n b room : ℕ) (p : Port) → port_of n ≡ Some p → begins_with_ack (step s (byte n b room)).answer.reply ≡ false
    → (r : Receiver) × (next s (byte n b room) ≡ with_port p (with_receiver r (port_at s p)) s)

-- ---- call by call

unfoldable pub Reached : ℕ → Bool → Meaning → List Event → State → Type 0
Reached a on m [] s = Sound m × (s ≡ service a on m)
Reached a on m (e ∷ h) s = (t : State) × Reached a on m h t × (e ≡ event_at t e.call) × (s ≡ next t e.call)

pub record LawsHold (a : ℕ) (on : Bool) (m : Meaning) (h : List Event) (e : Event) (s : State) : Type 0 where
  pub reached : Reached a on m (e ∷ h) s
  pub tables : (p : Port) → ShortQueueAnswer p h e → NamesFeeding (table p (e ∷ h)) s
  pub outputs : OnNamedInputs m (e ∷ h) s
  pub asker : AskerTold m h e s
  pub standing : s ≡ standing a on m (e ∷ h)
  pub rights : RightsHold on h e

-- whatever calls came since the start of service, the laws hold at this event, too
abbrev pub KeepsTheLaws : State → Event → State → Type 0
KeepsTheLaws s e t = (a : ℕ) (on : Bool) (m : Meaning) (h : List Event) → Reached a on m h s → LawsHold a on m h e t

abbrev pub LawsHoldAfterEachCall : Type 0
LawsHoldAfterEachCall = (s : State) (c : Call) → KeepsTheLaws s (event_at s c) (next s c)
