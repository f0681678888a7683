-- What switching an output answers, and how its causes go up.
--
--   HasOutput m o     o is one of the outputs of a fabric that means m
--   command_fault     a switching's cause as that of a command
--   panel_fault       the same as that of a panel call; one outside the counts was asked for before
--   checked f         the answer of a test that found the cause f, or none
--   setting_fault, locking_fault   why an output in range is not set, not locked on an input
--   switch_fault      why S, L and U are refused before the output is looked at; x is the first letter of the command
--   unless_found      the state t, unless a cause was found: then s
use Rattle.rules.specs.State.{State}
use Rattle.std.specs.Prelude.{◌≡◌, ℕ, true, not, ◌&&◌, [], ◌∷◌, Some, None, Ok, Err, Option, Result}
use Rattle.fabric.specs.Meaning.{Meaning, within}
use Rattle.fabric.specs.declared.fault.RouteFault.TheVariants.{OutOfRange as RouteOutOfRange, CannotBeMade as RouteCannotBeMade}
use Rattle.rules.specs.declared.fault.CommandFault.{CommandFault}
use Rattle.rules.specs.declared.fault.CommandFault.TheVariants.{OutOfRange, EthernetLocked, OutputLocked, CannotBeMade}
use Rattle.rules.specs.declared.refusal.Refusal.{Refusal}
use Rattle.rules.specs.declared.refusal.Refusal.TheVariants.{NoSuchOutput, OutputLocked as PanelOutputLocked, CannotBeMade as PanelCannotBeMade}
use Rattle.rules.specs.declared.port.Port.{Port}
use Rattle.rules.specs.PerPort.{is_ethernet}
use Rattle.rules.specs.Switching.{in_range, may_set, may_lock, can_be_made, unless, first_of}
use Rattle.rules.specs.Commands.{range_fault, right_fault, may_switch}
use Rattle.unit.specs.declared.fault.SwitchFault.{SwitchFault}
use Rattle.unit.specs.declared.fault.SwitchFault.TheVariants.{OutputLocked as SwitchLocked, Route}

abbrev pub HasOutput : Meaning → ℕ → Type 0
HasOutput m o = within o m.outputs ≡ true

abbrev pub command_fault : SwitchFault → CommandFault
command_fault SwitchLocked = OutputLocked
command_fault (Route RouteCannotBeMade) = CannotBeMade
command_fault (Route RouteOutOfRange) = OutOfRange

abbrev pub panel_fault : SwitchFault → Refusal
panel_fault SwitchLocked = PanelOutputLocked
panel_fault (Route RouteCannotBeMade) = PanelCannotBeMade
panel_fault (Route RouteOutOfRange) = NoSuchOutput

abbrev pub checked : {G : Type 0} → Option G → Result (Unit {0}) G
checked None = Ok tt
checked (Some f) = Err f

abbrev pub setting_fault : State → ℕ → ℕ → Option SwitchFault
setting_fault s o i = first_of (unless (may_set s o) SwitchLocked ∷ unless (can_be_made s o i) (Route RouteCannotBeMade) ∷ [])

abbrev pub locking_fault : State → ℕ → ℕ → Option SwitchFault
locking_fault s o i = first_of (unless (may_lock s o i) SwitchLocked ∷ unless (can_be_made s o i) (Route RouteCannotBeMade) ∷ [])

abbrev pub switch_fault : State → Port → ℕ → ℕ → ℕ → Option CommandFault
switch_fault s p x o i = first_of (range_fault (in_range s o i) ∷ unless (not (s.ethernet && is_ethernet p)) (EthernetLocked x) ∷ right_fault (may_switch s p o) ∷ [])

abbrev pub unless_found : {G : Type 0} → State → Option G → State → State
unless_found s None t = t
unless_found s (Some f) t = s
