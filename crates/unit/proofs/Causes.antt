-- The causes that a command's tests find, and what the command does with them.
use Rattle.std.proofs.Common.{◌≡◌, ℕ, Bool, true, false, List, [], ◌∷◌, Some, None, Ok, Err, Option, Result, sym, refl, ap, ◌∙◌}
use Rattle.std.specs.Option.{option_map, option_or}
use Rattle.std.specs.Result.{IsErrAnd}
use Rattle.std.proofs.lemmas.Result.{err_from_is_err_and}
use Rattle.fabric.specs.declared.fault.RouteFault.TheVariants.{CannotBeMade}
use Rattle.packets.specs.Commands.{Command, set_output, lock_output}
use Rattle.replies.specs.Replies.{ack, nak, Fits}
use Rattle.replies.specs.Replying.{reply_of}
use Rattle.replies.specs.declared.reply.Reply.{Reply as ReplyOfCode}
use Rattle.rules.specs.declared.fault.CommandFault.{CommandFault}
use Rattle.rules.specs.declared.fault.CommandFault.TheVariants.{OutputLocked as CommandLocked, CannotBeMade as CommandCannotBeMade}
use Rattle.rules.specs.declared.port.Port.{Port}
use Rattle.rules.specs.State.{State}
use Rattle.rules.specs.Switching.{in_range, may_set, may_lock, can_be_made, unless, first_of}
use Rattle.rules.specs.Commands.{letter, range_fault, ethernet_fault, right_fault, lock_fault, pair_fault, may_switch, Judged, fault_of, effect, contents, unless_fault, reply_to, carried_out}
use Rattle.unit.specs.declared.fault.SwitchFault.{SwitchFault}
use Rattle.unit.specs.declared.fault.SwitchFault.TheVariants.{OutputLocked, Route}
use Rattle.unit.specs.Switches.{checked, command_fault, switch_fault, setting_fault, locking_fault, unless_found}
use Rattle.unit.specs.Answering.{reply_of_result, Carried}

-- what a test that was passed, or was not, says of the causes that it looked for
module _ {G : Type 0} where
  none_found : (x : Option G) {r : Result (Unit {0}) G} {u : Unit {0}} → r ≡ checked x → r ≡ Ok u → x ≡ None
  none_found None e o = refl
  none_found (Some f) e o = cc

  one_found : (x : Option G) {f : G} {r : Result (Unit {0}) G} → r ≡ checked x → r ≡ Err f → x ≡ Some f
  one_found None e o = cc
  one_found (Some g) e o = cc

  -- two tests were passed, so that the third decides
  pub last_decides : (a b x : Option G) {q r t : Result (Unit {0}) G} {u v : Unit {0}} → q ≡ checked a → q ≡ Ok u → r ≡ checked b → r ≡ Ok v → t ≡ checked x → t ≡ checked (first_of (a ∷ b ∷ x ∷ []))
  last_decides None None None e o k l n = n
  last_decides None None (Some f) e o k l n = n
  last_decides None (Some g) x e o k l n = cc
  last_decides (Some g) b x e o k l n = cc

  -- three tests before others
  three_first : (a b x : Option G) (rest : List (Option G)) → first_of (a ∷ b ∷ x ∷ rest) ≡ option_or (first_of (a ∷ b ∷ x ∷ [])) (first_of rest)
  three_first None None None rest = refl
  three_first None None (Some f) rest = refl
  three_first None (Some f) x rest = refl
  three_first (Some f) b x rest = refl

-- the causes of a switching are those of the command
as_command : (may made : Bool) → first_of (unless may CommandLocked ∷ unless made CommandCannotBeMade ∷ []) ≡ option_map command_fault (first_of (unless may OutputLocked ∷ unless made (Route CannotBeMade) ∷ []))
as_command false made = refl
as_command true false = refl
as_command true true = refl

-- the command c is asked by a test, which finds a, and then by the switching itself, which finds b
pub record Asked (s : State) (p : Port) (c : Command) (a : Option CommandFault) (b : Option SwitchFault) : Type 0 where
  pub causes : fault_of s p c ≡ option_or a (option_map command_fault b)

module _ (s : State) (p : Port) (o i : ℕ) where
  pub set_asked : Asked s p (set_output o i) (switch_fault s p 0x53 o i) (setting_fault s o i)
  set_asked = record { causes = three_first (range_fault (in_range s o i)) (ethernet_fault s p (set_output o i)) (right_fault (may_switch s p o)) (lock_fault (may_set s o) ∷ pair_fault s o i ∷ []) ∙ ap (option_or (switch_fault s p 0x53 o i)) (as_command (may_set s o) (can_be_made s o i)) }

  pub lock_asked : Asked s p (lock_output o i) (switch_fault s p 0x4C o i) (locking_fault s o i)
  lock_asked = record { causes = three_first (range_fault (in_range s o i)) (ethernet_fault s p (lock_output o i)) (right_fault (may_switch s p o)) (lock_fault (may_lock s o i) ∷ pair_fault s o i ∷ []) ∙ ap (option_or (switch_fault s p 0x4C o i)) (as_command (may_lock s o i) (can_be_made s o i)) }

-- a command by the cause that was found, or that none was
module _ (s : State) (p : Port) (c : Command) where
  judged_by : (x : Option CommandFault) → fault_of s p c ≡ x → carried_out s p c ≡ unless_fault s p c x
  judged_by x e = ap (unless_fault s p c) e

  stopped : (f : CommandFault) (x : Result ReplyOfCode CommandFault) → fault_of s p c ≡ Some f → IsErrAnd x (λ e. e ≡ f) → Carried s p c x s
  stopped f x e passed_on =
      let k = err_from_is_err_and x passed_on in
      let says : reply_of_result x ≡ nak (letter f) = ap reply_of_result k.1 ∙ ap (λ (y : CommandFault). nak (letter y)) k.2 in
      record { answer = says ∙ ap (λ (j : Judged). reply_to j.answer) (sym (judged_by (Some f) e)); after = ap (λ (j : Judged). j.next) (sym (judged_by (Some f) e)); fits = rw k.1 tt }

  done : (y : ReplyOfCode) (t : State) → fault_of s p c ≡ None → reply_of y ≡ ack (contents s p c) → t ≡ effect s p c → Fits (reply_of y) → Carried s p c (Ok y) t
  done y t e says goes fit = record { answer = says ∙ ap (λ (j : Judged). reply_to j.answer) (sym (judged_by None e)); after = goes ∙ ap (λ (j : Judged). j.next) (sym (judged_by None e)); fits = fit }

  -- all causes were looked for by one test
  pub refused : {r : Result (Unit {0}) CommandFault} {f : CommandFault} (x : Result ReplyOfCode CommandFault) → r ≡ checked (fault_of s p c) → r ≡ Err f → IsErrAnd x (λ e. e ≡ f) → Carried s p c x s
  refused x e o passed_on = stopped _ x (one_found (fault_of s p c) e o) passed_on

  pub accepted : {r : Result (Unit {0}) CommandFault} {u : Unit {0}} (y : ReplyOfCode) (t : State) → r ≡ checked (fault_of s p c) → r ≡ Ok u → reply_of y ≡ ack (contents s p c) → t ≡ effect s p c → Fits (reply_of y) → Carried s p c (Ok y) t
  accepted y t e o = done y t (none_found (fault_of s p c) e o)

-- or by one test first, and then by the switching
module _ {s : State} {p : Port} {c : Command} {a : Option CommandFault} {b : Option SwitchFault} (asked : Asked s p c a b) where
  both : {x : Option CommandFault} {y : Option SwitchFault} → a ≡ x → b ≡ y → fault_of s p c ≡ option_or x (option_map command_fault y)
  both e k = asked.causes ∙ (λ j. option_or (e j) (option_map command_fault (k j)))

  pub refused_first : {r : Result (Unit {0}) CommandFault} {f : CommandFault} (x : Result ReplyOfCode CommandFault) → r ≡ checked a → r ≡ Err f → IsErrAnd x (λ e. e ≡ f) → Carried s p c x s
  refused_first x e o passed_on = stopped s p c _ x (both (one_found a e o) refl) passed_on

  pub refused_then : {r : Result (Unit {0}) CommandFault} {u : Unit {0}} {q : Result (Unit {0}) SwitchFault} {f : SwitchFault} (x : Result ReplyOfCode CommandFault) (t : State)
      → r ≡ checked a → r ≡ Ok u → q ≡ checked b → q ≡ Err f → IsErrAnd x (λ e. e ≡ command_fault f) → t ≡ unless_found s b (effect s p c) → Carried s p c x t
  refused_then x t e o k l passed_on goes =
      let found = one_found b k l in
      rw (goes ∙ ap (λ (y : Option SwitchFault). unless_found s y (effect s p c)) found) (stopped s p c _ x (both (none_found a e o) found) passed_on)

  pub accepted_then : {r : Result (Unit {0}) CommandFault} {u : Unit {0}} {q : Result (Unit {0}) SwitchFault} {v : Unit {0}} (y : ReplyOfCode) (t : State)
      → r ≡ checked a → r ≡ Ok u → q ≡ checked b → q ≡ Ok v → t ≡ unless_found s b (effect s p c) → reply_of y ≡ ack (contents s p c) → Fits (reply_of y) → Carried s p c (Ok y) t
  accepted_then y t e o k l goes says fit =
      let none = none_found b k l in
      done s p c y t (both (none_found a e o) none) says (goes ∙ ap (λ (z : Option SwitchFault). unless_found s z (effect s p c)) none) fit
