-- The calls of the input are served, and their events printed.
use Rattle.std.proofs.Common.{◌≡◌, false, List, map, vec_items, sym, refl, ap, ◌∙◌, rules}
use mathlib.Core.List.{map-map}
use Rattle.std.proofs.lemmas.List.{map-id, with_items_is}
use Rattle.std.proofs.lemmas.Result.{IfOk-weaker}
use Rattle.fabric.specs.Cards.{new_card}
use Rattle.fabric.specs.Meaning.{Meaning}
use Rattle.rules.specs.State.{State, service}
use Rattle.rules.specs.Calls.{transcript}
use Rattle.calls.specs.declared.list.ListedCall.{ListedCall}
use Rattle.calls.specs.Listed.{call_of, Shown, shown, events}
use Rattle.bench.specs.Sessions.{calls_of, not_made, lines_of, printed_for, WorkedPrint}
use Rattle.bench.proofs.session.printed.Goals as goal

worked_print : WorkedPrint
unfolding printed_for
worked_print = refl

pub returns-in_err-calls-clause-law : goal.returns-in_err-calls-clause-law
returns-in_err-calls-clause-law c = worked_print

pub returns-clause-law : goal.returns-clause-law
returns-clause-law c = worked_print

pub returns-clause-bytes : goal.returns-clause-bytes
unfolding printed_for
returns-clause-bytes c =
    let input = c.args.input.now in
    let start : Meaning → State = service 0x00 false in
    let called = λ (x : Shown). x.call in
    let before = vec_items c.in_ok-calls.calls in
    let after = c.serve-unit.new.calls in
    let asked : map (λ (x : ListedCall). call_of x.call) before ≡ calls_of input =
    sym (map-map called shown before) ∙ ap (map called) c.in_ok-calls.ensures ∙ map-map called not_made (calls_of input) ∙ map-id (calls_of input) in
    let left : c.deref.result.now ≡ after = c.deref.ensures.value ∙ with_items_is c.in_ok-calls.calls after (search rules) in
    let seen : events after ≡ transcript (start (new_card 8 8)) (calls_of input) =
    c.serve-unit.ensures.made ∙ (λ i. transcript (start (c.new.ensures i)) (map (λ (x : ListedCall). call_of x.call) (c.deref_mut.ensures.value i))) ∙ ap (transcript (start (new_card 8 8))) asked in
    IfOk-weaker c.lines.result _ _ (λ v made. made ∙ ap (λ (xs : List ListedCall). lines_of (events xs)) left ∙ ap lines_of seen) c.lines.ensures
