-- Each turn makes one call as the rules say; at the end the laws hold of the whole list.
use Rattle.std.proofs.Common.{◌≡◌, List, map, reverse, sym, ap, ◌∙◌, subst, arith}
use mathlib.Core.List.{map-map}
use Rattle.rules.specs.State.{State, service}
use Rattle.rules.specs.Calls.{Event, transcript, final, Lent, next_lent}
use Rattle.rules.specs.Laws.{Reached, QueueAnswersMakeTablesTrue, OutputsStayAsNamed, AskersAreTold, RightsHoldThroughout, state_after}
use Rattle.rules.proofs.Lists.{run_begins, run_goes_on, run_ends, final_lent_is}
use Rattle.rules.proofs.Laws.{reached_by, reached_standing, outputs_named, outputs_as_named, tables_true, askers_told, rights_throughout, after-transcript}
use Rattle.unit.specs.Units.{state_of}
use Rattle.calls.specs.Listed.{shown_at, shown_along, shown, lent, events_in, events}
use Rattle.calls.proofs.Shows.{events_are, shows_so, last_true}
use Rattle.calls.proofs.serving.serve.Goals as goal

pub loop-listed-init : goal.loop-listed-init
loop-listed-init g c = run_begins shown_at next_lent lent shown _ _

pub loop-listed-preserved : goal.loop-listed-preserved
loop-listed-preserved g c =
    let e = c.make.ensures in
    run_goes_on shown_at next_lent lent shown _ _ _ _ _ _ c.listed-item.result _ (omega arith) (shows_so _ _ _ _ _ _ e.same e.answer e.buffer) e.after c.loop-listed.invariant

pub returns : goal.returns
returns g c =
    let m = g.F.Fabric.meaning in
    let a = c.args.address in
    let on = c.args.access in
    let n = m c.args.fabric in
    let start = service a on n in
    let xs = c.loop-listed.listed-items in
    let xs₀ = c.args.calls.now in
    let ls = map lent xs₀ in
    let cs = map (λ (l : Lent). l.call) ls in
    let ends = run_ends shown_at next_lent lent shown _ xs₀ _ _ xs (omega arith) c.loop-listed.invariant in
    let sound = g.met.F.Fabric.sound c.args.fabric in
    let listed : map shown xs ≡ shown_along start ls = ends.0 ∙ ap (λ (s : State). shown_along s ls) c.start-unit.ensures.state in
    let goes : state_of m c.loop-listed.unit ≡ final start cs = ends.1 ∙ final_lent_is (state_of m c.start-unit.result) ls ∙ ap (λ (s : State). final s cs) c.start-unit.ensures.state in
    let seen : events xs ≡ transcript start cs = ap events_in listed ∙ events_are start ls in
    let reached : Reached a on n (reverse (events xs)) (state_of m c.loop-listed.unit) =
    subst (λ (s : State). Reached a on n (reverse (events xs)) s) (sym goes) (subst (λ (es : List Event). Reached a on n (reverse es) (final start cs)) (sym seen) (reached_by a on n sound cs)) in
    let tables : QueueAnswersMakeTablesTrue start (events xs) = subst (QueueAnswersMakeTablesTrue start) (sym seen) (tables_true a on n sound cs) in
    record {
      served = listed;
      state = goes ∙ ap (final start) (map-map (λ (l : Lent). l.call) lent xs₀);
      made = seen ∙ ap (transcript start) (map-map (λ (l : Lent). l.call) lent xs₀);
      reached = reached;
      tables = tables;
      outputs = outputs_named a on n (reverse (events xs)) (state_of m c.loop-listed.unit) reached;
      throughout = subst (OutputsStayAsNamed start) (sym seen) (outputs_as_named a on n sound cs);
      askers = subst (AskersAreTold start) (sym seen) (askers_told a on n sound cs);
      standing = reached_standing a on n (reverse (events xs)) (state_of m c.loop-listed.unit) reached;
      rights = subst (RightsHoldThroughout on) (sym seen) (rights_throughout a on n sound cs);
      last = last_true start (events xs) (state_of m c.loop-listed.unit) tables (goes ∙ sym (after-transcript start cs) ∙ ap (state_after start) (sym seen));
    }
