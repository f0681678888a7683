use Rattle.std.proofs.Common.{refl, arith, rules}
use Rattle.std.proofs.lemmas.Grind.{common_steps}
use Rattle.rules.specs.Calls.{panel_set}
use Rattle.unit.proofs.Histories.{laws_kept}
use Rattle.unit.proofs.state.Unit.panel_set.Goals as goal

pub returns-in_err-check_panel-clause-law : goal.returns-in_err-check_panel-clause-law
returns-in_err-check_panel-clause-law g c = laws_kept _ _ (panel_set c.args.output c.args.input) _ refl (grind (arith, common_steps)) (grind (arith, common_steps))

pub returns-in_err-set-clause-law : goal.returns-in_err-set-clause-law
returns-in_err-set-clause-law g c = laws_kept _ _ (panel_set c.args.output c.args.input) _ refl (search rules) (search rules)

pub returns-clause-law : goal.returns-clause-law
returns-clause-law g c = laws_kept _ _ (panel_set c.args.output c.args.input) _ refl (search rules) (search rules)
