use Rattle.std.proofs.Common.{refl, rules}
use Rattle.rules.specs.Calls.{panel_unlock}
use Rattle.unit.proofs.Histories.{laws_kept}
use Rattle.unit.proofs.state.Unit.panel_unlock.Goals as goal

pub returns-in_err-check_panel-clause-law : goal.returns-in_err-check_panel-clause-law
returns-in_err-check_panel-clause-law g c = laws_kept _ _ (panel_unlock c.args.output c.args.input) _ refl (search rules) (search rules)

pub returns-clause-law : goal.returns-clause-law
returns-clause-law g c = laws_kept _ _ (panel_unlock c.args.output c.args.input) _ refl (search rules) (search rules)
