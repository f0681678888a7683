use Rattle.std.proofs.Common.{refl, rules}
use Rattle.rules.specs.Calls.{hang_up}
use Rattle.unit.proofs.Histories.{laws_kept}
use Rattle.unit.proofs.state.Unit.hang_up.Goals as goal

pub returns-in_err-port-clause-law : goal.returns-in_err-port-clause-law
returns-in_err-port-clause-law g c = laws_kept _ _ (hang_up c.args.port) _ refl (search rules) (search rules)

pub returns-clause-law : goal.returns-clause-law
returns-clause-law g c = laws_kept _ _ (hang_up c.args.port) _ refl (search rules) (search rules)
