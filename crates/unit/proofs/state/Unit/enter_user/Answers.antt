use Rattle.std.proofs.Common.{refl, rules}
use Rattle.rules.specs.Calls.{enter_user}
use Rattle.unit.proofs.Histories.{laws_kept}
use Rattle.unit.proofs.state.Unit.enter_user.Goals as goal

pub returns-then-not-may_enter-clause-law : goal.returns-then-not-may_enter-clause-law
returns-then-not-may_enter-clause-law g c = laws_kept _ _ (enter_user c.args.number c.args.name.now c.args.password.now) _ refl (search rules) (search rules)

pub returns-clause-law : goal.returns-clause-law
returns-clause-law g c = laws_kept _ _ (enter_user c.args.number c.args.name.now c.args.password.now) _ refl (search rules) (search rules)
