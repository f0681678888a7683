-- Range and Ethernet lock were passed, so that the login decides.
use Rattle.unit.proofs.Causes.{last_decides}
use Rattle.unit.proofs.state.Unit.check_mask.Goals as goal

pub returns-clause-answer : goal.returns-clause-answer
returns-clause-answer g c = last_decides _ _ _ c.check_mask_range.ensures c.in_ok-check_mask_range.was c.check_ethernet.ensures c.in_ok-check_ethernet.was c.check_user_one.ensures
