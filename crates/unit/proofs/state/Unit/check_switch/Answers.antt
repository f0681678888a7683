-- Range and Ethernet lock were passed, so that the right decides.
use Rattle.unit.proofs.Causes.{last_decides}
use Rattle.unit.proofs.state.Unit.check_switch.Goals as goal

pub returns-clause-answer : goal.returns-clause-answer
returns-clause-answer g c = last_decides _ _ _ c.check_range.ensures c.in_ok-check_range.was c.check_ethernet.ensures c.in_ok-check_ethernet.was c.check_right.ensures
