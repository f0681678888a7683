use Rattle.std.proofs.Common.{◌∙◌}
use Rattle.unit.specs.Units.{settled}
use Rattle.unit.proofs.state.Unit.unlock.Goals as goal

pub returns : goal.returns
returns g c = c.settle.ensures ∙ (λ i. settled (c.set_lock.ensures i) c.args.output (c.output_state-before.ensures.input i) (c.output_state-before.ensures.locked i))
