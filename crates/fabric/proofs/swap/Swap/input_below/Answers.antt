-- The law holds wherever the function returns.
use Rattle.fabric.proofs.SwapLaws.{routes_exchanged}
use Rattle.fabric.proofs.swap.Swap.input_below.Goals as goal

pub returns-then-input-self-clause-law : goal.returns-then-input-self-clause-law
returns-then-input-self-clause-law g c = routes_exchanged _ _ _

pub returns-then-input-self-2-clause-law : goal.returns-then-input-self-2-clause-law
returns-then-input-self-2-clause-law g c = routes_exchanged _ _ _

pub returns-else-input-self-2-clause-law : goal.returns-else-input-self-2-clause-law
returns-else-input-self-2-clause-law g c = routes_exchanged _ _ _
