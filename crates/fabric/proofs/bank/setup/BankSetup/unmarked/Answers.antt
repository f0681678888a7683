-- Every relay of input 1 is closed, and with no mark every pair can be made.
use Rattle.fabric.proofs.BankLaws.{start_closed, start_on_first, start_means}
use Rattle.fabric.proofs.bank.setup.BankSetup.unmarked.Goals as goal

pub invariant_of-result : goal.invariant_of-result
invariant_of-result c = let s = c.args.size in record { one = start_closed s.inputs s.outputs s.some_inputs s.few_outputs }

pub invariant_of-result-2 : goal.invariant_of-result-2
invariant_of-result-2 c = let s = c.args.size in record { unrouted = start_on_first s.inputs s.outputs s.some_inputs s.few_outputs }

pub returns : goal.returns
returns c = let s = c.args.size in start_means s.inputs s.outputs s.some_inputs s.few_outputs
