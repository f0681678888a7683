-- One more bit of the marks is one pair less.
use Rattle.std.proofs.Common.{arith}
use Rattle.fabric.proofs.BankLaws.{bank_without}
use Rattle.fabric.proofs.bank.setup.BankSetup.mark.Goals as goal

pub returns : goal.returns
returns c =
    let s = c.args.self.now.bank in
    rw c.relay.ensures.answer (bank_without s.size.inputs s.size.outputs s.rows (omega (arith, s.size.few_outputs)) c.args.output c.args.input c.requires)
