-- One row written is one output routed to the closed relay of that row.
use Rattle.std.proofs.Common.{arith}
use Rattle.fabric.proofs.BankLaws.{bank_routed}
use Rattle.fabric.proofs.bank.RelayBank.connect.Goals as goal

pub returns : goal.returns
returns c =
    let s = c.args.self.now in
    bank_routed s.size.inputs s.size.outputs s.rows c.args.output c.requires.0 (omega (arith, s.size.few_outputs)) c.args.row
