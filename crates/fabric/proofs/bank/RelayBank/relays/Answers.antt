-- A row has one closed relay, that of the feeding input.
use Rattle.std.proofs.Common.{sym}
use Rattle.fabric.proofs.BankLaws.{row_closed}
use Rattle.fabric.proofs.bank.RelayBank.relays.Goals as goal

pub returns-clause-law : goal.returns-clause-law
returns-clause-law c =
    let s = c.args.self.now in
    row_closed s.size.inputs s.size.outputs s.rows c.args.output (sym c.if-not-has_output.ensures) s.one
