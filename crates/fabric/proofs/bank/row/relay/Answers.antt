-- A one shifted by j - 1 places is 2 ^ (j - 1), which closes the relay of j alone.
use Rattle.std.proofs.Common.{ℕ, ◌-◌, sym, ap, ◌∙◌, subst, arith}
use Rattle.std.proofs.lemmas.Nat.{one_shl}
use Rattle.fabric.specs.Banks.{closed, OneClosed}
use Rattle.fabric.proofs.BankLaws.{closed_pow, only_closed}
use Rattle.fabric.proofs.Means.{within_le}
use Rattle.fabric.proofs.bank.row.relay.Goals as goal

pub returns-clause-law : goal.returns-clause-law
returns-clause-law c =
    let j = c.args.input in
    let few = within_le j 16 c.requires in
    let bit = one_shl (j - 1) 16 (omega arith) in
    (ap closed bit ∙ closed_pow j c.requires, subst (λ (row : ℕ). OneClosed j row) (sym bit) (only_closed j c.requires))
