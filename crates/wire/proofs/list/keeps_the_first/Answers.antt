use Rattle.wire.proofs.Keeping.{keeps_the_first}
use Rattle.wire.proofs.list.keeps_the_first.Goals as goal

pub returns : goal.returns
returns g c = keeps_the_first g.row.T.Denot
