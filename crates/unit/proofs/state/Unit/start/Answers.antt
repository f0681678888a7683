-- Nothing came before the service starts.
use Rattle.std.proofs.Common.{[], subst, rules}
use Rattle.rules.specs.State.{State}
use Rattle.rules.specs.Laws.{Reached}
use Rattle.rules.proofs.Laws.{started}
use Rattle.unit.proofs.state.Unit.start.Goals as goal

pub returns-clause-reached : goal.returns-clause-reached
returns-clause-reached g c =
    let m = g.F.Fabric.meaning c.args.fabric in
    subst (λ (s : State). Reached c.args.address c.args.access m [] s) (search rules) (started c.args.address c.args.access m (g.met.F.Fabric.sound c.args.fabric))
