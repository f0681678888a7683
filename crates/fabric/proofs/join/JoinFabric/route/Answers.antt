-- What the two parts mean after the routing is, as one, what the join means.
use Rattle.fabric.specs.Kinds.{chosen}
use Rattle.fabric.proofs.JoinLaws.{parts_after}
use Rattle.fabric.proofs.join.JoinFabric.route.Goals as goal

pub returns-clause-after : goal.returns-clause-after
returns-clause-after g c =
    let s = c.args.self.now in
    let called = c.route_in_part.ensures in
    parts_after (g.F.Fabric.meaning s.first) (g.G.Fabric.meaning s.second) (chosen s.selected) c.args.output c.args.input
    (g.met.F.Fabric.sound s.first) (g.met.G.Fabric.sound s.second) called.first called.second called.selected
