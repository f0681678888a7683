-- Each input of a join behaves as in the fabric that has it.
use Rattle.fabric.specs.Kinds.{chosen}
use Rattle.fabric.proofs.JoinLaws.{first_inputs, other_inputs, first_alone}
use Rattle.fabric.proofs.join.Join.first_inputs.Goals as goal

pub returns-clause-law : goal.returns-clause-law
returns-clause-law g c =
    let s = c.args.self.now in
    let a = g.F.Fabric.meaning s.first in
    let b = g.G.Fabric.meaning s.second in
    let sa = g.met.F.Fabric.sound s.first in
    let sb = g.met.G.Fabric.sound s.second in
    let second = chosen s.selected in
    record { first_inputs = first_inputs a b second sa sb; other_inputs = other_inputs a b second sa sb; past_limit = first_alone a b second sa sb }
