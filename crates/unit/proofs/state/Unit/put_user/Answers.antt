use Rattle.std.proofs.Common.{◌∙◌}
use Rattle.records.specs.Records.{user_of}
use Rattle.records.proofs.Cells.{put_inside}
use Rattle.unit.specs.Units.{state_of}
use Rattle.unit.proofs.state.Unit.put_user.Goals as goal

pub returns : goal.returns
returns g c =
    let s = state_of g.F.Fabric.meaning c.args.self.now in
    cc (c.enter.ensures ∙ put_inside 8 s.users c.args.number (user_of c.args.user) c.requires)
