-- An output of the fabric is among those that have a lock.
use Rattle.std.proofs.Common.{◌∙◌}
use Rattle.records.proofs.Cells.{put_inside}
use Rattle.unit.specs.Units.{state_of}
use Rattle.unit.proofs.Switches.{output_kept}
use Rattle.unit.proofs.state.Unit.set_lock.Goals as goal

pub returns : goal.returns
returns g c =
    let s = state_of g.F.Fabric.meaning c.args.self.now in
    let inside = output_kept s.fabric (g.met.F.Fabric.sound c.args.self.now.fabric) c.args.output c.requires in
    cc (c.set.ensures ∙ put_inside 256 s.locks c.args.output c.args.locked inside)
