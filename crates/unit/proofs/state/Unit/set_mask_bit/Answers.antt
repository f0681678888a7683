-- An output of the fabric is among those that have a mask.
use Rattle.std.proofs.Common.{◌∙◌}
use Rattle.std.proofs.lemmas.Bool.{and_from}
use Rattle.records.proofs.Bits.{bit_put_inside}
use Rattle.unit.specs.Units.{state_of}
use Rattle.unit.proofs.Switches.{output_kept}
use Rattle.unit.proofs.state.Unit.set_mask_bit.Goals as goal

pub returns-clause-after : goal.returns-clause-after
returns-clause-after g c =
    let s = state_of g.F.Fabric.meaning c.args.self.now in
    let inside = and_from _ _ (output_kept s.fabric (g.met.F.Fabric.sound c.args.self.now.fabric) c.args.output c.requires.fabric_value) c.requires.group_value in
    cc (c.set.ensures.after ∙ bit_put_inside 256 8 s.masks c.args.output c.args.group c.args.bit inside)
