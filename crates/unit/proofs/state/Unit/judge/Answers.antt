use Rattle.std.proofs.Common.{ap, ◌∙◌}
use Rattle.packets.specs.Receiving.{packet}
use Rattle.unit.specs.Answering.{fits_outcome}
use Rattle.unit.proofs.Decoded.{command_fits}
use Rattle.unit.proofs.state.Unit.judge.Goals as goal

pub obey-requires : goal.obey-requires
obey-requires g c = ap fits_outcome c.command_in.ensures ∙ command_fits (packet c.args.packet.now) c.args.body.now
