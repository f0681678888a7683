use Rattle.std.proofs.Common.{refl}
use Rattle.packets.specs.Commands.{set_mask}
use Rattle.replies.specs.declared.reply.Reply.TheVariants.{MaskSet}
use Rattle.unit.specs.Units.{state_of}
use Rattle.unit.proofs.Causes.{refused, accepted}
use Rattle.unit.proofs.state.Unit.set_mask.Goals as goal

pub returns-in_err-check_mask : goal.returns-in_err-check_mask
returns-in_err-check_mask g c = refused (state_of g.F.Fabric.meaning c.args.self.now) c.args.port (set_mask c.args.group c.args.bit c.args.output) _ c.check_mask.ensures.answer c.in_err-check_mask.was c.from_residual.ensures.1

pub returns : goal.returns
returns g c = accepted (state_of g.F.Fabric.meaning c.args.self.now) c.args.port (set_mask c.args.group c.args.bit c.args.output) MaskSet _ c.check_mask.ensures.answer c.in_ok-check_mask.was refl c.put_mask.ensures tt
