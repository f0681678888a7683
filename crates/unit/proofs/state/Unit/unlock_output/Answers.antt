use Rattle.std.proofs.Common.{refl}
use Rattle.packets.specs.Commands.{unlock_output}
use Rattle.replies.specs.declared.reply.Reply.TheVariants.{OutputUnlocked}
use Rattle.unit.specs.Units.{state_of}
use Rattle.unit.proofs.Causes.{refused, accepted}
use Rattle.unit.proofs.state.Unit.unlock_output.Goals as goal

pub returns-in_err-check_switch : goal.returns-in_err-check_switch
returns-in_err-check_switch g c = refused (state_of g.F.Fabric.meaning c.args.self.now) c.args.port (unlock_output c.args.output c.args.input) _ c.check_switch.ensures.answer c.in_err-check_switch.was c.from_residual.ensures.1

pub returns : goal.returns
returns g c = accepted (state_of g.F.Fabric.meaning c.args.self.now) c.args.port (unlock_output c.args.output c.args.input) OutputUnlocked _ c.check_switch.ensures.answer c.in_ok-check_switch.was refl c.unlock.ensures tt
