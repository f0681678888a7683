use Rattle.std.proofs.Common.{refl}
use Rattle.replies.specs.declared.reply.Reply.TheVariants.{OutputSet}
use Rattle.unit.specs.Units.{state_of}
use Rattle.unit.proofs.Causes.{set_asked, refused_first, refused_then, accepted_then}
use Rattle.unit.proofs.state.Unit.set_output.Goals as goal

pub returns-in_err-check_switch : goal.returns-in_err-check_switch
returns-in_err-check_switch g c = refused_first (set_asked (state_of g.F.Fabric.meaning c.args.self.now) c.args.port c.args.output c.args.input) _ c.check_switch.ensures.answer c.in_err-check_switch.was c.from_residual.ensures.1

pub returns-in_err-set : goal.returns-in_err-set
returns-in_err-set g c = refused_then (set_asked (state_of g.F.Fabric.meaning c.args.self.now) c.args.port c.args.output c.args.input) _ _ c.check_switch.ensures.answer c.in_ok-check_switch.was c.set.ensures.answer c.in_err-set.was c.from_residual-in_err-set.ensures.1 c.set.ensures.after

pub returns : goal.returns
returns g c = accepted_then (set_asked (state_of g.F.Fabric.meaning c.args.self.now) c.args.port c.args.output c.args.input) OutputSet _ c.check_switch.ensures.answer c.in_ok-check_switch.was c.set.ensures.answer c.in_ok-set.was c.set.ensures.after refl tt
