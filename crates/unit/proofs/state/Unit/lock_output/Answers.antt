use Rattle.std.proofs.Common.{refl}
use Rattle.replies.specs.declared.reply.Reply.TheVariants.{OutputLocked}
use Rattle.unit.specs.Units.{state_of}
use Rattle.unit.proofs.Causes.{lock_asked, refused_first, refused_then, accepted_then}
use Rattle.unit.proofs.state.Unit.lock_output.Goals as goal

pub returns-in_err-check_switch : goal.returns-in_err-check_switch
returns-in_err-check_switch g c = refused_first (lock_asked (state_of g.F.Fabric.meaning c.args.self.now) c.args.port c.args.output c.args.input) _ c.check_switch.ensures.answer c.in_err-check_switch.was c.from_residual.ensures.1

pub returns-in_err-lock : goal.returns-in_err-lock
returns-in_err-lock g c = refused_then (lock_asked (state_of g.F.Fabric.meaning c.args.self.now) c.args.port c.args.output c.args.input) _ _ c.check_switch.ensures.answer c.in_ok-check_switch.was c.lock.ensures.answer c.in_err-lock.was c.from_residual-in_err-lock.ensures.1 c.lock.ensures.after

pub returns : goal.returns
returns g c = accepted_then (lock_asked (state_of g.F.Fabric.meaning c.args.self.now) c.args.port c.args.output c.args.input) OutputLocked _ c.check_switch.ensures.answer c.in_ok-check_switch.was c.lock.ensures.answer c.in_ok-lock.was c.lock.ensures.after refl tt
