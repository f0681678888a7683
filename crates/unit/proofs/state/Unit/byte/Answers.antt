use Rattle.std.proofs.Common.{rules}
use Rattle.unit.proofs.Histories.{byte_keeps_the_laws}
use Rattle.unit.proofs.state.Unit.byte.Goals as goal

pub returns-then-reply-lt-MOST_REPLY-clause-law : goal.returns-then-reply-lt-MOST_REPLY-clause-law
returns-then-reply-lt-MOST_REPLY-clause-law g c = byte_keeps_the_laws _ _ c.args.port c.args.b c.args.reply.now _ _ (search rules) (search rules) (search rules) (search rules)

pub returns-in_err-port-clause-law : goal.returns-in_err-port-clause-law
returns-in_err-port-clause-law g c = byte_keeps_the_laws _ _ c.args.port c.args.b c.args.reply.now _ _ (search rules) (search rules) (search rules) (search rules)

pub returns-in-Some-clause-law : goal.returns-in-Some-clause-law
returns-in-Some-clause-law g c = byte_keeps_the_laws _ _ c.args.port c.args.b c.args.reply.now _ _ (search rules) (search rules) (search rules) (search rules)

pub returns-in-None-clause-law : goal.returns-in-None-clause-law
returns-in-None-clause-law g c = byte_keeps_the_laws _ _ c.args.port c.args.b c.args.reply.now _ _ (search rules) (search rules) (search rules) (search rules)
