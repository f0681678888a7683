-- Each arm's outcome is the one of the table, which has the laws.
use Rattle.std.proofs.Common.{arith, rules}
use Rattle.std.proofs.lemmas.Grind.{common_steps}
use Rattle.packets.proofs.Decoding.{with_laws}
use Rattle.packets.proofs.command.body.decode.Goals as goal

pub returns-in-69 : goal.returns-in-69
returns-in-69 c = with_laws _ c.args.body.now (grind (arith, common_steps))

pub returns-in-69-2 : goal.returns-in-69-2
returns-in-69-2 c = with_laws _ c.args.body.now (grind (arith, common_steps))

pub returns-in-69-3 : goal.returns-in-69-3
returns-in-69-3 c = with_laws _ c.args.body.now (grind (arith, common_steps))

pub returns-in-75 : goal.returns-in-75
returns-in-75 c = with_laws _ c.args.body.now (grind (arith, common_steps))

pub returns-in-75-2 : goal.returns-in-75-2
returns-in-75-2 c = with_laws _ c.args.body.now (grind (arith, common_steps))

pub returns-in-75-3 : goal.returns-in-75-3
returns-in-75-3 c = with_laws _ c.args.body.now (grind (arith, common_steps))

pub returns-in-79 : goal.returns-in-79
returns-in-79 c = with_laws _ c.args.body.now (grind (arith, common_steps))

pub returns-in-90 : goal.returns-in-90
returns-in-90 c = with_laws _ c.args.body.now (grind (arith, common_steps))

pub returns-in-90-2 : goal.returns-in-90-2
returns-in-90-2 c = with_laws _ c.args.body.now (grind (arith, common_steps))

pub returns-in-90-3 : goal.returns-in-90-3
returns-in-90-3 c = with_laws _ c.args.body.now (grind (arith, common_steps))

pub returns-in-67 : goal.returns-in-67
returns-in-67 c = with_laws _ c.args.body.now (grind (arith, common_steps))

pub returns-in-70 : goal.returns-in-70
returns-in-70 c = with_laws _ c.args.body.now (grind (arith, common_steps))

pub returns-in-76 : goal.returns-in-76
returns-in-76 c = with_laws _ c.args.body.now (grind (arith, common_steps))

pub returns-in-79-2 : goal.returns-in-79-2
returns-in-79-2 c = with_laws _ c.args.body.now (grind (arith, common_steps))

pub returns-in-81 : goal.returns-in-81
returns-in-81 c = with_laws _ c.args.body.now (grind (arith, common_steps))

pub returns-in-83 : goal.returns-in-83
returns-in-83 c = with_laws _ c.args.body.now (grind (arith, common_steps))

pub returns-in-85 : goal.returns-in-85
returns-in-85 c = with_laws _ c.args.body.now (grind (arith, common_steps))

pub returns-in_default : goal.returns-in_default
returns-in_default c = with_laws _ c.args.body.now (search rules)
