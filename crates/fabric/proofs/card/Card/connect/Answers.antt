-- One number written is one output routed.
use Rattle.std.proofs.Common.{arith}
use Rattle.fabric.proofs.CardLaws.{card_routed}
use Rattle.fabric.proofs.card.Card.connect.Goals as goal

pub returns : goal.returns
returns c =
    let s = c.args.self.now in
    card_routed s.size.inputs s.size.outputs s.from c.args.output c.args.input (omega (arith, s.size.few_outputs)) c.requires
