-- A card's numbers at the start: every output on input 1.
use Rattle.std.proofs.Common.{◌∙◌, ap₂}
use Rattle.fabric.specs.Cards.{started}
use Rattle.fabric.proofs.CardLaws.{start_fed, start_means}
use Rattle.fabric.proofs.card.Card.new.Goals as goal

pub invariant_of-result : goal.invariant_of-result
invariant_of-result c = let s = c.nearest.result in record { fed = start_fed s.inputs s.outputs s.some_inputs s.few_outputs }

pub returns : goal.returns
returns c =
    let s = c.nearest.result in
    start_means s.inputs s.outputs s.some_inputs s.few_outputs ∙ ap₂ started c.nearest.ensures.inputs c.nearest.ensures.outputs
