-- The two answers, computed from the pile as it starts.
use Rattle.std.proofs.Common.{ap, ◌∙◌}
use Rattle.fabric.specs.Meaning.{Meaning, answer}
use Rattle.fabric_example.proofs.pile.refused.Goals as goal

pub returns : goal.returns
returns c =
    c.route_both.ensures.answer ∙ ap (λ (m : Meaning). (answer m 4 1, answer m 1 3)) c.assemble-pile.ensures
