-- The answers, computed from the pile as it starts.
use Rattle.std.proofs.Common.{ℕ, List, [], ◌∷◌, ap, ◌∙◌}
use Rattle.fabric.specs.Meaning.{Meaning}
use Rattle.fabric.specs.Plans.{after_all, accepted}
use Rattle.fabric_example.proofs.pile.routed.Goals as goal

abbrev plan : List (ℕ × ℕ)
plan = (1, 2) ∷ (1, 3) ∷ (2, 9) ∷ (3, 18) ∷ (3, 15) ∷ []

pub returns : goal.returns
returns c =
    let made = c.assemble-pile.ensures in
    let routed = c.route_all-accepted.ensures.after ∙ ap (λ (m : Meaning). after_all m plan) made in
    let count = c.route_all-accepted.ensures.answer ∙ ap (λ (m : Meaning). accepted m plan) made in
    let one = c.feeding.ensures ∙ ap (λ (m : Meaning). m.feeding 1) routed in
    let two = c.feeding-2.ensures ∙ ap (λ (m : Meaning). m.feeding 2) routed in
    let three = c.feeding-3.ensures ∙ ap (λ (m : Meaning). m.feeding 3) routed in
    λ t. (count t, one t, two t, three t)
