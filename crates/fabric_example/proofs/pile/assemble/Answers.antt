-- What each constructor says, from the bottom of the pile up.
use Rattle.std.proofs.Common.{ap, ◌∙◌, ap₂}
use Rattle.fabric.specs.Meaning.{Meaning}
use Rattle.fabric.specs.Banks.{marked}
use Rattle.fabric.specs.Joins.{new_join}
use Rattle.fabric.specs.Swaps.{swapped}
use Rattle.fabric_example.proofs.pile.assemble.Goals as goal

pub returns : goal.returns
returns c =
    let bank = c.into_service.ensures.meaning ∙ c.mark_bad.ensures ∙ ap (λ (m : Meaning). marked m 1 2) c.new-setup.ensures in
    let below = c.new-bank.ensures ∙ ap (λ (m : Meaning). swapped m 2 3) bank in
    let two = c.new-2.ensures.meaning ∙ ap₂ (λ (x y : Meaning). new_join x y) below c.new.ensures in
    c.new-4.ensures.meaning ∙ ap₂ (λ (x y : Meaning). new_join x y) two c.new-3.ensures
