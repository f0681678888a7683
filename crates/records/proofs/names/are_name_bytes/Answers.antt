use Rattle.std.proofs.Common.{◌||◌, ◌∙◌, rules}
use Rattle.std.proofs.lemmas.Iterator.{YieldsList-from_slice}
use Rattle.std.proofs.lemmas.Iterator.Search.{all_from_yields_List}
use Rattle.wire.specs.Fields.{is_digit}
use Rattle.rules.specs.Panel.{is_letter}
use Rattle.records.proofs.Lists.{list_all-every}
use Rattle.records.proofs.names.are_name_bytes.Goals as goal

pub returns : goal.returns
returns c = all_from_yields_List (λ b. is_letter b || is_digit b) _ _ _ c.all.ensures.ran (YieldsList-from_slice c.args.name.now cc) (λ x b q k. search rules) ∙ list_all-every (λ b. is_letter b || is_digit b) c.args.name.now
