-- The chain finds the first number that passes, and so does the rule.
use Rattle.std.proofs.Common.{sym, ◌∙◌, rules}
use Rattle.std.proofs.lemmas.Iterator.Adapters.{option_map_id}
use Rattle.std.proofs.lemmas.Iterator.Search.{find_from_yields_List}
use Rattle.rules.specs.Commands.{is_user, user_numbers}
use Rattle.records.specs.Records.{users_of}
use Rattle.records.proofs.Lists.{find-first_user}
use Rattle.records.proofs.Ranges.{YieldsList-from_range_inclusive}
use Rattle.records.proofs.users.Users.find.Goals as goal

pub returns-clause-answer : goal.returns-clause-answer
returns-clause-answer c =
    sym (option_map_id c.find.result)
    ∙ find_from_yields_List (is_user (users_of c.args.self.now) c.args.name.now c.args.password.now) _ _ c.find.result c.find.ensures.ran (YieldsList-from_range_inclusive 1 8 c.new.ensures.start c.new.ensures.end c.new.ensures.exhausted) (λ x b q k. search rules)
    ∙ find-first_user (users_of c.args.self.now) c.args.name.now c.args.password.now user_numbers
