use Rattle.std.proofs.Common.{option_map, unwrap_or, refl, ap, ◌∙◌}
use Rattle.records.specs.Records.{user_of, nobody}
use Rattle.records.proofs.Cells.{filled_read}
use Rattle.records.proofs.users.Users.new.Goals as goal

pub returns : goal.returns
returns c = ap (λ t u. unwrap_or (option_map user_of (t u)) nobody) c.of.ensures ∙ filled_read 8 c.default.result (λ v. unwrap_or (option_map user_of v) nobody) nobody c.default.ensures refl
