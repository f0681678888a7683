use Rattle.std.proofs.Common.{option_map, unwrap_or, Some, ap, ◌∙◌}
use Rattle.records.specs.Tables.{value_at, put_within}
use Rattle.records.specs.Records.{user_of, nobody}
use Rattle.records.proofs.Cells.{put_read}
use Rattle.records.proofs.users.Users.enter.Goals as goal

pub returns : goal.returns
returns c =
    ap (λ t u. unwrap_or (option_map user_of (t u)) nobody) c.set.ensures
    ∙ put_read 8 (value_at c.args.self.now.users) c.from.result (Some c.args.user) (λ v. unwrap_or (option_map user_of v) nobody)
    ∙ ap (λ k. put_within 8 (λ u. unwrap_or (option_map user_of (value_at c.args.self.now.users u)) nobody) k (user_of c.args.user)) c.from.ensures
