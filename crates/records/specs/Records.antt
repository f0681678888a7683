-- What the records of the unit hold.
--
--   locks_of l       which outputs are locked
--   mask_bit b g     the bit of group g in the mask b; outside the groups it counts as set
--   mask_at m o      the mask of output o; outside the outputs every bit counts as set
--   masks_of m       the group masks of the outputs
--   user_of u        a user's name and password
--   nobody           a user without a name and a password
--   users_of us      the users by number
--   noted c p        the port p with the change c in its queue, if the numbers of c have three digits; else p
--   logged_in u p    the port p with user u logged in, if u is one of 1 to 8; else p
use Rattle.std.specs.Prelude.{ℕ, ◌-◌, ◌/◌, ◌%◌, ◌^◌, Bool, true, false, cond, [], Some, ◌==◌, unwrap_or, option_map}
use Rattle.fabric.specs.Meaning.{within}
use Rattle.wire.specs.Kept.{put}
use Rattle.replies.specs.declared.change.Change.{Change}
use Rattle.replies.specs.Queues.{most_queued, text}
use Rattle.replies.specs.Replies.{small_change}
use Rattle.rules.specs.State.{User, PortState, with_queue, with_login}
use Rattle.records.specs.Tables.{value_at}
use Rattle.records.specs.declared.locks.Locks.{Locks}
use Rattle.records.specs.declared.masks.Masks.{Masks}
use Rattle.records.specs.declared.users.User.{User as UserOfCode}
use Rattle.records.specs.declared.users.Users.{Users}

abbrev pub locks_of : Locks → ℕ → Bool
locks_of l o = unwrap_or (value_at l.locked o) false

abbrev pub mask_bit : ℕ → ℕ → Bool
mask_bit b g = cond (within g 8) (b / 2 ^ (g - 1) % 2 == 1) true

abbrev pub mask_at : Masks → ℕ → ℕ
mask_at m o = unwrap_or (value_at m.masks o) 255

abbrev pub masks_of : Masks → ℕ → ℕ → Bool
masks_of m o = mask_bit (mask_at m o)

abbrev pub user_of : UserOfCode → User
user_of u = record { name = text u.name; password = text u.password }

abbrev pub nobody : User
nobody = record { name = []; password = [] }

abbrev pub users_of : Users → ℕ → User
users_of us u = unwrap_or (option_map user_of (value_at us.users u)) nobody

abbrev pub noted : Change → PortState → PortState
noted c p = cond (small_change c) (with_queue (put most_queued p.queue c) p) p

abbrev pub logged_in : ℕ → PortState → PortState
logged_in u p = cond (within u 8) (with_login (Some u) p) p
