-- What the unit keeps true of a login, so that each of its replies can be written.
--
--   is_user_number u   nobody, or one of the users 1 to 8
use Rattle.std.specs.Prelude.{ℕ, Bool, true, Some, None, Option}
use Rattle.fabric.specs.Meaning.{within}

abbrev pub is_user_number : Option ℕ → Bool
is_user_number None = true
is_user_number (Some u) = within u 8
