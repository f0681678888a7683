-- The line that is printed for a reply.
--
--   spaced bs      each byte of bs as a space and two hexadecimal digits in capitals
--   reply_line n bs   the port's number n, the bytes of the reply, and a line feed
use Rattle.std.specs.Prelude.{ℕ, ◌+◌, List, [], ◌∷◌, ◌++◌}
use Rattle.std.specs.List.{flat_map}
use Rattle.wire.specs.Fields.{two_hex}

abbrev pub spaced : List ℕ → List ℕ
spaced = flat_map (λ (b : ℕ). 0x20 ∷ two_hex b)

abbrev pub reply_line : ℕ → List ℕ → List ℕ
reply_line n bs = (0x30 + n) ∷ spaced bs ++ 0x0A ∷ []
