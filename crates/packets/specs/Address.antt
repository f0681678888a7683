-- Whom a packet addresses.
--
--   Parts            the two address bytes and the body of what was listed
--   parts            what was listed, taken apart; nothing where fewer than two bytes were listed
--   matches a h l    the address bytes h and l are FF, or the address a as two hexadecimal digits in capitals
use Rattle.std.specs.Prelude.{ℕ, Bool, ◌||◌, List, [], ◌∷◌, Some, None, codes, Option}
use Rattle.wire.specs.Fields.{same_bytes, two_hex}

pub record Parts : Type 0 where
  pub high : ℕ
  pub low : ℕ
  pub body : List ℕ

abbrev pub parts : List ℕ → Option Parts
parts [] = None
parts (h ∷ []) = None
parts (h ∷ l ∷ body) = Some (record { high = h; low = l; body = body })

abbrev pub matches : ℕ → ℕ → ℕ → Bool
matches a h l = same_bytes (h ∷ l ∷ []) (codes "FF") || same_bytes (h ∷ l ∷ []) (two_hex a)
