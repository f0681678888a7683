-- Bytes by their first places and the rest behind them, as a slice pattern has them.
use Rattle.std.proofs.Common.{◌≡◌, ℕ, ◌-◌, ◌≤◌, List, ◌∷◌, length, get_or, take, drop, arith}
use Rattle.std.proofs.lemmas.Grind.{common_steps}
use Rattle.std.proofs.lemmas.List.{take_rest}

-- what `rest @ ..` holds behind k places
abbrev pub rest_behind : ℕ → List ℕ → List ℕ
rest_behind k s = take (length s - k) (drop k s)

pub front2 : (s : List ℕ) → 2 ≤ length s → get_or s 0 0 ∷ get_or s 1 0 ∷ rest_behind 2 s ≡ s
front2 s h = grind (arith, common_steps, take_rest)

pub front3 : (s : List ℕ) → 3 ≤ length s → get_or s 0 0 ∷ get_or s 1 0 ∷ get_or s 2 0 ∷ rest_behind 3 s ≡ s
front3 s h = grind (arith, common_steps, take_rest)

-- the same where the first bytes are known
pub begins1 : (s : List ℕ) (a : ℕ) → 1 ≤ length s → get_or s 0 0 ≡ a → a ∷ rest_behind 1 s ≡ s
begins1 s a h p = grind (arith, common_steps, take_rest)

pub begins2 : (s : List ℕ) (a b : ℕ) → 2 ≤ length s → get_or s 0 0 ≡ a → get_or s 1 0 ≡ b → a ∷ b ∷ rest_behind 2 s ≡ s
begins2 s a b h p q = grind (arith, common_steps, take_rest)

pub begins3 : (s : List ℕ) (a b c : ℕ) → 3 ≤ length s → get_or s 0 0 ≡ a → get_or s 1 0 ≡ b → get_or s 2 0 ≡ c → a ∷ b ∷ c ∷ rest_behind 3 s ≡ s
begins3 s a b c h p q r = grind (arith, common_steps, take_rest)
