-- Bytes that begin with O and not with OS, where a table of letters has OS before O.
use Rattle.std.proofs.Common.{◌≡◌, ℕ, ◌≤◌, cond, List, [], ◌∷◌, length, get_or, drop, arith}
use Rattle.std.proofs.lemmas.Grind.{common_steps}
use Rattle.std.proofs.lemmas.Bool.Decides.{nat_tests}
use Rattle.std.proofs.lemmas.List.{take_rest}
use Rattle.wire.specs.Letters.{begins}
use Rattle.wire.proofs.Fronts.{rest_behind}

-- what a table says of such a body, where it looks for OS before O
module _ {V : Type 0} (table : List ℕ → V) (with_os without : List ℕ → V) (says : (t : List ℕ) → table (79 ∷ t) ≡ cond (begins (83 ∷ []) t) (with_os (drop 1 t)) (without t)) where
  pub lone : (s : List ℕ) → 1 ≤ length s → get_or s 0 0 ≡ 79 → (2 ≤ length s → get_or s 1 0 ≡ 83 → ⊥) → without (rest_behind 1 s) ≡ table s
  lone s h p q = grind (arith, common_steps, nat_tests, take_rest, says)
