-- The calls of the pairs are listed one by one.
use Rattle.std.proofs.Common.{◌≡◌, ℕ, ◌/◌, zero, suc, List, [], ◌∷◌, ◌++◌, map, length, get_or, Some, None, Option, sym, refl, ap, ◌∙◌, arith}
use Rattle.std.specs.List.{flat_map}
use Rattle.std.specs.Option.{option_map, option_to_list}
use Rattle.std.specs.Simd.{first_chunks}
use Rattle.rules.specs.Calls.{Call}
use Rattle.calls.specs.Listed.{Shown}
use Rattle.bench.specs.Sessions.{pair_call, calls_of, not_made}

not_made_first : (o : Option Call) (cs : List Call) → map not_made (option_to_list o ++ cs) ≡ option_to_list (option_map not_made o) ++ map not_made cs
not_made_first None cs = refl
not_made_first (Some c) cs = refl

abbrev pub call_at : List ℕ → Option Call
call_at p = pair_call (get_or p 0 0) (get_or p 1 0)

-- the calls of pairs, before they are made
abbrev pub listed : List (List ℕ) → List Shown
listed = flat_map (λ (p : List ℕ). option_to_list (option_map not_made (call_at p)))

-- the pairs of an input are as many as half of its length
pub pairs_are : (k : ℕ) (xs : List ℕ) → k ≡ length xs / 2 → listed (first_chunks 2 k xs) ≡ map not_made (calls_of xs)
pairs_are zero [] h = refl
pairs_are zero (f ∷ []) h = refl
pairs_are zero (f ∷ b ∷ rest) h = absurd (omega (arith, h))
pairs_are (suc k) [] h = absurd (omega (arith, h))
pairs_are (suc k) (f ∷ []) h = absurd (omega (arith, h))
pairs_are (suc k) (f ∷ b ∷ rest) h =
    ap (λ (l : List Shown). option_to_list (option_map not_made (pair_call f b)) ++ l) (pairs_are k rest (omega (arith, h)))
    ∙ sym (not_made_first (pair_call f b) (calls_of rest))
