-- Where the first side is selected for every output, no output has the second.
use Rattle.std.proofs.Common.{◌≡◌, ℕ, ◌-◌, Bool, false, leb, get_or, replicate, inl, inr, ap}
use Rattle.std.proofs.lemmas.List.{get_or-replicate, get_or_past, length-replicate}
use Rattle.std.proofs.lemmas.Bool.{cases_lt}
use Rattle.std.proofs.Math.Bool.{and-false}
use Rattle.fabric.specs.Meaning.{Meaning}
use Rattle.fabric.specs.Joins.{joined, new_join}
use Rattle.fabric.specs.Kinds.{chosen}
use Rattle.fabric.specs.declared.join.Side.TheVariants.{First}

first_everywhere : (n k : ℕ) → get_or (replicate n First) k First ≡ First
first_everywhere n k =
    elim (cases_lt k n) [
      | inl h ↦ get_or-replicate n k First First h
      | inr h ↦ get_or_past (replicate n First) k First (rw (length-replicate n First) h)
    ]

pub none_chosen : chosen (replicate 256 First) ≡ (λ o. false)
none_chosen = λ t o. none o t
  where
    none : (o : ℕ) → chosen (replicate 256 First) o ≡ false
    none o = rw (first_everywhere 256 (o - 1)) (and-false (leb 1 o))

pub first_selected : (a b : Meaning) → joined a b (chosen (replicate 256 First)) ≡ new_join a b
first_selected a b = ap (λ (second : ℕ → Bool). joined a b second) none_chosen
