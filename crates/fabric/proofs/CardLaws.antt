-- What a card's numbers mean at the start and after one of them is written.
use Rattle.std.proofs.Common.{◌≡◌, ℕ, ◌-◌, ◌<◌, ◌≤◌, true, ◌&&◌, List, length, set, replicate, refl, arith}
use Rattle.std.proofs.lemmas.Bool.Decides.{nat_tests}
use Rattle.std.proofs.lemmas.List.{get_or-set_same, get_or-set_other, get_or-replicate}
use Rattle.fabric.specs.Meaning.{within, routed}
use Rattle.fabric.specs.Cards.{card_of, started, AllFed}
use Rattle.fabric.proofs.Means.{same_meaning}

module _ (i o : ℕ) (xs : List ℕ) (k j : ℕ) (long : o ≤ length xs) (inside : (within k o && within j i) ≡ true) where
  pub card_routed : card_of i o (set xs (k - 1) j) ≡ routed (card_of i o xs) k j
  card_routed =
      same_meaning (card_of i o (set xs (k - 1) j)) (routed (card_of i o xs) k j) refl refl
      (λ x. grind (arith, nat_tests, get_or-set_same, get_or-set_other))
      (λ x y. refl)

module _ (i o : ℕ) (some : 1 ≤ i) (few : o ≤ 256) where
  pub start_fed : AllFed i o (replicate 256 1)
  start_fed x h = let l : x < 256 = omega arith in rw (get_or-replicate {A = ℕ} 256 x 1 0 l) (grind (arith, nat_tests))

  pub start_means : card_of i o (replicate 256 1) ≡ started i o
  start_means =
      same_meaning (card_of i o (replicate 256 1)) (started i o) refl refl
      (λ x. grind (arith, nat_tests, get_or-replicate {A = ℕ} 256 (x - 1) 1 0))
      (λ x y. refl)
