-- A swap goes along with a routing, and done twice is the fabric below.
use Rattle.std.specs.Prelude.{◌≡◌, ℕ, Bool, true, false, cond, ◌==◌, refl}
use Rattle.std.proofs.Common.{sym, ap, arith}
use Rattle.std.proofs.lemmas.Bool.Decides.{nat_tests}
use Rattle.fabric.specs.Meaning.{Meaning, routed, after, answer}
use Rattle.fabric.specs.Swaps.{exchanged, swapped}
use Rattle.fabric.specs.Laws.{SwappedTwiceIsTheFabricBelow, SwappedRoutesTheExchangedInput}
use Rattle.fabric.specs.Soundness.{within_exchanged}
use Rattle.fabric.proofs.Means.{same_meaning}

exchanged_twice : (n p q x : ℕ) → exchanged n p q (exchanged n p q x) ≡ x
exchanged_twice n p q x = grind (arith, nat_tests)

pub swapped_twice : SwappedTwiceIsTheFabricBelow
swapped_twice m p q =
    same_meaning (swapped (swapped m p q) p q) m refl refl
    (λ o. exchanged_twice m.inputs p q (m.feeding o))
    (λ o i. ap (m.makeable o) (exchanged_twice m.inputs p q i))

module _ (m : Meaning) (p q : ℕ) where
  module _ (o i : ℕ) where
    swap_answer : answer (swapped m p q) o i ≡ answer m o (exchanged m.inputs p q i)
    swap_answer = rw (within_exchanged m.inputs p q i)

    fed_after : (k : ℕ) (b : Bool) → exchanged m.inputs p q (cond b (exchanged m.inputs p q i) (m.feeding k)) ≡ cond b i (exchanged m.inputs p q (m.feeding k))
    fed_after k true = exchanged_twice m.inputs p q i
    fed_after k false = refl

    either_way : (b : Bool) → swapped (cond b (routed m o (exchanged m.inputs p q i)) m) p q ≡ cond b (routed (swapped m p q) o i) (swapped m p q)
    either_way true =
        same_meaning (swapped (routed m o (exchanged m.inputs p q i)) p q) (routed (swapped m p q) o i) refl refl
        (λ k. fed_after k (k == o))
        (λ k j. refl)
    either_way false = refl

    swap_changes : after (swapped m p q) o i ≡ swapped (after m o (exchanged m.inputs p q i)) p q
    swap_changes = sym (either_way (m.makeable o (exchanged m.inputs p q i)))

  pub routes_exchanged : SwappedRoutesTheExchangedInput m p q
  routes_exchanged = record { answers = swap_answer; changes = swap_changes }
