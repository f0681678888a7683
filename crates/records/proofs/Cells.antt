-- Tables read through a function of their values: filled with one value, and after one was written.
use Rattle.std.proofs.Common.{◌≡◌, ℕ, Bool, true, false, cond, eqb, Option, Some, None, refl}
use Rattle.std.proofs.lemmas.Bool.{cond-true}
use Rattle.fabric.specs.Meaning.{within}
use Rattle.records.specs.Tables.{put_at, put_within}

module _ {V : Type 0} (n : ℕ) (f : ℕ → V) (k : ℕ) (v : V) where
  pub put_inside : within k n ≡ true → put_within n f k v ≡ put_at f k v
  put_inside e = cond-true _ _ _ e

  pub put_read : {W : Type 0} (g : V → W) → ◌≡◌ {A = ℕ → W} (λ j. g (put_within n f k v j)) (put_within n (λ j. g (f j)) k (g v))
  put_read {W} g = λ i j. by (within k n) j i
    where
      here : (j : ℕ) (b : Bool) → g (cond b v (f j)) ≡ cond b (g v) (g (f j))
      here j true = refl
      here j false = refl

      by : (b : Bool) (j : ℕ) → g (cond {A = ℕ → V} b (put_at f k v) f j) ≡ cond {A = ℕ → W} b (put_at (λ j. g (f j)) k (g v)) (λ j. g (f j)) j
      by true j = here j (eqb j k)
      by false j = refl

pub filled_read : {V W : Type 0} (n : ℕ) (v : V) (g : Option V → W) (w : W) → g (Some v) ≡ w → g None ≡ w → ◌≡◌ {A = ℕ → W} (λ k. g (cond (within k n) (Some v) None)) (λ k. w)
filled_read n v g w inside outside = λ i k. by (within k n) i
  where
    by : (b : Bool) → g (cond b (Some v) None) ≡ w
    by true = inside
    by false = outside
