-- What a fabric means with two of its input numbers exchanged.
--
--   exchanged n p q x   q for p and p for q if both are within n, and every other number as it is
--   swapped m p q       m with the input numbers p and q exchanged
use Rattle.std.specs.Prelude.{ℕ, cond, ◌&&◌, ◌==◌}
use Rattle.fabric.specs.Meaning.{Meaning, within}

abbrev pub exchanged : ℕ → ℕ → ℕ → ℕ → ℕ
exchanged n p q x = cond (within p n && within q n) (cond (x == p) q (cond (x == q) p x)) x

abbrev pub swapped : Meaning → ℕ → ℕ → Meaning
swapped m p q = record {
  inputs = m.inputs;
  outputs = m.outputs;
  feeding = λ o. exchanged m.inputs p q (m.feeding o);
  makeable = λ o i. m.makeable o (exchanged m.inputs p q i);
}
