-- What a card means, over its parts: a list of the feeding inputs, that of output o at o - 1.
--
--   nearest k n      the number k, or the nearest of 1 to n
--   started i o      i inputs and o outputs, every output on input 1, and every pair can be made
--   new_card i o     a card as it starts, for the sizes asked for
--   card_of i o xs   a card with the feeding inputs xs
--   AllFed i o xs    each of the first o numbers of xs is one of the inputs
use Rattle.std.specs.Prelude.{◌≡◌, ℕ, ◌-◌, ◌<◌, min, max, true, cond, ◌&&◌, List, slice_index}
use Rattle.fabric.specs.Meaning.{Meaning, most_inputs, most_outputs, within}

abbrev pub nearest : ℕ → ℕ → ℕ
nearest k n = max 1 (min k n)

abbrev pub started : ℕ → ℕ → Meaning
started i o = record {
  inputs = i;
  outputs = o;
  feeding = λ k. cond (within k o) 1 0;
  makeable = λ k j. within k o && within j i;
}

abbrev pub new_card : ℕ → ℕ → Meaning
new_card i o = started (nearest i most_inputs) (nearest o most_outputs)

abbrev pub card_of : ℕ → ℕ → List ℕ → Meaning
card_of i o xs = record {
  inputs = i;
  outputs = o;
  feeding = λ k. cond (within k o) (slice_index xs (k - 1)) 0;
  makeable = λ k j. within k o && within j i;
}

abbrev pub AllFed : ℕ → ℕ → List ℕ → Type 0
AllFed i o xs = (k : ℕ) → k < o → within (slice_index xs k) i ≡ true
