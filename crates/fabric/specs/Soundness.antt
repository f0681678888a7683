-- A card and a bank are sound; a join of two sound fabrics is, and so is a swap of one.
--
--   card_sound         each law of a sound meaning, of a card
--   bank_sound         each law of a sound meaning, of a bank of relays
--   within_closed      the input of the lowest closed relay of a row is an input, if it is within the count
--   within_min         a number within the smaller of two counts is within both
--   fed_inside         the feeding input of a join is inside its count
--   join_sound         each law of a sound meaning, of two fabrics as one
--   within_exchanged   a number exchanged is within the count exactly if it was before
--   zero_exchanged     0 is never exchanged
--   swap_sound         each law of a sound meaning, of a fabric with two of its input numbers exchanged
use Rattle.std.specs.Prelude.{◌≡◌, ℕ, ◌+◌, ◌-◌, ◌<◌, ◌≤◌, min, Bool, true, false, cond, ◌&&◌, List}
use Rattle.std.proofs.Common.{sym, ap, ◌∙◌, arith}
use Rattle.std.proofs.lemmas.Bool.Decides.{nat_tests}
use Rattle.std.proofs.lemmas.Bool.{and_parts}
use Rattle.fabric.specs.declared.size.Size.{Size}
use Rattle.fabric.specs.declared.bank.row.RelayRow.{RelayRow}
use Rattle.fabric.specs.Meaning.{Meaning, Sound, most_inputs, most_outputs, within}
use Rattle.fabric.specs.Cards.{card_of, AllFed}
use Rattle.fabric.specs.Banks.{most_relays, bank_of, closed, AllClosed}
use Rattle.fabric.specs.Joins.{joined, fits}
use Rattle.fabric.specs.Swaps.{exchanged, swapped}

pub card_sound : (s : Size most_inputs most_outputs) (xs : List ℕ) → AllFed s.inputs s.outputs xs → Sound (card_of s.inputs s.outputs xs)
card_sound s xs fed = record {
  some_inputs = s.some_inputs;
  few_inputs = s.few_inputs;
  some_outputs = s.some_outputs;
  few_outputs = s.few_outputs;
  fed = λ o h.
      let lt : o - 1 < s.outputs = grind (arith, nat_tests) in
      rw h (fed (o - 1) lt);
  unfed = λ o h. rw h;
  made_within = λ o i h. h;
}

within_closed : (row n : ℕ) → closed row ≤ n → within (closed row) n ≡ true
within_closed row n h = grind (arith, nat_tests)

pub bank_sound : (s : Size most_relays most_relays) (xs : List RelayRow) → AllClosed s.inputs s.outputs xs → Sound (bank_of s.inputs s.outputs xs)
bank_sound s xs one = record {
  some_inputs = s.some_inputs;
  few_inputs = omega (arith, s.few_inputs);
  some_outputs = s.some_outputs;
  few_outputs = omega (arith, s.few_outputs);
  fed = λ o h.
      let lt : o - 1 < s.outputs = grind (arith, nat_tests) in
      rw h (within_closed _ s.inputs (one (o - 1) lt).1);
  unfed = λ o h. rw h;
  made_within = λ o i h. (and_parts _ _ h).0;
}

pub within_min : (k m n : ℕ) → within k (min m n) ≡ true → (within k m ≡ true) × (within k n ≡ true)
within_min k m n h = (grind (arith, nat_tests), grind (arith, nat_tests))

fed_inside : (m n x y : ℕ) (fit on : Bool) → within x m ≡ true → within y n ≡ true → within (cond (fit && on) (m + y) x) (cond fit (m + n) m) ≡ true
fed_inside m n x y true true p q = grind (arith, nat_tests)
fed_inside m n x y true false p q = grind (arith, nat_tests)
fed_inside m n x y false on p q = p

pub join_sound : (a b : Meaning) (second : ℕ → Bool) → Sound a → Sound b → Sound (joined a b second)
join_sound a b second sa sb = record {
  some_inputs = grind (arith, nat_tests, sa.some_inputs);
  few_inputs = grind (arith, nat_tests, sa.few_inputs);
  some_outputs = omega (arith, sa.some_outputs, sb.some_outputs);
  few_outputs = omega (arith, sa.few_outputs);
  fed = λ o h.
      let w = within_min o a.outputs b.outputs h in
      rw h (fed_inside a.inputs b.inputs (a.feeding o) (b.feeding o) (fits a b) (second o) (sa.fed o w.0) (sb.fed o w.1));
  unfed = λ o h. rw h;
  made_within = λ o i h. (and_parts _ _ h).0;
}

pub within_exchanged : (n p q x : ℕ) → within (exchanged n p q x) n ≡ within x n
within_exchanged n p q x = grind (arith, nat_tests)

zero_exchanged : (n p q : ℕ) → exchanged n p q 0 ≡ 0
zero_exchanged n p q = grind (arith, nat_tests)

pub swap_sound : (m : Meaning) (p q : ℕ) → Sound m → Sound (swapped m p q)
swap_sound m p q s = record {
  some_inputs = s.some_inputs;
  few_inputs = s.few_inputs;
  some_outputs = s.some_outputs;
  few_outputs = s.few_outputs;
  fed = λ o h. within_exchanged m.inputs p q (m.feeding o) ∙ s.fed o h;
  unfed = λ o h. ap (exchanged m.inputs p q) (s.unfed o h) ∙ zero_exchanged m.inputs p q;
  made_within = λ o i h. rw (sym (within_exchanged m.inputs p q i)) (s.made_within o (exchanged m.inputs p q i) h);
}
