-- What two fabrics mean as one: the inputs of the first, then those of the second.
--
--   fits a b                        the inputs of both are few enough for one fabric
--   all_inputs a b                  how many inputs a and b have as one
--   fewer a b                       the smaller of the two counts of outputs
--   covers a b o i                  output o and input i are inside the counts of a and b as one
--   joined a b second               a and b as one; second says of which outputs the second fabric is selected
--   new_join a b                    the same with the first fabric selected for every output
--   selecting second o side         the selection with the given side for output o
--   first_after a b o i             what a means after a routing of the two as one: routed if it has the input, else as it was
--   second_after a b o i            what b means then, where input i is its input i - a.inputs
--   selected_after a b second o i   the selection then: the side that has the input, if the pair can be made, else as it was
--   cut m n                         m with its first n outputs alone
use Rattle.std.specs.Prelude.{ℕ, ◌+◌, ◌-◌, min, Bool, false, cond, not, ◌&&◌, ◌==◌, nat_le}
use Rattle.fabric.specs.Meaning.{Meaning, most_inputs, within, after}

abbrev pub fits : Meaning → Meaning → Bool
fits a b = nat_le (a.inputs + b.inputs) most_inputs

abbrev pub all_inputs : Meaning → Meaning → ℕ
all_inputs a b = cond (fits a b) (a.inputs + b.inputs) a.inputs

abbrev pub fewer : Meaning → Meaning → ℕ
fewer a b = min a.outputs b.outputs

abbrev pub covers : Meaning → Meaning → ℕ → ℕ → Bool
covers a b o i = within o (fewer a b) && within i (all_inputs a b)

abbrev pub joined : Meaning → Meaning → (ℕ → Bool) → Meaning
joined a b second = record {
  inputs = all_inputs a b;
  outputs = fewer a b;
  feeding = λ o. cond (within o (fewer a b)) (cond (fits a b && second o) (a.inputs + b.feeding o) (a.feeding o)) 0;
  makeable = λ o i. covers a b o i && cond (nat_le i a.inputs) (a.makeable o i) (b.makeable o (i - a.inputs));
}

abbrev pub new_join : Meaning → Meaning → Meaning
new_join a b = joined a b (λ o. false)

abbrev pub selecting : (ℕ → Bool) → ℕ → Bool → ℕ → Bool
selecting second o side k = cond (k == o) side (second k)

abbrev pub first_after : Meaning → Meaning → ℕ → ℕ → Meaning
first_after a b o i = cond (covers a b o i && nat_le i a.inputs) (after a o i) a

abbrev pub second_after : Meaning → Meaning → ℕ → ℕ → Meaning
second_after a b o i = cond (covers a b o i && not (nat_le i a.inputs)) (after b o (i - a.inputs)) b

abbrev pub selected_after : Meaning → Meaning → (ℕ → Bool) → ℕ → ℕ → ℕ → Bool
selected_after a b second o i = cond ((joined a b second).makeable o i) (selecting second o (not (nat_le i a.inputs))) second

abbrev pub cut : Meaning → ℕ → Meaning
cut m n = record {
  inputs = m.inputs;
  outputs = n;
  feeding = λ o. cond (within o n) (m.feeding o) 0;
  makeable = λ o i. within o n && m.makeable o i;
}
