-- What a fabric means, and what a routing answers and does to that meaning.
--
--   most_inputs    the most inputs that a fabric may have
--   most_outputs   the most outputs that a fabric may have
--   Meaning        the counts of inputs and outputs, the feeding input of each output, and which pairs can be made
--   within k n     k is one of the numbers 1 to n
--   Sound m        the counts of m are inside the limits, and so are the numbers that it speaks of
--   routed m o i   m with output o fed by input i, and nothing else changed
--   after m o i    m after output o was asked to be fed by input i: as it was if the pair cannot be made
--   answer m o i   what that routing answers: a number outside the counts is told before a pair that cannot be made
use Rattle.std.specs.Prelude.{◌≡◌, ℕ, ◌≤◌, Bool, true, false, cond, ◌&&◌, Ok, Err, Result, ◌==◌, nat_le}
use Rattle.fabric.specs.declared.fault.RouteFault.{RouteFault}
use Rattle.fabric.specs.declared.fault.RouteFault.TheVariants.{OutOfRange, CannotBeMade}

abbrev pub most_inputs : ℕ
most_inputs = 999

abbrev pub most_outputs : ℕ
most_outputs = 256

pub record Meaning : Type 0 where
  pub inputs : ℕ
  pub outputs : ℕ
  pub feeding : ℕ → ℕ
  pub makeable : ℕ → ℕ → Bool

abbrev pub within : ℕ → ℕ → Bool
within k n = nat_le 1 k && nat_le k n

pub record Sound (m : Meaning) : Type 0 where
  pub some_inputs : 1 ≤ m.inputs
  pub few_inputs : m.inputs ≤ most_inputs
  pub some_outputs : 1 ≤ m.outputs
  pub few_outputs : m.outputs ≤ most_outputs
  pub fed : (o : ℕ) → within o m.outputs ≡ true → within (m.feeding o) m.inputs ≡ true
  pub unfed : (o : ℕ) → within o m.outputs ≡ false → m.feeding o ≡ 0
  pub made_within : (o i : ℕ) → m.makeable o i ≡ true → (within o m.outputs && within i m.inputs) ≡ true

abbrev pub routed : Meaning → ℕ → ℕ → Meaning
routed m o i = record {
  inputs = m.inputs;
  outputs = m.outputs;
  feeding = λ k. cond (k == o) i (m.feeding k);
  makeable = m.makeable;
}

abbrev pub after : Meaning → ℕ → ℕ → Meaning
after m o i = cond (m.makeable o i) (routed m o i) m

abbrev pub answer : Meaning → ℕ → ℕ → Result (Unit {0}) RouteFault
answer m o i = cond (within o m.outputs && within i m.inputs) (cond (m.makeable o i) (Ok tt) (Err CannotBeMade)) (Err OutOfRange)
