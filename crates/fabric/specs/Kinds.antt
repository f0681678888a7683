-- What each kind of fabric means, as a value of its type. What is below a join or a swap comes with its own meaning.
--
--   card_meaning    a card
--   bank_meaning    a bank of relays
--   setup_meaning   the bank that a setup gives
--   side_of a i     the side that has input i, where a is first
--   is_second       the second side
--   chosen xs o     the second side stands in xs for output o, at o - 1
--   join_meaning    a join, from what its two fabrics mean
--   swap_meaning    a swap, from what the fabric below means
use Rattle.std.specs.Prelude.{ℕ, ◌-◌, Bool, true, false, cond, ◌&&◌, List, nat_le, slice_index_or}
use Rattle.fabric.specs.declared.card.Card.{Card}
use Rattle.fabric.specs.declared.bank.setup.BankSetup.{BankSetup}
use Rattle.fabric.specs.declared.bank.RelayBank.{RelayBank}
use Rattle.fabric.specs.declared.join.Join.{Join}
use Rattle.fabric.specs.declared.join.Side.{Side}
use Rattle.fabric.specs.declared.join.Side.TheVariants.{First, Second}
use Rattle.fabric.specs.declared.swap.Swap.{Swap}
use Rattle.fabric.specs.Meaning.{Meaning}
use Rattle.fabric.specs.Cards.{card_of}
use Rattle.fabric.specs.Banks.{bank_of}
use Rattle.fabric.specs.Joins.{joined}
use Rattle.fabric.specs.Swaps.{swapped}

abbrev pub card_meaning : Card → Meaning
card_meaning c = card_of c.size.inputs c.size.outputs c.from

abbrev pub bank_meaning : RelayBank → Meaning
bank_meaning b = bank_of b.size.inputs b.size.outputs b.rows

abbrev pub setup_meaning : BankSetup → Meaning
setup_meaning s = bank_meaning s.bank

abbrev pub side_of : Meaning → ℕ → Side
side_of a i = cond (nat_le i a.inputs) First Second

abbrev pub is_second : Side → Bool
is_second First = false
is_second Second = true

abbrev pub chosen : List Side → ℕ → Bool
chosen xs o = nat_le 1 o && is_second (slice_index_or xs (o - 1) First)

abbrev pub join_meaning : {F G : Type 0} → (F → Meaning) → (G → Meaning) → Join F G → Meaning
join_meaning first second j = joined (first j.first) (second j.second) (chosen j.selected)

abbrev pub swap_meaning : {F : Type 0} → (F → Meaning) → Swap F → Meaning
swap_meaning below s = swapped (below s.below) s.p s.q
