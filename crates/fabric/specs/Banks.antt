-- What a bank of relays means, over its parts: a row of relays for each output, with the closed and the bad ones.
--
--   most_relays         the most relays of a row, and the most rows: the most inputs and outputs of a bank
--   is_on row j         the relay of input j, which is bit j - 1 of a row
--   closed row          the input of the lowest closed relay of a row
--   OneClosed n row     exactly one relay of the row is closed, and it is one of the first n
--   no_relays           a row with no relay closed and none bad
--   row_of xs o         the row of output o in the rows xs, which stands at o - 1
--   bank_of i o xs      a bank with the rows xs
--   relay_row m o       the row of output o, in which the relay of its feeding input alone is closed; no relay for an output outside the count
--   AllClosed i o xs    of each of the first o rows exactly one relay is closed, and it is one of the first i
--   AllOnFirst o xs     of each of the first o rows the relay of input 1 is closed
--   new_bank i o        a bank as it starts with no relay marked bad, for the sizes asked for
--   without m o i       m, of which the pair of o and i can no longer be made
--   marked m o i        m with the relay of o and i marked bad: as it was if a number is outside the counts
use Rattle.std.specs.Prelude.{◌≡◌, ℕ, ◌+◌, ◌-◌, ◌/◌, ◌%◌, ◌^◌, ◌<◌, ◌≤◌, Bool, cond, not, ◌&&◌, List, ◌==◌, slice_index_or}
use Rattle.std.specs.Int.Count.{count_trailing_zeros}
use Rattle.fabric.specs.declared.bank.row.RelayRow.{RelayRow}
use Rattle.fabric.specs.Meaning.{Meaning, within}
use Rattle.fabric.specs.Cards.{nearest, started}

abbrev pub most_relays : ℕ
most_relays = 16

abbrev pub is_on : ℕ → ℕ → Bool
is_on row j = row / 2 ^ (j - 1) % 2 == 1

abbrev pub closed : ℕ → ℕ
closed row = count_trailing_zeros most_relays row + 1

abbrev pub OneClosed : ℕ → ℕ → Type 0
OneClosed n row = (row ≡ 2 ^ (closed row - 1)) × (closed row ≤ n)

abbrev pub no_relays : RelayRow
no_relays = record { closed = 0; bad = 0 }

abbrev pub row_of : List RelayRow → ℕ → RelayRow
row_of xs o = slice_index_or xs (o - 1) no_relays

abbrev pub bank_of : ℕ → ℕ → List RelayRow → Meaning
bank_of i o xs = record {
  inputs = i;
  outputs = o;
  feeding = λ k. cond (within k o) (closed (row_of xs k).closed) 0;
  makeable = λ k j. (within k o && within j i) && not (is_on (row_of xs k).bad j);
}

abbrev pub relay_row : Meaning → ℕ → ℕ
relay_row m o = cond (within o m.outputs) (2 ^ (m.feeding o - 1)) 0

abbrev pub AllClosed : ℕ → ℕ → List RelayRow → Type 0
AllClosed i o xs = (k : ℕ) → k < o → OneClosed i (slice_index_or xs k no_relays).closed

abbrev pub AllOnFirst : ℕ → List RelayRow → Type 0
AllOnFirst o xs = (k : ℕ) → k < o → closed (slice_index_or xs k no_relays).closed ≡ 1

abbrev pub new_bank : ℕ → ℕ → Meaning
new_bank i o = started (nearest i most_relays) (nearest o most_relays)

abbrev pub without : Meaning → ℕ → ℕ → Meaning
without m o i = record {
  inputs = m.inputs;
  outputs = m.outputs;
  feeding = m.feeding;
  makeable = λ k j. m.makeable k j && not (k == o && j == i);
}

abbrev pub marked : Meaning → ℕ → ℕ → Meaning
marked m o i = cond (within o m.outputs && within i m.inputs) (without m o i) m
