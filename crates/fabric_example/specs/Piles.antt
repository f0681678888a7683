-- What the pile means, from what its parts mean.
--
--   pile_meaning   the pile
--   new_pile       the pile as it starts: a bank of four by four whose relay of output 1 and input 2 is bad, with inputs 2 and 3
--                  exchanged; a card of ten by six; a patch field
use Rattle.fabric.specs.Meaning.{Meaning}
use Rattle.fabric.specs.Cards.{new_card}
use Rattle.fabric.specs.Banks.{new_bank, marked}
use Rattle.fabric.specs.Joins.{new_join}
use Rattle.fabric.specs.Swaps.{swapped}
use Rattle.fabric.specs.Kinds.{card_meaning, bank_meaning, join_meaning, swap_meaning}
use Rattle.fabric.specs.declared.bank.RelayBank.{RelayBank}
use Rattle.fabric.specs.declared.card.Card.{Card}
use Rattle.fabric.specs.declared.join.Join.{Join}
use Rattle.fabric.specs.declared.swap.Swap.{Swap}
use Rattle.fabric_example.specs.declared.patch.PatchField.{PatchField}
use Rattle.fabric_example.specs.Patches.{patch_meaning, new_patch}

abbrev pub pile_meaning : Join (Join (Swap RelayBank) Card) PatchField → Meaning
pile_meaning = join_meaning (join_meaning (swap_meaning bank_meaning) card_meaning) patch_meaning

abbrev pub new_pile : Meaning
new_pile = new_join (new_join (swapped (marked (new_bank 4 4) 1 2) 2 3) (new_card 10 6)) new_patch
