-- The mask is the sum of its bits.
use Rattle.std.proofs.Common.{unwrap_or, ap, ◌∙◌, rules}
use Rattle.rules.specs.State.{byte_of}
use Rattle.records.specs.Records.{mask_bit}
use Rattle.records.proofs.Bits.{byte_sum}
use Rattle.records.proofs.masks.Masks.byte.Goals as goal

pub returns-clause-bits : goal.returns-clause-bits
returns-clause-bits c = byte_sum c.unwrap_or.result (search rules) ∙ ap (λ b. byte_of (mask_bit b)) (c.unwrap_or.ensures ∙ ap (λ v. unwrap_or v 255) c.get.ensures)
