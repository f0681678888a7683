-- Each mask has every bit set.
use Rattle.std.proofs.Common.{true, unwrap_or, ap, ◌∙◌}
use Rattle.records.specs.Records.{mask_bit}
use Rattle.records.proofs.Cells.{filled_read}
use Rattle.records.proofs.Bits.{all_set}
use Rattle.records.proofs.masks.Masks.new.Goals as goal

pub returns : goal.returns
returns c =
    ap (λ t o. mask_bit (unwrap_or (t o) 255)) c.of.ensures
    ∙ filled_read 256 255 (λ v. mask_bit (unwrap_or v 255)) (λ g. true) (λ i g. all_set g i) (λ i g. all_set g i)
