-- The bit stays if there is none or it is the same, and is flipped if it is another.
use Rattle.std.proofs.Common.{unwrap_or, sym, ap, ◌∙◌}
use mathlib.Core.Bool.{beq}
use Rattle.std.specs.Cmp.{booleans_Decides}
use Rattle.std.proofs.lemmas.Bool.{cond-false, and_parts}
use Rattle.fabric.specs.Meaning.{within}
use Rattle.records.specs.Tables.{value_at}
use Rattle.records.specs.Records.{mask_bit, mask_at, masks_of}
use Rattle.records.proofs.Cells.{put_read}
use Rattle.records.proofs.Bits.{differ, bit_kept, bit_written, bit_put_inside}
use Rattle.records.proofs.masks.Masks.set.Goals as goal
use Rattle.records.proofs.masks.Masks.set.Goals.{then-not-has_bit-via-then-not-has_bit, then-not-has_bit-via-else-not-has_bit+then-bit}

pub returns-then-not-has_bit-clause-after : goal.returns-then-not-has_bit-clause-after
returns-then-not-has_bit-clause-after c =
    let masks = masks_of c.args.self.now in
    elim c.then-not-has_bit.branch [
      | then-not-has_bit-via-then-not-has_bit w ↦ sym (cond-false _ _ _ (sym w.if-not-has_bit.ensures))
      | then-not-has_bit-via-else-not-has_bit+then-bit w ↦
          bit_kept masks c.args.output c.args.group c.args.bit (sym ((booleans_Decides w.bit.result c.args.bit).0 w.if-bit.true) ∙ w.bit.ensures)
          ∙ sym (bit_put_inside 256 8 masks c.args.output c.args.group c.args.bit (sym w.if-not-has_bit.ensures))
    ]

pub returns-clause-after : goal.returns-clause-after
returns-clause-after c =
    let s = c.args.self.now in
    let inside = sym c.if-not-has_bit.ensures in
    let both = and_parts (within c.args.output 256) (within c.args.group 8) inside in
    let other = differ (masks_of s c.args.output c.args.group) c.args.bit (ap (λ b. beq b c.args.bit) (sym c.bit.ensures) ∙ c.if-bit.false) in
    ap (λ t o. mask_bit (unwrap_or (t o) 255)) c.set.ensures
    ∙ ap (λ f o. mask_bit (f o)) (put_read 256 (value_at s.masks) c.args.output _ (λ v. unwrap_or v 255))
    ∙ bit_written (mask_at s) c.args.output c.args.group c.byte.result c.byte.ensures.mask both.0 both.1 c.args.bit other
    ∙ sym (bit_put_inside 256 8 (masks_of s) c.args.output c.args.group c.args.bit inside)
