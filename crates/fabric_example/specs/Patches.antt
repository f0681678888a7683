-- What a patch field means.
--
--   patched xs      four inputs and three outputs; xs says of output o, at o - 1, whether its cord is in the next input
--   patch_meaning   a patch field
--   new_patch       a patch field as it starts, every output on the input of its own number
--   patch_sound     each law of a sound meaning, of a patch field
use Rattle.std.specs.Prelude.{◌+◌, ◌-◌, Bool, false, cond, ◌&&◌, ◌||◌, List, replicate, ◌==◌, slice_index_or}
use Rattle.std.proofs.Common.{rules}
use Rattle.fabric.specs.Meaning.{Meaning, Sound, within}
use Rattle.fabric_example.specs.declared.patch.PatchField.{PatchField}

abbrev pub patched : List Bool → Meaning
patched xs = record {
  inputs = 4;
  outputs = 3;
  feeding = λ o. cond (within o 3) (cond (slice_index_or xs (o - 1) false) (o + 1) o) 0;
  makeable = λ o i. within o 3 && (i == o || i == o + 1);
}

abbrev pub patch_meaning : PatchField → Meaning
patch_meaning p = patched p.next

abbrev pub new_patch : Meaning
new_patch = patched (replicate 3 false)

pub patch_sound : (p : PatchField) → Sound (patch_meaning p)
patch_sound p = search rules
