-- After some turns the places hold what they would if the elements so far were all.
use Rattle.std.proofs.Common.{◌≡◌, take}
use Rattle.wire.specs.Kept.{placed_all, counted_all}
use Rattle.wire.proofs.list.keep_all.Given as goal

abbrev pub invariant-loop-x : goal.invariant-loop-x
invariant-loop-x g l =
    ((l.used, l.overrun) ≡ counted_all l.initial.places (take l.x-index l.xs))
    × (l.places ≡ placed_all l.initial.places (take l.x-index l.xs))
