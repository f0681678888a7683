-- All pairs are those of the input.
use Rattle.std.proofs.Common.{length, ◌/◌, refl, ap, ◌∙◌, take_all}
use Rattle.bench.proofs.Pairs.{listed, pairs_are}
use Rattle.bench.proofs.session.calls_in.Goals as goal

pub returns : goal.returns
returns c =
    c.loop-first.invariant ∙ ap listed (take_all _ _ c.loop-first-test.false ∙ c.as_chunks.ensures.front)
    ∙ pairs_are (length c.args.input.now / 2) c.args.input.now refl
