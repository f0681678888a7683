-- Each turn adds the line of one call.
use Rattle.std.proofs.Common.{arith}
use Rattle.std.proofs.lemmas.Grind.{common_steps}
use Rattle.std.proofs.lemmas.List.Elements.{filter_map-append}
use Rattle.bench.proofs.session.lines.Goals as goal

pub loop-listed-preserved : goal.loop-listed-preserved
loop-listed-preserved c = grind (arith, common_steps, filter_map-append)
