-- What the two constructors say, and the law.
use Rattle.std.proofs.Common.{ap, ◌∙◌}
use Rattle.fabric.specs.Meaning.{Meaning}
use Rattle.fabric.specs.Swaps.{swapped}
use Rattle.fabric.proofs.SwapLaws.{swapped_twice}
use Rattle.fabric.proofs.swap.swap_twice.Goals as goal

pub returns : goal.returns
returns g c =
    record {
      meaning = c.new-2.ensures ∙ ap (λ (m : Meaning). swapped m c.args.p c.args.q) c.new.ensures ∙ swapped_twice (g.F.Fabric.meaning c.args.below) c.args.p c.args.q;
      law = swapped_twice;
    }
