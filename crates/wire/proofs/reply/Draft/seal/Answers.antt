use Rattle.std.proofs.Common.{ap, ◌∙◌, rules}
use Rattle.wire.specs.Frames.{on_line}
use Rattle.wire.proofs.Cells.{sealed_as}
use Rattle.wire.proofs.reply.Draft.seal.Goals as goal

pub returns-clause-value : goal.returns-clause-value
returns-clause-value c =
    let d = c.self.inside in
    sealed_as d.cells d.used c.check_byte-check.result (search rules) c.self.invariant c.check_byte-check.ensures ∙ ap on_line c.self.view_is
