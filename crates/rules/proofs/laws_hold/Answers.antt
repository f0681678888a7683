use Rattle.rules.proofs.Laws.{tables_true, outputs_as_named, askers_told, units_stand, rights_throughout, laws_after}
use Rattle.rules.proofs.Causes.{down_the_table}
use Rattle.rules.proofs.Refusals.{refused_nothing, receiver_alone}
use Rattle.rules.proofs.laws_hold.Goals as goal

pub returns : goal.returns
returns c = record { tables = tables_true; outputs = outputs_as_named; askers = askers_told; standing = units_stand; rights = rights_throughout; refused = refused_nothing; unacknowledged = receiver_alone; causes = down_the_table; calls = laws_after }
