use Rattle.std.proofs.Common.{subst}
use Rattle.misp_elem.specs.Row.{IsRow}
use Rattle.misp_store.proofs.rows.raw_row.Goals as goal

pub returns-clause-row : goal.returns-clause-row
returns-clause-row c = subst IsRow c.row.view_is c.row.invariant
