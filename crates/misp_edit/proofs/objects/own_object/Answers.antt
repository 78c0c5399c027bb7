use Rattle.std.proofs.Common.{subst}
use Rattle.misp_elem.specs.Row.{IsRow}
use Rattle.misp_edit.proofs.objects.own_object.Goals as goal

pub returns-then-is_deleted-deleted-clause-row : goal.returns-then-is_deleted-deleted-clause-row
returns-then-is_deleted-deleted-clause-row c = subst IsRow c.row.view_is c.row.invariant

pub returns-else-row-owner-clause-row : goal.returns-else-row-owner-clause-row
returns-else-row-owner-clause-row c = subst IsRow c.row.view_is c.row.invariant
