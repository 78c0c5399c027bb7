use Rattle.std.proofs.Common.{ap, sym, ◌∙◌, subst}
use Rattle.misp_elem.specs.Prelude.{IsRow, IsStamp}
use Rattle.misp_model.specs.Prelude.{is_too_long}
use Rattle.misp_statements.proofs.AcceptedRows.{accepted_row}
use Rattle.misp_statements.proofs.accepting.changed_row.Goals as goal

pub finished-requires-clause-is_row : goal.finished-requires-clause-is_row
finished-requires-clause-is_row c = λ short.
    rw (c.label_of.ensures, c.in-Ok.ensures)
    (accepted_row c.args.body.now c.args.now c.args.row.now c.requires.body (subst IsStamp c.get-now.ensures.value c.get-now.ensures.in_range) (subst IsRow c.row.view_is c.row.invariant) c.requires.stamp
    (ap is_too_long (sym c.in-Ok.ensures) ∙ short))
