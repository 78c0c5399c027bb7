use Rattle.std.proofs.Common.{subst, ap, ◌∙◌}
use Rattle.std.proofs.lemmas.Result.{IfErr-weaker}
use Rattle.misp_elem.specs.Prelude.{IsRow, IsStamp}
use Rattle.misp_model.proofs.Prelude.{is_too_long}
use Rattle.misp_edit.proofs.RenewedRows.{deleted_row}
use Rattle.misp_edit.proofs.ShortRows.{deleted_short}
use Rattle.misp_edit.proofs.LimitLemmas.{full_memory}
use Rattle.misp_edit.proofs.deleting.deleted_row.Goals as goal

pub finished-requires-clause-is_row : goal.finished-requires-clause-is_row
finished-requires-clause-is_row c = λ short.
    rw (c.label_of.ensures, c.in-Ok.ensures) (deleted_row c.args.now c.args.row.now (subst IsStamp c.get-now.ensures.value c.get-now.ensures.in_range) (subst IsRow c.row.view_is c.row.invariant) c.requires)

pub returns-in-Ok-clause-err : goal.returns-in-Ok-clause-err
returns-in-Ok-clause-err c =
    IfErr-weaker _ _ _
    (λ fault g. full_memory c.in-Ok.content fault (ap is_too_long c.in-Ok.ensures ∙ deleted_short c.args.row.now (subst IsRow c.row.view_is c.row.invariant)) g) c.finished.ensures.err
