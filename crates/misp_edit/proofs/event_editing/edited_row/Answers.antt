use Rattle.std.proofs.Common.{ap, sym, ◌∙◌, subst}
use Rattle.misp_model.proofs.Prelude.{IsRow, IsStamp, is_too_long}
use Rattle.misp_edit.proofs.EditedEvents.{event_row}
use Rattle.misp_edit.proofs.event_editing.edited_row.Goals as goal

pub finished-requires-clause-is_row : goal.finished-requires-clause-is_row
finished-requires-clause-is_row c = λ short.
    rw (c.label_after-label.ensures, c.label_of.ensures, c.in-Ok.ensures)
    (event_row c.args.now c.args.row.now c.requires.key (sym c.if-is_tombstone.ensures) (subst IsStamp c.get-now.ensures.value c.get-now.ensures.in_range)
    (subst IsRow c.row.view_is c.row.invariant) c.requires.stamp c.args.edit.now c.requires.edit (ap is_too_long (sym c.in-Ok.ensures) ∙ short))
