use Rattle.std.proofs.Common.{subst, sym, []}
use Rattle.misp_elem.specs.Fields.{IsTag, text_limit}
use Rattle.misp_elem.specs.Prelude.{IsRow, IsStamp}
use Rattle.misp_edit.proofs.TaggedRows.{tagged_row}
use Rattle.misp_edit.proofs.tagging.tagged_row.Goals as goal

pub finished-requires-clause-is_row : goal.finished-requires-clause-is_row
finished-requires-clause-is_row c = λ short.
    rw (c.label_of.ensures, c.in-Ok.ensures)
    (tagged_row c.args.tag.now (subst (IsTag text_limit []) c.tag.view_is c.tag.invariant) c.args.now c.args.row.now (subst IsStamp c.get-now.ensures.value c.get-now.ensures.in_range) (subst IsRow c.row.view_is c.row.invariant)
    c.requires (rw (sym c.in-Ok.ensures) short))
