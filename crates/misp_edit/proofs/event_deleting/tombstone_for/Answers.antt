use Rattle.std.proofs.Common.{subst, Vec, Global}
use Rattle.std.proofs.lemmas.Result.{IfOk-weaker}
use Rattle.misp_elem.specs.declared.row.Row.{Row as RowOf}
use Rattle.misp_elem.specs.Prelude.{IsRow, IsStamp}
use Rattle.misp_edit.proofs.TombstoneLemmas.{tombstone_row}
use Rattle.misp_edit.proofs.event_deleting.tombstone_for.Goals as goal

pub finished-requires-clause-is_row : goal.finished-requires-clause-is_row
finished-requires-clause-is_row c = λ short. tombstone_row c.args.now c.args.row.now (subst IsStamp c.get-now.ensures.value c.get-now.ensures.in_range) (subst IsRow c.row.view_is c.row.invariant) c.requires.stamp c.requires.key

pub returns-clause-ok : goal.returns-clause-ok
returns-clause-ok c = IfOk-weaker c.finished.result _ _ (λ (made : Vec RowOf Global) g. g.0) c.finished.ensures.ok
