use Rattle.std.proofs.Common.{subst, [], ◌∷◌, ap, ◌∙◌, Vec, Global}
use Rattle.std.proofs.lemmas.Result.{IfErr-weaker, IfOk-weaker}
use Rattle.misp_elem.specs.declared.row.Row.{Row as RowOf}
use Rattle.misp_elem.specs.Prelude.{IsRow, IsStamp}
use Rattle.misp_model.proofs.Prelude.{is_too_long}
use Rattle.misp_edit.proofs.TaggedRows.{untagged_row}
use Rattle.misp_copies.specs.Renewing.{renewed}
use Rattle.misp_edit.proofs.ShortRows.{untagged_short}
use Rattle.misp_edit.proofs.LimitLemmas.{full_memory}
use Rattle.misp_edit.proofs.tagging.untagged_row.Goals as goal

pub finished-requires-clause-is_row : goal.finished-requires-clause-is_row
finished-requires-clause-is_row c = λ short.
    let is : IsRow c.args.row.now = subst IsRow c.row.view_is c.row.invariant in
    rw (c.label_of.ensures, c.in-Ok.ensures)
    (untagged_row c.args.name.now c.args.now c.args.row.now (subst IsStamp c.get-now.ensures.value c.get-now.ensures.in_range) is c.requires (untagged_short c.args.name.now c.args.row.now is))

pub returns-in-Ok-clause-err : goal.returns-in-Ok-clause-err
returns-in-Ok-clause-err c =
    IfErr-weaker _ _ _
    (λ fault g. full_memory c.in-Ok.content fault (ap is_too_long c.in-Ok.ensures ∙ untagged_short c.args.name.now c.args.row.now (subst IsRow c.row.view_is c.row.invariant)) g) c.finished.ensures.err

pub returns-in-Ok-clause-ok : goal.returns-in-Ok-clause-ok
returns-in-Ok-clause-ok c =
    IfOk-weaker c.finished.result _ _ (λ (made : Vec RowOf Global) g. g.0 ∙ (λ i. renewed c.args.now c.args.row.now (c.label_of.ensures i) (c.in-Ok.ensures i) ∷ [])) c.finished.ensures.ok
