use Rattle.std.proofs.Common.{ap, sym, ◌∙◌, subst, [], Vec, Global, option_copied}
use Rattle.std.proofs.lemmas.Result.{IfErr-weaker, IfOk-weaker}
use Rattle.misp_elem.specs.declared.row.Row.{Row as RowOf}
use Rattle.misp_elem.specs.Row.{barred_labels}
use Rattle.misp_model.specs.Prelude.{Element}
use Rattle.misp_copies.specs.Barring.{Names}
use Rattle.misp_copies.specs.Scenes.{scene_for}
use Rattle.misp_copies.proofs.Barred.{full_names}
use Rattle.misp_edit.proofs.OneRow.{edit_absent, edit_full, edit_written, one_refused, own_key}
use Rattle.misp_edit.proofs.RowEdits.{attribute_key, is_attribute_edit}
use Rattle.misp_edit.proofs.attribute_editing.edit_attribute.Goals as goal

pub edited_row-requires-clause-stamp : goal.edited_row-requires-clause-stamp
edited_row-requires-clause-stamp c =
    (is_attribute_edit (scene_for 0 c.args.who.now [] c.args.now [] c.args.rows.now) c.args.event.now c.get-place.ensures.value c.has_live-fits.ensures c.own_row-own.ensures c.get-edit.ensures.value).stamp
    c.in-Ok-Some.row.now c.in-Ok-Some.ensures.rule (sym (ap option_copied c.in-Ok-Some.field-0-is) ∙ c.in-Ok-Some.ensures.own)

pub edited_row-requires-clause-key : goal.edited_row-requires-clause-key
edited_row-requires-clause-key c =
    ap barred_labels (own_key c.args.who.now.org (Element c.args.event.now c.get-place.result) c.args.rows.now c.in-Ok-Some.row.now (sym (ap option_copied c.in-Ok-Some.field-0-is) ∙ c.in-Ok-Some.ensures.own ∙ c.own_row-own.ensures))
    ∙ attribute_key c.args.event.now c.get-place.result c.get-place.ensures.fits

pub returns-in-Err-clause-err : goal.returns-in-Err-clause-err
returns-in-Err-clause-err c = λ act name today.
    one_refused (is_attribute_edit (scene_for act c.args.who.now name c.args.now today c.args.rows.now) c.args.event.now c.get-place.ensures.value c.has_live-fits.ensures c.own_row-own.ensures c.get-edit.ensures.value)
    c.in-Err.fault c.in-Err.ensures.rule

pub returns-in-Err-clause-names : goal.returns-in-Err-clause-names
returns-in-Err-clause-names c = subst (λ fields. Names fields.label c.in-Err.fault) c.get-edit.ensures.value c.in-Err.ensures.names

pub returns-in-Ok-None-clause-ok : goal.returns-in-Ok-None-clause-ok
returns-in-Ok-None-clause-ok c = λ act name today.
    edit_absent (is_attribute_edit (scene_for act c.args.who.now name c.args.now today c.args.rows.now) c.args.event.now c.get-place.ensures.value c.has_live-fits.ensures c.own_row-own.ensures c.get-edit.ensures.value)
    c.in-Ok-None.ensures.rule (sym (ap option_copied c.in-Ok-None.field-0-is) ∙ c.in-Ok-None.ensures.own) c.new.result.items c.new.ensures.items

pub returns-in-Ok-Some-clause-err : goal.returns-in-Ok-Some-clause-err
returns-in-Ok-Some-clause-err c = λ act name today.
    IfErr-weaker _ _ _
    (λ fault g.
    edit_full (is_attribute_edit (scene_for act c.args.who.now name c.args.now today c.args.rows.now) c.args.event.now c.get-place.ensures.value c.has_live-fits.ensures c.own_row-own.ensures c.get-edit.ensures.value)
    c.in-Ok-Some.ensures.rule c.in-Ok-Some.row.now (sym (ap option_copied c.in-Ok-Some.field-0-is) ∙ c.in-Ok-Some.ensures.own) fault g)
    c.edited_row.ensures.err

pub returns-in-Ok-Some-clause-ok : goal.returns-in-Ok-Some-clause-ok
returns-in-Ok-Some-clause-ok c = λ act name today.
    IfOk-weaker c.edited_row.result _ _
    (λ (made : Vec RowOf Global) g.
    edit_written (is_attribute_edit (scene_for act c.args.who.now name c.args.now today c.args.rows.now) c.args.event.now c.get-place.ensures.value c.has_live-fits.ensures c.own_row-own.ensures c.get-edit.ensures.value)
    c.in-Ok-Some.ensures.rule c.in-Ok-Some.row.now (sym (ap option_copied c.in-Ok-Some.field-0-is) ∙ c.in-Ok-Some.ensures.own) made.items g)
    c.edited_row.ensures.ok

pub returns-in-Ok-Some-clause-names : goal.returns-in-Ok-Some-clause-names
returns-in-Ok-Some-clause-names c = IfErr-weaker _ _ _ (λ fault g. full_names c.args.edit.now.label _ fault g) c.edited_row.ensures.err
