use Rattle.std.proofs.Common.{ap, sym, ◌∙◌, [], Vec, Global, option_copied, None}
use Rattle.std.proofs.lemmas.Result.{IfErr-weaker, IfOk-weaker}
use Rattle.misp_elem.specs.declared.row.Row.{Row as RowOf}
use Rattle.misp_model.specs.Prelude.{at_tags, tagged}
use Rattle.misp_copies.specs.Scenes.{scene_for}
use Rattle.misp_copies.proofs.Barred.{full_names}
use Rattle.misp_edit.proofs.OneRow.{edit_absent, edit_full, edit_written, one_refused}
use Rattle.misp_edit.proofs.RowEdits.{is_tagging}
use Rattle.misp_edit.proofs.tagging.tag.Goals as goal

pub tagged_row-requires : goal.tagged_row-requires
tagged_row-requires c =
    (is_tagging (scene_for 0 c.args.who.now [] c.args.now [] c.args.rows.now) c.args.event.now c.get-place.ensures.value c.has_live-fits.ensures c.own_row-own.ensures c.args.tag.now).stamp
    c.in-Ok-Some.row.now c.in-Ok-Some.ensures.rule (sym (ap option_copied c.in-Ok-Some.field-0-is) ∙ c.in-Ok-Some.ensures.own)

pub returns-in-Err-clause-err : goal.returns-in-Err-clause-err
returns-in-Err-clause-err c = λ act name today.
    one_refused (is_tagging (scene_for act c.args.who.now name c.args.now today c.args.rows.now) c.args.event.now c.get-place.ensures.value c.has_live-fits.ensures c.own_row-own.ensures c.args.tag.now) c.in-Err.fault c.in-Err.ensures.rule

pub returns-in-Ok-None-clause-ok : goal.returns-in-Ok-None-clause-ok
returns-in-Ok-None-clause-ok c = λ act name today.
    edit_absent (is_tagging (scene_for act c.args.who.now name c.args.now today c.args.rows.now) c.args.event.now c.get-place.ensures.value c.has_live-fits.ensures c.own_row-own.ensures c.args.tag.now)
    c.in-Ok-None.ensures.rule (sym (ap option_copied c.in-Ok-None.field-0-is) ∙ c.in-Ok-None.ensures.own) c.new.result.items c.new.ensures.items

pub returns-in-Ok-Some-clause-err : goal.returns-in-Ok-Some-clause-err
returns-in-Ok-Some-clause-err c = λ act name today.
    IfErr-weaker _ _ _
    (λ fault g.
    edit_full (is_tagging (scene_for act c.args.who.now name c.args.now today c.args.rows.now) c.args.event.now c.get-place.ensures.value c.has_live-fits.ensures c.own_row-own.ensures c.args.tag.now)
    c.in-Ok-Some.ensures.rule c.in-Ok-Some.row.now (sym (ap option_copied c.in-Ok-Some.field-0-is) ∙ c.in-Ok-Some.ensures.own) fault g)
    c.tagged_row.ensures.err

pub returns-in-Ok-Some-clause-ok : goal.returns-in-Ok-Some-clause-ok
returns-in-Ok-Some-clause-ok c = λ act name today.
    IfOk-weaker c.tagged_row.result _ _
    (λ (made : Vec RowOf Global) g.
    edit_written (is_tagging (scene_for act c.args.who.now name c.args.now today c.args.rows.now) c.args.event.now c.get-place.ensures.value c.has_live-fits.ensures c.own_row-own.ensures c.args.tag.now)
    c.in-Ok-Some.ensures.rule c.in-Ok-Some.row.now (sym (ap option_copied c.in-Ok-Some.field-0-is) ∙ c.in-Ok-Some.ensures.own) made.items g)
    c.tagged_row.ensures.ok

pub returns-in-Ok-Some-clause-names : goal.returns-in-Ok-Some-clause-names
returns-in-Ok-Some-clause-names c = IfErr-weaker _ _ _ (full_names None (at_tags (tagged c.args.tag.now) c.in-Ok-Some.row.now.content)) c.tagged_row.ensures.err
