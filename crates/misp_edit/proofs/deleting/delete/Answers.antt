use Rattle.std.proofs.Common.{ap, sym, ◌∙◌, [], Vec, Global, option_copied, refl}
use Rattle.std.proofs.lemmas.Result.{IfErr-weaker, IfOk-weaker}
use Rattle.misp_elem.specs.declared.row.Row.{Row as RowOf}
use Rattle.misp_model.specs.Prelude.{change_rules}
use Rattle.misp_model.specs.declared.change.Change.TheVariants.{Delete}
use Rattle.misp_copies.specs.Scenes.{scene_for}
use Rattle.misp_edit.proofs.LimitLemmas.{memory_names, memory_refuses}
use Rattle.misp_edit.proofs.OneRow.{edit_absent, edit_written, one_refused}
use Rattle.misp_edit.proofs.RowEdits.{is_deletion}
use Rattle.misp_edit.proofs.deleting.delete.Goals as goal

pub deleted_row-requires : goal.deleted_row-requires
deleted_row-requires c =
    (is_deletion (scene_for 0 c.args.who.now [] c.args.now [] c.args.rows.now) c.args.event.now refl c.has_live-fits.ensures c.own_row-own.ensures).stamp
    c.in-Ok-Some.row.now c.in-Ok-Some.ensures.rule (sym (ap option_copied c.in-Ok-Some.field-0-is) ∙ c.in-Ok-Some.ensures.own)

pub returns-in-Err-clause-err : goal.returns-in-Err-clause-err
returns-in-Err-clause-err c = λ act name today.
    one_refused (is_deletion (scene_for act c.args.who.now name c.args.now today c.args.rows.now) c.args.event.now refl c.has_live-fits.ensures c.own_row-own.ensures) c.in-Err.fault c.in-Err.ensures.rule

pub returns-in-Ok-None-clause-ok : goal.returns-in-Ok-None-clause-ok
returns-in-Ok-None-clause-ok c = λ act name today.
    edit_absent (is_deletion (scene_for act c.args.who.now name c.args.now today c.args.rows.now) c.args.event.now refl c.has_live-fits.ensures c.own_row-own.ensures)
    c.in-Ok-None.ensures.rule (sym (ap option_copied c.in-Ok-None.field-0-is) ∙ c.in-Ok-None.ensures.own) c.new.result.items c.new.ensures.items

pub returns-in-Ok-Some-clause-err : goal.returns-in-Ok-Some-clause-err
returns-in-Ok-Some-clause-err c = λ act name today.
    IfErr-weaker _ _ _ (memory_refuses (change_rules (scene_for act c.args.who.now name c.args.now today c.args.rows.now) (Delete c.args.event.now c.args.place.now))) c.deleted_row.ensures.err

pub returns-in-Ok-Some-clause-ok : goal.returns-in-Ok-Some-clause-ok
returns-in-Ok-Some-clause-ok c = λ act name today.
    IfOk-weaker c.deleted_row.result _ _
    (λ (made : Vec RowOf Global) g.
    edit_written (is_deletion (scene_for act c.args.who.now name c.args.now today c.args.rows.now) c.args.event.now refl c.has_live-fits.ensures c.own_row-own.ensures)
    c.in-Ok-Some.ensures.rule c.in-Ok-Some.row.now (sym (ap option_copied c.in-Ok-Some.field-0-is) ∙ c.in-Ok-Some.ensures.own) made.items g)
    c.deleted_row.ensures.ok

pub returns-in-Ok-Some-clause-names : goal.returns-in-Ok-Some-clause-names
returns-in-Ok-Some-clause-names c = IfErr-weaker _ _ _ memory_names c.deleted_row.ensures.err
