use Rattle.std.proofs.Common.{ap, sym, ◌∙◌, [], Vec, Global, option_copied}
use Rattle.std.proofs.lemmas.Result.{IfErr-weaker, IfOk-weaker}
use Rattle.misp_elem.specs.declared.row.Row.{Row as RowOf}
use Rattle.misp_model.specs.Prelude.{change_rules}
use Rattle.misp_model.specs.declared.change.Change.TheVariants.{DeleteReference}
use Rattle.misp_copies.specs.Scenes.{scene_for}
use Rattle.misp_edit.proofs.OneRow.{one_refused, plain_absent, plain_written}
use Rattle.misp_edit.proofs.LimitLemmas.{is_reference_deletion, memory_names, memory_refuses}
use Rattle.misp_edit.proofs.reference_deleting.delete_reference.Goals as goal

pub deleted_row-requires : goal.deleted_row-requires
deleted_row-requires c =
    (is_reference_deletion (scene_for 0 c.args.who.now [] c.args.now [] c.args.rows.now) c.args.event.now c.args.object.now c.args.reference.now c.live_reference-own.ensures c.is_there.ensures).stamp
    c.in-Ok-Some.row.now c.in-Ok-Some.ensures.rule (sym (ap option_copied c.in-Ok-Some.field-0-is) ∙ c.in-Ok-Some.ensures.own)

pub returns-in-Err-clause-err : goal.returns-in-Err-clause-err
returns-in-Err-clause-err c = λ act name today.
    one_refused (is_reference_deletion (scene_for act c.args.who.now name c.args.now today c.args.rows.now) c.args.event.now c.args.object.now c.args.reference.now c.live_reference-own.ensures c.is_there.ensures) c.in-Err.fault
    c.in-Err.ensures.rule

pub returns-in-Ok-None-clause-ok : goal.returns-in-Ok-None-clause-ok
returns-in-Ok-None-clause-ok c = λ act name today.
    plain_absent (is_reference_deletion (scene_for act c.args.who.now name c.args.now today c.args.rows.now) c.args.event.now c.args.object.now c.args.reference.now c.live_reference-own.ensures c.is_there.ensures)
    c.in-Ok-None.ensures.rule (sym (ap option_copied c.in-Ok-None.field-0-is) ∙ c.in-Ok-None.ensures.own) c.new.result.items c.new.ensures.items

pub returns-in-Ok-Some-clause-err : goal.returns-in-Ok-Some-clause-err
returns-in-Ok-Some-clause-err c = λ act name today.
    IfErr-weaker _ _ _ (memory_refuses (change_rules (scene_for act c.args.who.now name c.args.now today c.args.rows.now) (DeleteReference c.args.event.now c.args.object.now c.args.reference.now))) c.deleted_row.ensures.err

pub returns-in-Ok-Some-clause-ok : goal.returns-in-Ok-Some-clause-ok
returns-in-Ok-Some-clause-ok c = λ act name today.
    IfOk-weaker c.deleted_row.result _ _
    (λ (made : Vec RowOf Global) g.
    plain_written (is_reference_deletion (scene_for act c.args.who.now name c.args.now today c.args.rows.now) c.args.event.now c.args.object.now c.args.reference.now c.live_reference-own.ensures c.is_there.ensures)
    c.in-Ok-Some.ensures.rule c.in-Ok-Some.row.now (sym (ap option_copied c.in-Ok-Some.field-0-is) ∙ c.in-Ok-Some.ensures.own) made.items g.0)
    c.deleted_row.ensures.ok

pub returns-in-Ok-Some-clause-names : goal.returns-in-Ok-Some-clause-names
returns-in-Ok-Some-clause-names c = IfErr-weaker _ _ _ memory_names c.deleted_row.ensures.err
