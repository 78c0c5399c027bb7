use Rattle.std.proofs.Common.{ap, sym, ◌∙◌, [], Vec, Global, option_copied, None}
use Rattle.std.proofs.lemmas.Result.{IfErr-weaker, IfOk-weaker}
use Rattle.misp_elem.specs.declared.row.Row.{Row as RowOf}
use Rattle.misp_model.specs.Prelude.{Element, Place, change_rules}
use Rattle.misp_model.specs.declared.change.Change.TheVariants.{DeleteEvent}
use Rattle.misp_copies.specs.Copies.{is_event_key}
use Rattle.misp_copies.specs.Scenes.{scene_for}
use Rattle.misp_copies.proofs.Barred.{full_names}
use Rattle.misp_edit.proofs.OneRow.{one_refused, own_key, plain_absent, plain_written}
use Rattle.misp_edit.proofs.TombstoneLemmas.{is_event_deletion, tombstone_full}
use Rattle.misp_edit.proofs.event_deleting.delete_event.Goals as goal

pub tombstone_for-requires-clause-stamp : goal.tombstone_for-requires-clause-stamp
tombstone_for-requires-clause-stamp c =
    (is_event_deletion (scene_for 0 c.args.who.now [] c.args.now [] c.args.rows.now) c.args.event.now).stamp
    c.in-Ok-Some.row.now c.in-Ok-Some.ensures.rule (sym (ap option_copied c.in-Ok-Some.field-0-is) ∙ c.in-Ok-Some.ensures.own)

pub tombstone_for-requires-clause-key : goal.tombstone_for-requires-clause-key
unfolding is_event_key
tombstone_for-requires-clause-key c =
    ap is_event_key (own_key c.args.who.now.org (Element c.args.event.now Place.Event) c.args.rows.now c.in-Ok-Some.row.now (sym (ap option_copied c.in-Ok-Some.field-0-is) ∙ c.in-Ok-Some.ensures.own))

pub returns-in-Err-clause-err : goal.returns-in-Err-clause-err
returns-in-Err-clause-err c = λ act name today.
    one_refused (is_event_deletion (scene_for act c.args.who.now name c.args.now today c.args.rows.now) c.args.event.now) c.in-Err.fault c.in-Err.ensures.rule

pub returns-in-Ok-None-clause-ok : goal.returns-in-Ok-None-clause-ok
returns-in-Ok-None-clause-ok c = λ act name today.
    plain_absent (is_event_deletion (scene_for act c.args.who.now name c.args.now today c.args.rows.now) c.args.event.now)
    c.in-Ok-None.ensures.rule (sym (ap option_copied c.in-Ok-None.field-0-is) ∙ c.in-Ok-None.ensures.own) c.new.result.items c.new.ensures.items

pub returns-in-Ok-Some-clause-err : goal.returns-in-Ok-Some-clause-err
returns-in-Ok-Some-clause-err c = λ act name today.
    IfErr-weaker _ _ _ (tombstone_full (change_rules (scene_for act c.args.who.now name c.args.now today c.args.rows.now) (DeleteEvent c.args.event.now))) c.tombstone_for.ensures.err

pub returns-in-Ok-Some-clause-ok : goal.returns-in-Ok-Some-clause-ok
returns-in-Ok-Some-clause-ok c = λ act name today.
    IfOk-weaker c.tombstone_for.result _ _
    (λ (made : Vec RowOf Global) g.
    plain_written (is_event_deletion (scene_for act c.args.who.now name c.args.now today c.args.rows.now) c.args.event.now)
    c.in-Ok-Some.ensures.rule c.in-Ok-Some.row.now (sym (ap option_copied c.in-Ok-Some.field-0-is) ∙ c.in-Ok-Some.ensures.own) made.items g)
    c.tombstone_for.ensures.ok

pub returns-in-Ok-Some-clause-names : goal.returns-in-Ok-Some-clause-names
returns-in-Ok-Some-clause-names c = IfErr-weaker _ _ _ (λ fault g. full_names None _ fault g) c.tombstone_for.ensures.err
