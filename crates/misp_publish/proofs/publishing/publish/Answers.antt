use Rattle.std.proofs.Common.{refl, sym, [], None}
use Rattle.misp_model.proofs.Prelude.{event_key, own_row}
use Rattle.misp_model.specs.Scene.{Scene}
use Rattle.misp_copies.specs.Scenes.{scene_for}
use Rattle.misp_copies.specs.Barring.{rule_of}
use Rattle.misp_publish.proofs.PublishLemmas.{own_there, publish_refused, publish_late, publish_free}
use Rattle.misp_publish.proofs.publishing.publish.Goals as goal

pub unreachable-requires : goal.unreachable-requires
unfolding event_key
unreachable-requires c = own_there (scene_for 0 c.args.who.now [] c.args.now [] c.args.rows.now) c.args.event.now c.in-Ok.ensures.rule (sym c.in-None.ensures)

pub returns-in-Err-clause-err : goal.returns-in-Err-clause-err
returns-in-Err-clause-err c = λ act name today. publish_refused (scene_for act c.args.who.now name c.args.now today c.args.rows.now) c.args.event.now c.in-Err.fault c.in-Err.ensures.rule

pub returns-in-Ok-release_event-clause-ok : goal.returns-in-Ok-release_event-clause-ok
unfolding event_key own_row
returns-in-Ok-release_event-clause-ok c = λ act name today.
    let s : Scene = scene_for act c.args.who.now name c.args.now today c.args.rows.now in
    let done = c.in-Ok-release_event.ensures.ok s refl refl refl (sym c.in-Some.ensures) in
    (publish_free s c.args.event.now c.in-Ok.ensures.rule done.0, done.1)

pub returns-in-Err-TimeLimit-clause-err : goal.returns-in-Err-TimeLimit-clause-err
unfolding event_key own_row rule_of
returns-in-Err-TimeLimit-clause-err c = λ act name today.
    let s : Scene = scene_for act c.args.who.now name c.args.now today c.args.rows.now in
    publish_late s c.args.event.now c.in-Ok.ensures.rule (c.in-Err-TimeLimit.ensures.limit s (sym c.in-Some.ensures) c.in-Err-TimeLimit.field-0-is)

pub returns-in-Err-clause-names : goal.returns-in-Err-clause-names
returns-in-Err-clause-names c = c.in-Err.ensures.names None
