use Rattle.std.proofs.Common.{rules, length, subst, sym}
use Rattle.std.proofs.lemmas.Iterator.Adapters.{YieldsList-from_vec}
use Rattle.std.proofs.lemmas.Iterator.Consumers.{YieldsList-turn}
use Rattle.misp_lists.proofs.All.{all_at}
use Rattle.misp_manifest.specs.Manifest.{IsManifestEvent}
use Rattle.misp_wanted.proofs.reading.manifests.events_with.Goals as goal

pub of-requires : goal.of-requires
of-requires c =
    let road = YieldsList-from_vec {s = c.into_iter-event-iterator.result} c.args.fields.items (search rules) (search rules) in
    let turn = YieldsList-turn road c.loop-event.yielded c.loop-event.event-iterator c.loop-event.yielded_by c.next.result c.next.new.self c.in-Some.event c.in-Some.is c.next.ensures.steps in
    subst IsManifestEvent (sym turn.1) (all_at IsManifestEvent c.args.fields.items (length c.loop-event.yielded) c.in-Some.event turn.0 c.requires)
