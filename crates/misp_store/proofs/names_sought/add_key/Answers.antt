use Rattle.misp_store.proofs.FirstRows.{first_after, first_same}
use Rattle.misp_store.proofs.names_sought.add_key.Goals as goal

pub returns-in-Equal-clause-found : goal.returns-in-Equal-clause-found
returns-in-Equal-clause-found g c =
    first_same c.args.event.now c.args.owner.now _ c.args.key.now c.args.first c.in_ok-name.name.items c.args.found.now.items c.push.new.self.items c.requires c.in_ok-name.ensures
    (rw (← c.as_slice.ensures, ← c.as_slice-2.ensures.value) (c.in-Equal.ensures)) c.in_ok-push-in-Equal.ensures.items

pub returns-clause-found : goal.returns-clause-found
returns-clause-found g c =
    first_after c.args.event.now c.args.owner.now _ c.args.key.now c.args.first c.in_ok-name.name.items c.args.found.now.items c.requires c.in_ok-name.ensures
    (rw (← c.as_slice.ensures, ← c.as_slice-2.ensures.value) (c.in-Greater.ensures))
