use Rattle.misp_store.proofs.FirstRows.{keys_absent, keys_joined}
use Rattle.misp_store.proofs.LooksSought.{on_ok}
use Rattle.misp_store.proofs.names_sought.add_keys_from.Goals as goal

pub returns-in_ok-add_key-in-len1-up-clause-found : goal.returns-in_ok-add_key-in-len1-up-clause-found
returns-in_ok-add_key-in-len1-up-clause-found g c =
    on_ok c.add_keys.result
    (keys_joined c.args.event.now c.args.owner.now _ _ c.key-item.result c.args.keys.now c.args.found.now.items c.add_key.new.found.items c.add_keys.new.found.items
    c.in-len1-up.len_at_least c.key-item.is c.add_keys.ensures.held c.in_ok-add_key-in-len1-up.ensures.found)
    c.add_keys.ensures.found

pub returns-in-empty-clause-found : goal.returns-in-empty-clause-found
returns-in-empty-clause-found g c = keys_absent c.args.event.now c.args.owner.now _ c.args.keys.now c.args.found.now.items c.in-empty.len_below
