use Rattle.misp_store.proofs.OwnAlone.{own_found}
use Rattle.misp_store.proofs.Sought.{found_ascends}
use Rattle.misp_store.proofs.seeking.seek_own.Goals as goal

pub returns-clause-found : goal.returns-clause-found
returns-clause-found g c =
    own_found c.args.looks.now c.requires.alone _ c.in_ok-add_next.field-0 c.new-found.result.items c.add_next.new.found.items c.new-found.ensures.items c.in_ok-add_next.ensures.more c.in_ok-add_next.ensures.found

pub returns-clause-order : goal.returns-clause-order
returns-clause-order g c =
    found_ascends c.args.looks.now _ c.add_next.new.found.items c.in_ok-add_next.ensures.order
    (own_found c.args.looks.now c.requires.alone _ c.in_ok-add_next.field-0 c.new-found.result.items c.add_next.new.found.items c.new-found.ensures.items c.in_ok-add_next.ensures.more c.in_ok-add_next.ensures.found)
