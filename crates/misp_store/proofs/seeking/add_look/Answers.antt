use Rattle.std.proofs.Common.{◌≡◌, ◌∙◌, ◌++◌, IfSome, ap, subst, sym}
use Rattle.misp_model.specs.declared.looks.Look.{Look}
use Rattle.misp_store.specs.Seeking.{rows_of_uuids}
use Rattle.misp_store.proofs.FirstRows.{first_still}
use Rattle.misp_outside.proofs.Reporting.{stays_then}
use Rattle.misp_store.proofs.LooksSought.{all_in_look, as_look, keys_in_look, on_ok, statements_in_look, uuids_in_look}
use Rattle.misp_store.proofs.seeking.add_look.Goals as goal

pub returns-in-Keys-clause-found : goal.returns-in-Keys-clause-found
returns-in-Keys-clause-found g c =
    let e = c.args.event.now in
    let o = c.args.owner.now in
    on_ok c.add_keys_from.result
    (λ found.
    as_look e o _ c.args.look.now (Look.Keys c.as_slice.result.now) c.args.found.now.items c.add_keys_from.new.found.items (c.in-Keys.is ∙ ap Look.Keys (sym c.as_slice.ensures)) c.requires.order
    (λ sorted. keys_in_look e o c.args.first _ c.as_slice.result.now c.args.found.now.items c.add_keys_from.new.found.items (first_still e o _ _ c.args.first c.add_keys_from.ensures.held c.requires.first) sorted found))
    c.add_keys_from.ensures.found

pub returns-in_ok-add_uuids-in-Uuids-clause-found : goal.returns-in_ok-add_uuids-in-Uuids-clause-found
returns-in_ok-add_uuids-in-Uuids-clause-found g c =
    let e = c.args.event.now in
    let o = c.args.owner.now in
    let us = c.as_slice-in-Uuids.result.now in
    let keys = c.as_slice-in-Uuids-3.result.now in
    let ns = c.in_ok-numbers-in-Uuids.numbers.items in
    let first = subst (λ ns. IfSome (g.K.Keeper.state c.add_uuids.new.keeper).held (λ held. c.add_uuids.new.found.items ≡ c.args.found.now.items ++ rows_of_uuids e o ns held.rows)) c.as_slice-in-Uuids-2.ensures.value c.in_ok-add_uuids-in-Uuids.ensures.found in
    on_ok c.add_keys.result
    (λ found.
    as_look e o _ c.args.look.now (Look.Uuids us keys) c.args.found.now.items c.add_keys.new.found.items
    (c.in-Uuids.is ∙ (λ i. Look.Uuids (sym c.as_slice-in-Uuids.ensures i) (sym c.as_slice-in-Uuids-3.ensures i))) c.requires.order
    (λ sorted. uuids_in_look e o c.args.first us keys ns c.in_ok-numbers-in-Uuids.ensures.same sorted
    _ _ c.args.found.now.items c.add_uuids.new.found.items c.add_keys.new.found.items c.add_keys.ensures.held
    (first_still e o _ _ c.args.first (stays_then _ _ _ c.in_ok-add_uuids-in-Uuids.ensures.held c.add_keys.ensures.held) c.requires.first) first found))
    c.add_keys.ensures.found

pub returns-in_ok-add_event-in-Statements-clause-found : goal.returns-in_ok-add_event-in-Statements-clause-found
returns-in_ok-add_event-in-Statements-clause-found g c =
    let e = c.args.event.now in
    let o = c.args.owner.now in
    on_ok c.add_statements.result
    (λ found.
    as_look e o _ c.args.look.now Look.Statements c.args.found.now.items c.add_statements.new.found.items c.in-Statements.is c.requires.order
    (λ sorted. statements_in_look e o c.args.first _ _ c.args.found.now.items c.add_event.new.found.items c.add_statements.new.found.items
    c.add_statements.ensures.held (first_still e o _ _ c.args.first (stays_then _ _ _ c.in_ok-add_event-in-Statements.ensures.held c.add_statements.ensures.held) c.requires.first) c.in_ok-add_event-in-Statements.ensures.found found))
    c.add_statements.ensures.found

pub returns-in-All-clause-found : goal.returns-in-All-clause-found
returns-in-All-clause-found g c =
    on_ok c.add_all.result
    (λ found.
    as_look c.args.event.now c.args.owner.now _ c.args.look.now Look.All c.args.found.now.items c.add_all.new.found.items c.in-All.is c.requires.order
    (λ sorted. all_in_look c.args.event.now c.args.owner.now _ c.args.found.now.items c.add_all.new.found.items found))
    c.add_all.ensures.found
