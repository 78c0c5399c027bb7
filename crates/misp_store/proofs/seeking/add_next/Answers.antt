use Rattle.std.proofs.Common.{◌≡◌, ◌∙◌, ◌++◌, ◌≤◌, Some, IfSome, ap, arith, subst, sym}
use Rattle.misp_lists.proofs.Bytes.{IsBytes}
use Rattle.misp_outside.specs.Held.{next_row}
use Rattle.misp_elem.specs.Spelling.{uid}
use Rattle.misp_store.specs.Seeking.{rows_from, rows_in_look}
use Rattle.misp_store.specs.Seen.{front_number}
use Rattle.misp_store.proofs.FirstRows.{first_held}
use Rattle.misp_store.proofs.OwnersSought.{org}
use Rattle.misp_store.proofs.Sought.{after_of, number_bytes, owner_added, owner_next, owner_none}
use Rattle.misp_store.proofs.seeking.add_next.Goals as goal

pub add_look-requires-clause-first : goal.add_look-requires-clause-first
add_look-requires-clause-first g c =
    let from : c.as_slice.result.now ≡ uid (org c.args.least).0 = c.as_slice.ensures ∙ c.to_be_bytes-from.ensures ∙ number_bytes c.args.least in
    let le : c.args.least ≤ c.max.result = omega (arith, c.max.ensures) in
    first_held c.args.looks.now.event c.args.least c.max.result c.ranges.least.fits c.max.type_inv le (g.K.Keeper.state c.load_next.new.self).held c.in_ok-first.field-0 c.in-Some.first
    (subst (λ bytes. IfSome (g.K.Keeper.state c.load_next.new.self).held (λ held. c.in_ok-first.field-0 ≡ next_row c.args.looks.now.event bytes held.rows)) from c.in_ok-first.ensures.found)
    c.in_ok-first.ensures.order c.in-Some.is

pub returns-in_ok-add_look-in-Some-clause-found : goal.returns-in_ok-add_look-in-Some-clause-found
returns-in_ok-add_look-in-Some-clause-found g c =
    let from : c.as_slice.result.now ≡ uid (org c.args.least).0 = c.as_slice.ensures ∙ c.to_be_bytes-from.ensures ∙ number_bytes c.args.least in
    let number : c.front_number-number.result ≡ front_number c.in-Some.first.name = c.front_number-number.ensures.number ∙ ap front_number c.as_slice-in-Some.ensures in
    owner_added c.args.looks.now _ _ c.args.least c.front_number-number.result c.max.result c.checked_add.result c.args.found.now.items c.add_look.new.found.items
    c.max.ensures c.max.type_inv (after_of c.max.result c.checked_add.result c.checked_add.ensures) c.in_ok-add_look-in-Some.ensures.held c.in_ok-first.ensures.order
    (subst (λ n. IfSome (g.K.Keeper.state c.load_next.new.self).held (λ held. rows_from c.args.looks.now (Some n) held.rows ≡ rows_from c.args.looks.now (Some c.args.least) held.rows)) (sym number)
    (owner_next c.args.looks.now _ c.args.least c.in_ok-first.field-0 c.in-Some.first c.ranges.least.fits (subst IsBytes c.as_slice-in-Some.ensures c.front_number-number.ensures.bytes)
    (subst (λ bytes. IfSome (g.K.Keeper.state c.load_next.new.self).held (λ held. c.in_ok-first.field-0 ≡ next_row c.args.looks.now.event bytes held.rows)) from c.in_ok-first.ensures.found)
    c.in_ok-first.ensures.order c.in-Some.is))
    (subst (λ look. IfSome (g.K.Keeper.state c.add_look.new.keeper).held (λ held. c.add_look.new.found.items ≡ c.args.found.now.items ++ rows_in_look look c.args.looks.now.event (org c.max.result) held.rows))
    c.look_at-look.ensures.look c.in_ok-add_look-in-Some.ensures.found)

pub returns-in-None-clause-found : goal.returns-in-None-clause-found
returns-in-None-clause-found g c =
    let from : c.as_slice.result.now ≡ uid (org c.args.least).0 = c.as_slice.ensures ∙ c.to_be_bytes-from.ensures ∙ number_bytes c.args.least in
    owner_none c.args.looks.now _ c.args.least c.in_ok-first.field-0 c.args.found.now.items c.ranges.least.fits
    (subst (λ bytes. IfSome (g.K.Keeper.state c.load_next.new.self).held (λ held. c.in_ok-first.field-0 ≡ next_row c.args.looks.now.event bytes held.rows)) from c.in_ok-first.ensures.found)
    c.in-None.is
