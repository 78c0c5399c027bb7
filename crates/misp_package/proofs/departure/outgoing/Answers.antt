use Rattle.std.proofs.Common.{◌≡◌, ap, sym, ◌∙◌, ◌∷◌, [], List, map, length, subst, option_map}
use Rattle.misp_model.specs.Prelude.{AllByRecursion, Row}
use Rattle.misp_lists.specs.Order.{sorted_by}
use Rattle.misp_history.specs.Merging.{passing_rows}
use Rattle.misp_package.specs.Passing.{route_of}
use Rattle.misp_package.specs.Packing.{ArePackable, AreNumberedFrom, IsPacking, IsPart, key_order, on_wire, rows_in}
use Rattle.misp_package.proofs.Packages.{none_packed, not_packed, nothing_left, packed_are, parts_fit, rows_cut, some_packable}
use Rattle.misp_package.proofs.departure.outgoing.Goals as goal

pub returns-in_default-clause-packed : goal.returns-in_default-clause-packed
unfolding IsPacking
returns-in_default-clause-packed c = λ table ours.
    let never = subst (λ found. IsPacking c.args.event.now (map (λ r. r.now) c.in_ok-list.list.items) (option_map (λ list. map (λ r. r.now) list.items) found)) c.in_default.is c.in_ok-list-2.ensures in
    ap (map (λ p. p.rows)) c.new.ensures.items
    ∙ sym (not_packed c.args.rows.now c.args.via.now.groups.now c.args.via.now c.args.event.now table c.in_ok-list.ensures.rows ours (map (λ r. r.now) c.in_ok-list.list.items) (c.in_ok-list.ensures.passing table ours) never)

pub returns-in_default-clause-numbered : goal.returns-in_default-clause-numbered
unfolding AreNumberedFrom
returns-in_default-clause-numbered c = subst (λ ps. AreNumberedFrom 0 c.args.event.now (length ps) ps) (sym c.new.ensures.items) tt

pub returns-in_default-split_first-clause-packed : goal.returns-in_default-split_first-clause-packed
returns-in_default-split_first-clause-packed c = λ table ours.
    let packable = some_packable c.args.event.now c.in_ok-list.list.items c.in_ok-list-2.field-0 c.in-Some.list c.in-Some.is c.in_ok-list-2.ensures in
    let none : sorted_by key_order (passing_rows c.args.rows.now c.args.via.now.groups.now (route_of c.args.via.now)) ≡ [] =
    ap (sorted_by key_order) (sym (c.in_ok-list.ensures.passing table ours)) ∙ sym packable.0 ∙ ap (map (λ r. r.now)) (sym c.as_slice.ensures.value) ∙ nothing_left c.as_slice.result.now c.in_default-split_first.ensures.cases in
    ap (map (λ p. p.rows)) c.new-in_default-split_first.ensures.items ∙ sym (none_packed c.args.rows.now c.args.via.now.groups.now c.args.via.now c.args.event.now table c.in_ok-list.ensures.rows ours none)

pub returns-in_default-split_first-clause-numbered : goal.returns-in_default-split_first-clause-numbered
unfolding AreNumberedFrom
returns-in_default-split_first-clause-numbered c = subst (λ ps. AreNumberedFrom 0 c.args.event.now (length ps) ps) (sym c.new-in_default-split_first.ensures.items) tt

pub packed-requires : goal.packed-requires
packed-requires c =
    let own : Row = c.in-Some-split_first.own.now.now in
    let others : List Row = map (λ r. r.now) c.in-Some-split_first.others.now in
    let packable : ArePackable c.args.event.now (own ∷ others) =
    subst (λ l. ArePackable c.args.event.now (map (λ r. r.now) l)) (sym c.as_slice.ensures.value ∙ c.in-Some-split_first.ensures.cases.0)
    (some_packable c.args.event.now c.in_ok-list.list.items c.in_ok-list-2.field-0 c.in-Some.list c.in-Some.is c.in_ok-list-2.ensures).1 in
    subst (AllByRecursion (λ (part : List Row). IsPart c.args.event.now (own ∷ part)))
    (sym (rows_cut c.in_ok-parts.parts.items c.in-Some-split_first.others.now c.in_ok-parts.ensures) ∙ ap rows_in (sym c.as_slice-2.ensures.value))
    (parts_fit c.args.event.now own others packable)

pub returns-clause-packed : goal.returns-clause-packed
returns-clause-packed c = λ table ours.
    let own : Row = c.in-Some-split_first.own.now.now in
    let others : List Row = map (λ r. r.now) c.in-Some-split_first.others.now in
    let packable = some_packable c.args.event.now c.in_ok-list.list.items c.in_ok-list-2.field-0 c.in-Some.list c.in-Some.is c.in_ok-list-2.ensures in
    let first : sorted_by key_order (passing_rows c.args.rows.now c.args.via.now.groups.now (route_of c.args.via.now)) ≡ own ∷ others =
    ap (sorted_by key_order) (sym (c.in_ok-list.ensures.passing table ours)) ∙ sym packable.0 ∙ ap (map (λ r. r.now)) (sym c.as_slice.ensures.value ∙ c.in-Some-split_first.ensures.cases.0) in
    c.in_ok-packages.ensures.packed
    ∙ ap (map (λ (part : List Row). map (on_wire c.args.via.now.way) (own ∷ part))) (ap rows_in c.as_slice-2.ensures.value ∙ rows_cut c.in_ok-parts.parts.items c.in-Some-split_first.others.now c.in_ok-parts.ensures)
    ∙ sym (packed_are c.args.rows.now c.args.via.now.groups.now c.args.via.now c.args.event.now table c.in_ok-list.ensures.rows ours own others first)
