use Rattle.std.proofs.Common.{◌≡◌, ◌≤◌, ap, sym, ◌∙◌, ◌∷◌, [], List, Option, Some, length, map, option_map, subst}
use Rattle.std.proofs.lemmas.List.{length-map}
use Rattle.misp_lists.specs.Order.{sorted_by}
use Rattle.misp_manifest.specs.Manifest.{key_stamp, manifest_event}
use Rattle.misp_manifest.specs.declared.manifest.KeyStamp.{KeyStamp}
use Rattle.misp_manifest.specs.declared.manifest.ManifestFields.{ManifestFields}
use Rattle.misp_model.specs.Prelude.{AllByRecursion, Row}
use Rattle.misp_history.specs.Merging.{cut, packages, passing_rows, arriving_rows}
use Rattle.misp_package.specs.Passing.{route_of}
use Rattle.misp_package.specs.Packing.{ArePackable, IsPacking, IsPart, key_order, on_wire, rows_in}
use Rattle.misp_package.proofs.Listed.{said_on_wire, said_some, some_cut}
use Rattle.misp_package.proofs.Packages.{none_packed, not_packed, nothing_left, packed_are, parts_fit, rows_cut, some_packable}
use Rattle.misp_package.proofs.departure.outgoing_keys.Goals as goal

pub returns-in_default-clause-listed : goal.returns-in_default-clause-listed
unfolding IsPacking
returns-in_default-clause-listed c = λ table ours.
    let never = subst (λ found. IsPacking c.args.event.now (map (λ r. r.now) c.in_ok-list.list.items) (option_map (λ list. map (λ r. r.now) list.items) found)) c.in_default.is c.in_ok-list-2.ensures in
    ap (manifest_event c.args.event.now)
    (sym (not_packed c.args.rows.now c.args.via.now.groups.now c.args.via.now c.args.event.now table c.in_ok-list.ensures.rows ours (map (λ r. r.now) c.in_ok-list.list.items) (c.in_ok-list.ensures.passing table ours) never))

pub returns-in_default-split_first-clause-listed : goal.returns-in_default-split_first-clause-listed
returns-in_default-split_first-clause-listed c = λ table ours.
    let packable = some_packable c.args.event.now c.in_ok-list.list.items c.in_ok-list-2.field-0 c.in-Some.list c.in-Some.is c.in_ok-list-2.ensures in
    let none : sorted_by key_order (passing_rows c.args.rows.now c.args.via.now.groups.now (route_of c.args.via.now)) ≡ [] =
    ap (sorted_by key_order) (sym (c.in_ok-list.ensures.passing table ours)) ∙ sym packable.0 ∙ ap (map (λ r. r.now)) (sym c.as_slice.ensures.value) ∙ nothing_left c.as_slice.result.now c.in_default-split_first.ensures.cases in
    ap (manifest_event c.args.event.now) (sym (none_packed c.args.rows.now c.args.via.now.groups.now c.args.via.now c.args.event.now table c.in_ok-list.ensures.rows ours none))

pub listed-requires-clause-fit : goal.listed-requires-clause-fit
listed-requires-clause-fit c =
    let own : Row = c.in-Some-split_first.own.now.now in
    let others : List Row = map (λ r. r.now) c.in-Some-split_first.others.now in
    let packable : ArePackable c.args.event.now (own ∷ others) =
    subst (λ l. ArePackable c.args.event.now (map (λ r. r.now) l)) (sym c.as_slice.ensures.value ∙ c.in-Some-split_first.ensures.cases.0)
    (some_packable c.args.event.now c.in_ok-list.list.items c.in_ok-list-2.field-0 c.in-Some.list c.in-Some.is c.in_ok-list-2.ensures).1 in
    subst (AllByRecursion (λ (part : List Row). IsPart c.args.event.now (own ∷ part)))
    (sym (rows_cut c.in_ok-parts.parts.items c.in-Some-split_first.others.now c.in_ok-parts.ensures) ∙ ap rows_in (sym c.as_slice-2.ensures.value))
    (parts_fit c.args.event.now own others packable)

pub listed-requires-clause-some : goal.listed-requires-clause-some
listed-requires-clause-some c =
    let size : length (cut 64 c.in-Some-split_first.others.now) ≡ length c.as_slice-2.result.now =
    sym (ap length c.in_ok-parts.ensures) ∙ length-map c.in_ok-parts.parts.items (λ part. part.now) ∙ ap length (sym c.as_slice-2.ensures.value) in
    subst (λ n. 1 ≤ n) size (some_cut 64 c.in-Some-split_first.others.now)

pub returns-clause-listed : goal.returns-clause-listed
returns-clause-listed c = λ table ours.
    let own : Row = c.in-Some-split_first.own.now.now in
    let others : List Row = map (λ r. r.now) c.in-Some-split_first.others.now in
    let rows = c.args.rows.now in
    let via = c.args.via.now in
    let arriving : List Row = arriving_rows rows via.groups.now (route_of via) in
    let packable = some_packable c.args.event.now c.in_ok-list.list.items c.in_ok-list-2.field-0 c.in-Some.list c.in-Some.is c.in_ok-list-2.ensures in
    let first : sorted_by key_order (passing_rows rows via.groups.now (route_of via)) ≡ own ∷ others =
    ap (sorted_by key_order) (sym (c.in_ok-list.ensures.passing table ours)) ∙ sym packable.0 ∙ ap (map (λ r. r.now)) (sym c.as_slice.ensures.value ∙ c.in-Some-split_first.ensures.cases.0) in
    let are : packages arriving ≡ map (λ part. map (on_wire via.way) (own ∷ part)) (cut 64 others) =
    packed_are rows via.groups.now via c.args.event.now table c.in_ok-list.ensures.rows ours own others first in
    let some : 1 ≤ length (packages arriving) =
    subst (λ n. 1 ≤ n) (sym (ap length are ∙ length-map (cut 64 others) (λ part. map (on_wire via.way) (own ∷ part)))) (some_cut 64 others) in
    let make : List (List KeyStamp) → Option ManifestFields = λ parts. Some (record { event = c.args.event.now; parts = parts }) in
    ap (λ m. Some m) c.in_ok-said.ensures
    ∙ ap (λ parts. make (map (map key_stamp) (map (λ part. own ∷ part) parts))) (ap rows_in c.as_slice-2.ensures.value ∙ rows_cut c.in_ok-parts.parts.items c.in-Some-split_first.others.now c.in_ok-parts.ensures)
    ∙ ap make (sym (said_on_wire via.way own (cut 64 others)) ∙ ap (map (map key_stamp)) (sym are))
    ∙ sym (said_some c.args.event.now (packages arriving) some)
