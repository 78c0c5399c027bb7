use Rattle.std.proofs.Common.{◌≡◌, List, ◌∷◌, ap, length, map, sym, ◌∙◌}
use Rattle.std.proofs.lemmas.List.{length-map}
use Rattle.misp_model.specs.Prelude.{Row}
use Rattle.misp_history.specs.Merging.{cut, passing_rows}
use Rattle.misp_package.specs.Passing.{route_of}
use Rattle.misp_package.proofs.Cutting.{cut_map}
use Rattle.misp_package.proofs.Packages.{none_counted, nothing_left, packages_counted}
use Rattle.misp_package.proofs.departure.count_outgoing.Goals as goal

pub returns-in_default : goal.returns-in_default
returns-in_default c = λ table ours.
    sym (none_counted c.args.rows.now c.args.via.now.groups.now c.args.via.now c.args.event.now table c.in_ok-list.ensures.rows ours
    (sym (c.in_ok-list.ensures.passing table ours) ∙ ap (map (λ r. r.now)) (sym c.as_slice.ensures.value) ∙ nothing_left c.as_slice.result.now c.in_default.ensures.cases))

pub returns-in-Ok : goal.returns-in-Ok
returns-in-Ok c = λ table ours.
    let own : Row = c.in-Some._own.now.now in
    let others : List Row = map (λ r. r.now) c.in-Some.others.now in
    let first : passing_rows c.args.rows.now c.args.via.now.groups.now (route_of c.args.via.now) ≡ own ∷ others =
    sym (c.in_ok-list.ensures.passing table ours) ∙ ap (map (λ r. r.now)) (sym c.as_slice.ensures.value ∙ c.in-Some.ensures.cases.0) in
    c.in-Ok.ensures.1 ∙ c.len.ensures ∙ c.in_ok-parts.parts.ok.0
    ∙ sym (length-map c.in_ok-parts.parts.items (λ part. part.now)) ∙ ap length c.in_ok-parts.ensures
    ∙ sym (length-map (cut 64 c.in-Some.others.now) (map (λ r. r.now))) ∙ ap length (cut_map (λ r. r.now) 64 c.in-Some.others.now)
    ∙ sym (packages_counted c.args.rows.now c.args.via.now.groups.now c.args.via.now c.args.event.now table c.in_ok-list.ensures.rows ours own others first)
