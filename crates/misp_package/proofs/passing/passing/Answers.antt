use Rattle.std.proofs.Common.{map, filter, not, ap, ◌||◌, ◌∙◌, List, Bor, subst}
use Rattle.misp_model.specs.Prelude.{Row, same_org}
use Rattle.misp_copies.specs.Grants.{granted_in}
use Rattle.misp_package.specs.Knowledge.{granted_of_known, granted_to, is_known_in}
use Rattle.misp_package.specs.Passing.{IsPassage, goes_on, route_of}
use Rattle.misp_package.proofs.Going.{passing_is}
use Rattle.misp_package.proofs.passing.passing.Goals as goal

pub returns-clause-passing : goal.returns-clause-passing
unfolding granted_of_known granted_to is_known_in
returns-clause-passing c = λ table ours.
    let groups = c.args.via.now.groups.now in
    let route = route_of c.args.via.now in
    passing_is c.args.rows.now (map (λ r. r.now) c.in_ok-known.known.items) (map (λ r. r.now) c.in_ok-granted.granted.items) (map (λ r. r.now) c.in_ok-list.list.items)
    groups route c.args.event.now c.in_ok-grants.grants c.in_ok-passage.passage table ours c.in_ok-grants.ensures
    c.in_ok-known.ensures.known
    (c.in_ok-granted.ensures ∙ ap (λ (l : List (Bor Row)). filter (λ row. not (same_org row.owner route.«for») || granted_in c.in_ok-grants.grants groups route.from route.«for» row) (map (λ r. r.now) l)) c.as_slice.ensures.value)
    (subst (λ (two : List (Bor Row) × List (Bor Row)). IsPassage c.in_ok-passage.passage groups route c.args.event.now (map (λ r. r.now) two.0) (map (λ r. r.now) two.1))
    (λ i. (c.as_slice-2.ensures.value i, c.as_slice-3.ensures.value i)) c.in_ok-passage.ensures)
    (c.in_ok-list.ensures ∙ ap (λ (l : List (Bor Row)). filter (goes_on c.in_ok-passage.passage) (map (λ r. r.now) l)) c.as_slice-4.ensures.value)
