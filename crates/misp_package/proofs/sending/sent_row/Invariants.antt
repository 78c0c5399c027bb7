use Rattle.std.proofs.Common.{◌≡◌, drop, map, filter, option_copied}
use Rattle.misp_model.specs.View.{first_of_all}
use Rattle.misp_package.specs.Passing.{is_candidate, route_of}
use Rattle.misp_package.proofs.Firsts.{with_best}
use Rattle.misp_package.proofs.sending.sent_row.Given as goal

abbrev pub invariant-loop-row : goal.invariant-loop-row
invariant-loop-row l =
    let counts = is_candidate l.via.groups.now (route_of l.via) l.event in
    first_of_all (with_best (option_copied l.best) (filter counts (map (λ r. r.now) (drop l.row-index l.granted)))) ≡ first_of_all (filter counts (map (λ r. r.now) l.granted))
