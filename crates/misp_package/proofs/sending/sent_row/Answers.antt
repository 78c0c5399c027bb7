use Rattle.std.proofs.Common.{ap, sym, ◌∙◌, ◌∷◌, ◌+◌, List, Bor, drop, map, filter, option_copied}
use Rattle.std.proofs.lemmas.List.{at_drop_all, drop_more}
use Rattle.misp_model.specs.Prelude.{Row, first_of_all}
use Rattle.misp_package.specs.Passing.{is_candidate, route_of}
use Rattle.misp_package.proofs.Firsts.{best_more, best_all, with_best}
use Rattle.misp_package.proofs.sending.sent_row.Goals as goal

pub loop-row-preserved : goal.loop-row-preserved
loop-row-preserved c =
    let q = is_candidate c.args.via.now.groups.now (route_of c.args.via.now) c.args.event.now in
    let rest : List Row = map (λ r. r.now) (drop (c.loop-row.row-index + 1) c.args.granted.now) in
    best_more q (option_copied c.loop-row.best) (option_copied c.better-best.result) c.row-item.result.now rest c.is_candidate.result c.is_candidate.ensures c.better-best.ensures
    ∙ ap (λ (l : List (Bor Row)). first_of_all (with_best (option_copied c.loop-row.best) (filter q (map (λ r. r.now) l))))
    (ap (λ r. r ∷ drop (c.loop-row.row-index + 1) c.args.granted.now) c.row-item.is ∙ sym (drop_more c.args.granted.now c.loop-row.row-index c.row-item.result c.loop-row-test.true))
    ∙ c.loop-row.invariant

pub returns : goal.returns
returns c =
    let q = is_candidate c.args.via.now.groups.now (route_of c.args.via.now) c.args.event.now in
    sym (best_all (option_copied c.loop-row.best))
    ∙ sym (at_drop_all (λ (l : List (Bor Row)). first_of_all (with_best (option_copied c.loop-row.best) (filter q (map (λ r. r.now) l)))) c.args.granted.now c.loop-row.row-index c.loop-row-test.false)
    ∙ c.loop-row.invariant
