use Rattle.std.proofs.Common.{rules, ◌∙◌, ap, filter}
use Rattle.std.proofs.lemmas.Fn.{filter_same}
use Rattle.misp_wanted.specs.Wanting.{is_kept_by}
use Rattle.misp_wanted.proofs.selecting.rows_kept.Goals as goal

pub returns : goal.returns
returns c =
    c.of.ensures ∙ filter_same _ (is_kept_by c.args.keys.now c.args.event.now) _ (λ x r f k. search rules) _ _ c.retain.ensures.filtered
    ∙ ap (filter (is_kept_by c.args.keys.now c.args.event.now)) c.into_vec-rows.ensures
