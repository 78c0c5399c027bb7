use Rattle.std.proofs.Common.{rules, ◌∙◌, ap, filter}
use Rattle.std.proofs.lemmas.Fn.{filter_same}
use Rattle.misp_history.proofs.Prelude.{Tag}
use Rattle.misp_history.specs.History.{exportable}
use Rattle.misp_package.proofs.wire.exportable.Goals as goal

pub returns : goal.returns
unfolding exportable
returns c =
    c.of.ensures ∙ filter_same _ (λ (tag : Tag). tag.exportable) _ (λ x r f k. search rules) _ _ c.retain.ensures.filtered ∙ ap (filter (λ (tag : Tag). tag.exportable)) c.into_vec-tags.ensures
