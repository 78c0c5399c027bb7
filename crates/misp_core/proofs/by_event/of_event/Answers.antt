use Rattle.std.proofs.Common.{rules}
use Rattle.std.proofs.lemmas.Fn.{filter_same}
use Rattle.misp_model.specs.Prelude.{Row, event_of, same_event}
use Rattle.misp_core.proofs.by_event.of_event.Goals as goal

pub returns : goal.returns
returns c = filter_same _ (λ (row : Row). same_event (event_of row.key) c.args.event.now) _ (λ x r f k. search rules) _ _ c.retain.ensures.filtered
