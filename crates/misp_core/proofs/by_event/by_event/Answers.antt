use Rattle.std.proofs.Common.{rules}
use Rattle.std.proofs.lemmas.List.Sorted.{IsNonDecreasingBy-from_sort_by_key, answers_always}
use Rattle.misp_model.specs.Machine.{event_number}
use Rattle.misp_core.proofs.Numbered.{same_rows}
use Rattle.misp_core.proofs.by_event.by_event.Goals as goal

pub returns : goal.returns
returns c = record {
  rises = IsNonDecreasingBy-from_sort_by_key event_number _ c.in_ok-sort_by_key.ensures.sorted (λ a r q k. search rules);
  same = same_rows c.args.rows.items c.sort_by_key.new.self.items (c.in_ok-sort_by_key.ensures.stable event_number (answers_always _ _ _ (λ f a r g h. search rules)));
}
