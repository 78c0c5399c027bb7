use Rattle.std.proofs.Common.{rules, ℕ, Bor}
use Rattle.std.proofs.lemmas.List.Sorted.{IsNonDecreasingBy-from_sort_by_key, answers_always}
use Rattle.misp_elem.specs.declared.row.RowFields.{RowFields as Row}
use Rattle.misp_copies.proofs.Cuts.{stable_parts_map}
use Rattle.misp_view.specs.Parts.{around}
use Rattle.misp_view.proofs.parts.by_object.Goals as goal

abbrev number : Bor Row → ℕ
number r = around r.now.key

pub returns : goal.returns
returns c = record {
  rises = IsNonDecreasingBy-from_sort_by_key number _ c.in_ok-sort_by_key.ensures.sorted (λ a r q k. search rules);
  same = stable_parts_map (λ r. r.now) (λ (r : Row). around r.key) c.args.rows.items c.sort_by_key.new.self.items (c.in_ok-sort_by_key.ensures.stable number (answers_always _ _ _ (λ f a r g h. search rules)));
}
