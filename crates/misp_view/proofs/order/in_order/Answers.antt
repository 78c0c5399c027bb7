use Rattle.std.proofs.Common.{rules, Bool, List, ap, ◌∙◌, map, subst, Bor}
use Rattle.std.specs.List.Sorted.{IsStableBy}
use Rattle.std.proofs.lemmas.List.Sorted.{answers_always}
use Rattle.misp_lists.proofs.Ordering.{in_order_map}
use Rattle.misp_lists.proofs.Sorting.{turned_sort}
use Rattle.misp_elem.specs.declared.row.RowFields.{RowFields as Row}
use Rattle.misp_view.specs.Order.{goes_before}
use Rattle.misp_view.proofs.Origins.{goes_behind}
use Rattle.misp_view.proofs.order.in_order.Goals as goal

abbrev before : Bor Row → Bor Row → Bool
before a b = goes_before a.now b.now

pub returns : goal.returns
returns c =
    let stable : IsStableBy before c.reverse.new.self.items c.sort_by.new.self.items = c.in_ok-sort_by.ensures.stable before goes_behind (answers_always _ _ _ (λ f a r g h. search rules)) in
    ap (map (λ r. r.now))
    (turned_sort before goes_behind c.args.rows.items c.sort_by.new.self.items
    (c.in_ok-sort_by.ensures.sorted before goes_behind (answers_always _ _ _ (λ f a r g h. search rules)))
    (subst (λ (l : List (Bor Row)). IsStableBy before l c.sort_by.new.self.items) c.reverse.ensures.items stable))
    ∙ in_order_map (λ r. r.now) goes_before c.args.rows.items
