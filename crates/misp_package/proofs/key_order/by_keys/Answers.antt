use Rattle.std.proofs.Common.{rules}
use Rattle.std.proofs.lemmas.List.Sorted.{answers_always}
use Rattle.misp_package.proofs.KeyOrders.{goes_ahead, ahead_weak, sorted_rows}
use Rattle.misp_package.proofs.key_order.by_keys.Goals as goal

pub returns : goal.returns
returns c =
    sorted_rows c.args.rows.items c.sort_by.new.self.items (c.in_ok-sort_by.ensures.sorted goes_ahead ahead_weak (answers_always _ _ _ (λ f a r g h. search rules)))
    (c.in_ok-sort_by.ensures.stable goes_ahead ahead_weak (answers_always _ _ _ (λ f a r g h. search rules)))
