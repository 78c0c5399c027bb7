use Rattle.std.proofs.Common.{is_lt, rules, Bor}
use Rattle.std.proofs.lemmas.List.Sorted.{answers_always}
use Rattle.misp_model.specs.Prelude.{Row}
use Rattle.misp_package.specs.Packing.{key_order}
use Rattle.misp_package.proofs.KeyOrders.{ascend_where}
use Rattle.misp_package.proofs.fitting.ascend.Goals as goal

pub returns : goal.returns
returns c =
    ascend_where c.args.rows.now c.is_sorted_by.result
    (c.is_sorted_by.ensures.cases (λ (a b : Bor Row). is_lt (key_order a.now b.now)) (answers_always _ _ _ (λ f a r g h. search rules)))
