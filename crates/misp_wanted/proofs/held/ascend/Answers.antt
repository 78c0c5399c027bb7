use Rattle.std.proofs.Common.{rules}
use Rattle.std.proofs.lemmas.List.Sorted.{answers_always}
use Rattle.misp_wanted.proofs.Ascending.{ascend_where, goes_before}
use Rattle.misp_wanted.proofs.held.ascend.Goals as goal

pub returns : goal.returns
returns c = ascend_where c.args.held.now c.is_sorted_by.result (c.is_sorted_by.ensures.cases goes_before (answers_always _ _ _ (λ f a r g h. search rules)))
