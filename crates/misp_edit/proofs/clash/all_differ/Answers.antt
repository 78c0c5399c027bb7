use Rattle.std.proofs.Common.{rules, ltb}
use Rattle.std.proofs.lemmas.List.Sorted.{answers_always}
use Rattle.misp_edit.proofs.DistinctUuids.{differ_where}
use Rattle.misp_edit.proofs.clash.all_differ.Goals as goal

pub returns : goal.returns
returns c =
    differ_where c.args.uuids.items c.deref.result.now c.is_sorted_by.result
    (rw c.deref.ensures.value c.sort_unstable.ensures.permutation) (rw c.deref.ensures.value c.sort_unstable.ensures.sorted)
    (c.is_sorted_by.ensures.cases ltb (answers_always _ _ _ (λ f a r g h. search rules)))
