use Rattle.std.proofs.Common.{rules, ℕ, ◌-◌, length, take, drop, Bor, ltb, leb}
use Rattle.std.proofs.lemmas.List.Sorted.{IsPartitionPoint-from_clause, IsPartitionedBy-ltb, IsPartitionedBy-leb, IsNonDecreasingBy-take, IsNonDecreasingBy-drop}
use Rattle.misp_elem.specs.declared.row.RowFields.{RowFields as Row}
use Rattle.misp_copies.proofs.Cuts.{cut_map}
use Rattle.misp_view.specs.Parts.{around}
use Rattle.misp_view.proofs.parts.part.Goals as goal

abbrev number : Bor Row → ℕ
number r = around r.now.key

pub returns : goal.returns
returns c = λ rises.
    cut_map (λ r. r.now) (λ (r : Row). around r.key) c.around-object.result (around c.args.row.now.key) c.around-object.ensures c.args.list.now c.partition_point-low.result c.partition_point-count.result
    c.partition_point-low.ensures.bound c.partition_point-count.ensures.bound
    (IsPartitionPoint-from_clause (λ r. ltb (number r) c.around-object.result) c.args.list.now c.partition_point-low.result c.partition_point-low.ensures.partitioned
    (IsPartitionedBy-ltb number c.args.list.now c.around-object.result rises) (λ a r q k. search rules))
    (IsPartitionPoint-from_clause (λ r. leb (number r) c.around-object.result)
    (take (length c.args.list.now - c.partition_point-low.result) (drop c.partition_point-low.result c.args.list.now)) c.partition_point-count.result
    c.partition_point-count.ensures.partitioned
    (IsPartitionedBy-leb number _ c.around-object.result (IsNonDecreasingBy-take number _ _ (IsNonDecreasingBy-drop number _ _ rises))) (λ a r q k. search rules))
