use Rattle.std.proofs.Common.{rules, ◌-◌, length, take, drop, ltb, leb}
use Rattle.std.proofs.lemmas.List.Sorted.{IsPartitionPoint-from_clause, IsPartitionedBy-ltb, IsPartitionedBy-leb, IsNonDecreasingBy-take, IsNonDecreasingBy-drop}
use Rattle.misp_model.specs.Machine.{event_number}
use Rattle.misp_core.proofs.Numbered.{cut_rows}
use Rattle.misp_core.proofs.by_event.part.Goals as goal

pub returns : goal.returns
returns c = λ rises.
    cut_rows c.args.event.now c.args.list.now c.partition_point-low.result c.partition_point-count.result
    c.partition_point-low.ensures.bound c.partition_point-count.ensures.bound
    (IsPartitionPoint-from_clause (λ r. ltb (event_number r) c.args.event.now.0.0) c.args.list.now c.partition_point-low.result c.partition_point-low.ensures.partitioned
    (IsPartitionedBy-ltb event_number c.args.list.now c.args.event.now.0.0 rises) (λ a r q k. search rules))
    (IsPartitionPoint-from_clause (λ r. leb (event_number r) c.args.event.now.0.0)
    (take (length c.args.list.now - c.partition_point-low.result) (drop c.partition_point-low.result c.args.list.now)) c.partition_point-count.result
    c.partition_point-count.ensures.partitioned
    (IsPartitionedBy-leb event_number _ c.args.event.now.0.0 (IsNonDecreasingBy-take event_number _ _ (IsNonDecreasingBy-drop event_number _ _ rises))) (λ a r q k. search rules))
