use Rattle.std.proofs.Common.{rules, ◌∙◌, ◌-◌, ap, sym, subst, length, take, drop, map, Bor, filter, is_lt, is_le}
use Rattle.std.proofs.lemmas.List.Sorted.{IsPartitionPoint-from_clause}
use Rattle.misp_elem.specs.declared.row.RowFields.{RowFields as Row}
use Rattle.misp_copies.specs.Keys.{is_about}
use Rattle.misp_copies.specs.StatementsByTarget.{AreByTarget}
use Rattle.misp_copies.proofs.ByTarget.{stands, below, upto, part_is}
use Rattle.misp_copies.proofs.statements_by_target.StatementsByTarget.part.Goals as goal

pub returns : goal.returns
returns c =
    let sorted : AreByTarget c.as_slice-rows.result.now = subst AreByTarget (sym c.as_slice-rows.ensures.value) c.self.invariant in
    part_is c.args.key.now c.as_slice-rows.result.now c.partition_point-low.result c.partition_point-count.result c.partition_point-low.ensures.bound c.partition_point-count.ensures.bound
    (IsPartitionPoint-from_clause (λ (x : Bor Row). is_lt (stands c.args.key.now c.as_slice-rows.result.now x.now)) c.as_slice-rows.result.now c.partition_point-low.result c.partition_point-low.ensures.partitioned
    (below c.args.key.now c.as_slice-rows.result.now sorted) (λ a r q k. search rules))
    (IsPartitionPoint-from_clause (λ (x : Bor Row). is_le (stands c.args.key.now c.as_slice-rows.result.now x.now))
    (take (length c.as_slice-rows.result.now - c.partition_point-low.result) (drop c.partition_point-low.result c.as_slice-rows.result.now)) c.partition_point-count.result
    c.partition_point-count.ensures.partitioned
    (upto c.args.key.now c.as_slice-rows.result.now c.partition_point-low.result sorted) (λ a r q k. search rules))
    ∙ ap (filter (λ (r : Row). is_about c.args.key.now r.key)) (ap (map (λ r. r.now)) c.as_slice-rows.ensures.value ∙ c.self.view_is)
