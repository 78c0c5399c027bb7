use Rattle.std.proofs.Common.{rules, ◌∙◌, sym, ap, subst, map, Bor, is_lt}
use Rattle.std.proofs.lemmas.List.Sorted.{IsPartitionPoint-from_clause}
use Rattle.misp_model.specs.Prelude.{Row, list_any}
use Rattle.misp_copies.specs.Keys.{key_cmp}
use Rattle.misp_copies.specs.StatementsByKey.{AreByKey, is_lesser}
use Rattle.misp_copies.proofs.LeastOwners.{in_front, first_tells, none_tells}
use Rattle.misp_copies.proofs.statements_by_key.StatementsByKey.has_lesser.Goals as goal

pub returns-then-low-rows : goal.returns-then-low-rows
returns-then-low-rows c =
    let sorted : AreByKey c.as_slice-rows.result.now = subst AreByKey (sym c.as_slice-rows.ensures.value) c.self.invariant in
    let cut = IsPartitionPoint-from_clause (λ (x : Bor Row). is_lt (key_cmp x.now.key c.args.row.now.key)) c.as_slice-rows.result.now c.partition_point-low.result c.partition_point-low.ensures.partitioned
    (in_front c.args.row.now c.as_slice-rows.result.now sorted) (λ a r q k. search rules) in
    c.is_lesser.ensures
    ∙ first_tells c.args.row.now c.as_slice-rows.result.now c.partition_point-low.result cut sorted c.index-rows-low.result c.if-low-rows.true c.index-rows-low.is
    ∙ ap (list_any (is_lesser c.args.row.now)) (ap (map (λ r. r.now)) c.as_slice-rows.ensures.value ∙ c.self.view_is)

pub returns-else-low-rows : goal.returns-else-low-rows
returns-else-low-rows c =
    let sorted : AreByKey c.as_slice-rows.result.now = subst AreByKey (sym c.as_slice-rows.ensures.value) c.self.invariant in
    let cut = IsPartitionPoint-from_clause (λ (x : Bor Row). is_lt (key_cmp x.now.key c.args.row.now.key)) c.as_slice-rows.result.now c.partition_point-low.result c.partition_point-low.ensures.partitioned
    (in_front c.args.row.now c.as_slice-rows.result.now sorted) (λ a r q k. search rules) in
    none_tells c.args.row.now c.as_slice-rows.result.now c.partition_point-low.result cut c.if-low-rows.false
    ∙ ap (list_any (is_lesser c.args.row.now)) (ap (map (λ r. r.now)) c.as_slice-rows.ensures.value ∙ c.self.view_is)
