use Rattle.std.proofs.Common.{◌∙◌, ◌+◌, sym, arith, rules, map, drop, nat_cmp}
use Rattle.std.specs.BTreeSet.{contains}
use Rattle.std.proofs.lemmas.Grind.{common_steps}
use Rattle.misp_edit.proofs.UuidLemmas.{clash_next, clash_at}
use Rattle.misp_edit.proofs.clash.first_used.Goals as goal

pub loop-uuid-preserved : goal.loop-uuid-preserved
loop-uuid-preserved c =
    let old = contains nat_cmp c.loop-uuid.used in
    let rest = map (λ p. p.1) (drop (c.loop-uuid.uuid-index + 1) c.args.uuids.now) in
    sym (clash_next old (contains nat_cmp c.insert.new.self) _ rest (search rules) (λ q. grind (arith, common_steps)))
    ∙ sym (clash_at old c.args.uuids.now c.loop-uuid.uuid-index (0, 0) (search rules))
    ∙ c.loop-uuid.invariant
