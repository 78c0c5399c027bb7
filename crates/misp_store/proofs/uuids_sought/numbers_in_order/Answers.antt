use Rattle.std.proofs.Common.{◌<◌, ◌^◌, ◌∙◌, arith, ap, eqb, nat_cmp, subst, sym}
use Rattle.std.specs.List.Sorted.{IsStrictlySortedBy}
use Rattle.std.proofs.lemmas.Cmp.{nat_cmp_total}
use Rattle.std.proofs.lemmas.List.Filters.{dedup_is}
use Rattle.std.proofs.lemmas.List.Kept.{IsStrictlySortedBy-dedup}
use Rattle.std.proofs.lemmas.List.Sorted.{list_any-IsPermutation}
use Rattle.misp_lists.proofs.Lists.{any_map}
use Rattle.misp_lists.proofs.Prelude.{AllByRecursion, list_any, nat_tests}
use Rattle.misp_model.proofs.Prelude.{ElemId}
use Rattle.misp_store.proofs.UuidNumbers.{all_once, any_dedup}
use Rattle.misp_store.proofs.uuids_sought.numbers_in_order.Goals as goal

pub returns-clause-ascend : goal.returns-clause-ascend
returns-clause-ascend c =
    subst (IsStrictlySortedBy nat_cmp) (sym (dedup_is eqb _ _ c.dedup.ensures.filtered))
    (IsStrictlySortedBy-dedup nat_cmp_total (λ x y. grind (arith, nat_tests)) c.sort_unstable.new.self.items c.sort_unstable.ensures.sorted)

pub returns-clause-same : goal.returns-clause-same
returns-clause-same c = λ p.
    ap (list_any p) (dedup_is eqb _ _ c.dedup.ensures.filtered) ∙ any_dedup p c.sort_unstable.new.self.items
    ∙ sym (list_any-IsPermutation p c.in_ok-numbers.numbers.items c.sort_unstable.new.self.items c.sort_unstable.ensures.permutation)
    ∙ ap (list_any p) c.in_ok-numbers.ensures.value ∙ any_map (λ (u : ElemId). u.0.0) p c.args.uuids.now

pub returns-clause-fit : goal.returns-clause-fit
returns-clause-fit c =
    subst (AllByRecursion (λ n. n < 2 ^ 128)) (sym (dedup_is eqb _ _ c.dedup.ensures.filtered))
    (all_once (λ n. n < 2 ^ 128) c.in_ok-numbers.numbers.items c.sort_unstable.new.self.items c.sort_unstable.ensures.permutation c.in_ok-numbers.ensures.fit)
