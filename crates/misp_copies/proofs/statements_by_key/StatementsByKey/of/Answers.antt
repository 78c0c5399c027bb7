use Rattle.std.proofs.Common.{rules, Bool, Bor, subst, List, IsPermutation, is_lt}
use Rattle.std.proofs.lemmas.List.Sorted.{answers_always, IsPermutation-map}
use Rattle.misp_elem.specs.declared.row.RowFields.{RowFields as Row}
use Rattle.misp_copies.specs.StatementsByKey.{statement_cmp}
use Rattle.misp_copies.proofs.KeyOrder.{statement_weak}
use Rattle.misp_copies.proofs.statements_by_key.StatementsByKey.of.Goals as goal

abbrev before : Bor Row → Bor Row → Bool
before a b = is_lt (statement_cmp a.now b.now)

pub invariant_of-result : goal.invariant_of-result
invariant_of-result c = c.in_ok-sort_by.ensures.sorted before statement_weak (answers_always _ _ _ (λ f a r g h. search rules))

pub returns : goal.returns
returns c =
    IsPermutation-map (λ (r : Bor Row). r.now) _ _
    (subst (λ (l : List (Bor Row)). IsPermutation l c.sort_by.new.self.items) c.in_ok-rows.ensures.items c.sort_by.ensures.permutation)
