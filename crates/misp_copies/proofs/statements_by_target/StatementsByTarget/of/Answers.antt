use Rattle.std.proofs.Common.{rules}
use Rattle.std.proofs.lemmas.List.Sorted.{answers_always}
use Rattle.misp_copies.proofs.KeyOrder.{target_weak}
use Rattle.misp_copies.proofs.ByTarget.{goes_ahead, by_target}
use Rattle.misp_copies.proofs.statements_by_target.StatementsByTarget.of.Goals as goal

pub invariant_of-result : goal.invariant_of-result
invariant_of-result c = c.in_ok-sort_by.ensures.sorted goes_ahead target_weak (answers_always _ _ _ (λ f a r g h. search rules))

pub returns : goal.returns
returns c = by_target c.args.rows.items c.sort_by.new.self.items (c.in_ok-sort_by.ensures.stable goes_ahead target_weak (answers_always _ _ _ (λ f a r g h. search rules)))
