use Rattle.std.proofs.Common.{rules, ℕ, ◌++◌, ◌∙◌, ap, filter_map}
use Rattle.std.proofs.lemmas.List.Sorted.{IsNonDecreasingBy-from_sort_by_key, answers_always}
use Rattle.misp_lists.proofs.Sorting.{sort_by_number}
use Rattle.misp_lists.specs.Order.{in_order}
use Rattle.misp_edit.specs.Adding.{is_read_before}
use Rattle.misp_edit.specs.Targets.{target_in}
use Rattle.misp_edit.specs.Uuids.{reference_uuid, numbered_in}
use Rattle.misp_edit.proofs.clash.read_uuids.Goals as goal

abbrev number : ℕ × ℕ → ℕ
number p = p.0

pub returns : goal.returns
unfolding numbered_in
returns c =
    sort_by_number number c.in_ok-uuids-2.uuids.items c.sort_by_key.new.self.items
    (IsNonDecreasingBy-from_sort_by_key number _ c.in_ok-sort_by_key.ensures.sorted (λ a r q k. search rules))
    (c.in_ok-sort_by_key.ensures.stable number (answers_always _ _ _ (λ f a r g h. search rules)))
    ∙ ap (in_order is_read_before)
    (rw (← c.submission.view_is, ← c.as_slice.ensures, ← c.as_slice-2.ensures) (c.in_ok-uuids-2.ensures ∙ ap (λ us. us ++ filter_map (reference_uuid (target_in c.args.targets.now)) c.as_slice-2.result.now) c.in_ok-uuids.ensures))
