use Rattle.std.proofs.Common.{◌∙◌, ap, eqb, nat_cmp, subst, sym}
use Rattle.std.specs.List.{dedup}
use Rattle.std.specs.List.Sorted.{IsStrictlySortedBy}
use Rattle.std.proofs.lemmas.List.Filters.{dedup_is}
use Rattle.misp_core.proofs.Numbered.{rising_numbers}
use Rattle.misp_core.proofs.by_event.events_of.Goals as goal

pub returns-clause-all : goal.returns-clause-all
returns-clause-all c = dedup_is eqb _ _ c.dedup.ensures.filtered ∙ ap (dedup eqb) c.in_ok-events.ensures

pub returns-clause-ascend : goal.returns-clause-ascend
returns-clause-ascend c = λ rises.
    subst (IsStrictlySortedBy nat_cmp) (sym (dedup_is eqb _ _ c.dedup.ensures.filtered ∙ ap (dedup eqb) c.in_ok-events.ensures)) (rising_numbers c.args.list.now rises)
