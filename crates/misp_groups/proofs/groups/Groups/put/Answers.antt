use Rattle.std.proofs.Common.{Result, Ok, Err, OnErr, sym, ap, ◌∙◌}
use Rattle.misp_groups.specs.Groups.{IsGapFor}
use Rattle.misp_groups.proofs.Places.{unknown_at, gap_as}
use Rattle.misp_groups.proofs.Changes.{not_known}
use Rattle.misp_groups.proofs.groups.Groups.put.Goals as goal

on_err : {A E P : Type 0} (r : Result A E) → P → OnErr r P
on_err (Ok a) p = tt
on_err (Err e) p = p

pub returns-in_ok-put_into-in-Err-clause-before : goal.returns-in_ok-put_into-in-Err-clause-before
returns-in_ok-put_into-in-Err-clause-before c =
    let gap : IsGapFor c.args.self.now c.args.group.id c.in-Err.gap = gap_as (c.as_slice.ensures.value ∙ c.self.view_is) (ap (λ g. g.id) c.group.view_is) c.in-Err.ensures.absent in
    sym (unknown_at c.args.self.now c.args.group.id c.in-Err.gap gap)

pub returns-in_err-put_into-in-Err-clause-full : goal.returns-in_err-put_into-in-Err-clause-full
returns-in_err-put_into-in-Err-clause-full c =
    let gap : IsGapFor c.args.self.now c.args.group.id c.in-Err.gap = gap_as (c.as_slice.ensures.value ∙ c.self.view_is) (ap (λ g. g.id) c.group.view_is) c.in-Err.ensures.absent in
    on_err c.from_residual.result (not_known c.args.self.now c.args.group.id c.in-Err.gap gap)
