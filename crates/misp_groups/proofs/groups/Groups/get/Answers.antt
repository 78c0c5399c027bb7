use Rattle.std.proofs.Common.{Some, sym, ap, ◌∙◌, subst}
use Rattle.misp_groups.specs.Prelude.{IsStrictlySortedBy, by_name, known_group}
use Rattle.misp_groups.proofs.Places.{known_at, unknown_at}
use Rattle.misp_groups.proofs.groups.Groups.get.Goals as goal

pub returns-in-Ok : goal.returns-in-Ok
returns-in-Ok c =
    let groups = c.as_slice-groups.result.now in
    let up : IsStrictlySortedBy by_name groups = subst (IsStrictlySortedBy by_name) (sym c.as_slice-groups.ensures.value) c.self.invariant in
    ap Some c.index-groups-place.is
    ∙ sym (known_at groups c.args.id.now c.in-Ok.place c.index-groups-place.result up c.in-Ok.ensures.found)
    ∙ ap (λ gs. known_group gs c.args.id.now) (c.as_slice-groups.ensures.value ∙ c.self.view_is)

pub returns-in-Err : goal.returns-in-Err
returns-in-Err c =
    sym (unknown_at c.as_slice-groups.result.now c.args.id.now _ c.in-Err.ensures.absent)
    ∙ ap (λ gs. known_group gs c.args.id.now) (c.as_slice-groups.ensures.value ∙ c.self.view_is)
