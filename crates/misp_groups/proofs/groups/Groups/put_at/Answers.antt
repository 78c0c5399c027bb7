use Rattle.std.proofs.Common.{◌≡◌, get_or, Some, ap, sym, subst, ◌∙◌}
use Rattle.misp_groups.specs.Prelude.{IsPlaceOf, IsStrictlySortedBy, by_name}
use Rattle.misp_groups.proofs.Places.{known_at, sorted_set}
use Rattle.misp_groups.proofs.Putting.{put_set}
use Rattle.misp_groups.proofs.groups.Groups.put_at.Goals as goal

pub invariant_of-self : goal.invariant_of-self
invariant_of-self c =
    let place = subst (λ gs. IsPlaceOf gs c.args.group.id c.args.place) (sym c.self.view_is) c.requires in
    rw c.replace.ensures.after (sorted_set _ _ _ place c.self.invariant)

pub returns-clause-put : goal.returns-clause-put
returns-clause-put c =
    let up : IsStrictlySortedBy by_name c.args.self.now = subst (IsStrictlySortedBy by_name) c.self.view_is c.self.invariant in
    rw (c.replace.ensures.after, c.self.view_is) (sym (put_set c.args.group c.args.self.now c.args.place c.requires up))

pub returns-clause-before : goal.returns-clause-before
returns-clause-before c =
    let up : IsStrictlySortedBy by_name c.args.self.now = subst (IsStrictlySortedBy by_name) c.self.view_is c.self.invariant in
    let was = subst (λ g. g ≡ get_or c.self.inside.groups.items c.args.place g) (sym c.replace.ensures.value) c.index_mut.ensures.value in
    known_at c.args.self.now c.args.group.id c.args.place c.replace.result up c.requires ∙ ap Some (sym (was ∙ ap (λ gs. get_or gs c.args.place c.replace.result) c.self.view_is))
