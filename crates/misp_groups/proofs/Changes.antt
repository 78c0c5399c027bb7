-- When a group is not added, by what is known of its name.
use Rattle.std.proofs.Common.{◌≡◌, List, is_some, ℕ, false, ap, ◌∙◌, true, Some, None, refl}
use Rattle.misp_lists.proofs.Lists.{any_found}
use Rattle.misp_ids.specs.declared.refusal.RuleName.TheVariants.{GroupExists}
use Rattle.misp_groups.specs.Prelude.{Group, GroupId, IsGapFor, OrgId, is_known_group, known_group, same_group, same_org}
use Rattle.misp_groups.specs.Groups.{why_not_added}
use Rattle.misp_groups.proofs.Places.{unknown_at}

-- a name is known exactly where a group is known by it
pub known_where : (groups : List Group) (id : GroupId) → is_known_group groups id ≡ is_some (known_group groups id)
unfolding known_group is_known_group
known_where groups id = any_found (λ g. same_group g.id id) groups

-- a name that has a gap is not known
pub not_known : (groups : List Group) (id : GroupId) (gap : ℕ) → IsGapFor groups id gap → is_known_group groups id ≡ false
not_known groups id gap place = known_where groups id ∙ ap is_some (unknown_at groups id gap place)

module _ (groups : List Group) (by : OrgId) (id : GroupId) (own : same_org by id.creator ≡ true) where
  pub exists : (g : Group) → known_group groups id ≡ Some g → why_not_added groups by id ≡ Some GroupExists
  exists g held = rw (own, known_where groups id, held) refl

  pub is_new : known_group groups id ≡ None → why_not_added groups by id ≡ None
  is_new none = rw (own, known_where groups id, none) refl
