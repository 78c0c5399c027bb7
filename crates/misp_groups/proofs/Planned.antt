-- A group as it is put where it is added or edited.
use Rattle.std.proofs.Common.{[], ◌≡◌, List, Option, Some, None, sym, ap, ◌∙◌}
use Rattle.misp_ids.specs.Moments.{next_stamp}
use Rattle.misp_groups.specs.Prelude.{Group, IsStrictlySortedBy, Stamp, by_name, group_now, known_group}
use Rattle.misp_groups.specs.Group.{home}
use Rattle.misp_groups.specs.Changes.{group_stamp}

-- no groups ascend
pub none_ascend : IsStrictlySortedBy by_name []
unfolding IsStrictlySortedBy
none_ascend = tt

module _ (groups : List Group) (g : Group) (now : Stamp) where
  stamped : (known : Option Group) → known_group groups g.id ≡ known → home g (group_stamp now known) ≡ group_now now g groups
  unfolding group_now
  stamped known is = ap (λ k. home g (group_stamp now k)) (sym is)

  -- where none of its name is known
  pub now_added : known_group groups g.id ≡ None → home g now ≡ group_now now g groups
  unfolding group_stamp
  now_added is = stamped None is

  -- where one of its name is known
  pub now_edited : (held : Group) (stamp : Stamp) → known_group groups g.id ≡ Some held → stamp ≡ next_stamp now held.modified → home g stamp ≡ group_now now g groups
  unfolding group_stamp
  now_edited held stamp is later = ap (home g) later ∙ stamped (Some held) is
