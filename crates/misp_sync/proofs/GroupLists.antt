-- Lists of groups, one group after another.
use Rattle.std.proofs.Common.{◌≡◌, ◌+◌, ◌<◌, ◌≤◌, ℕ, List, get_or, length, sym, subst, take, take_all}
use Rattle.std.proofs.lemmas.List.{take_more}
use Rattle.std.specs.List.{AllByRecursion}
use Rattle.misp_groups.specs.Group.{IsGroup}
use Rattle.misp_groups.specs.declared.group.GroupFields.{GroupFields as Group}
use Rattle.misp_lists.proofs.All.{all_last}

pub groups_more : (groups : List Group) (i : ℕ) (g : Group) → i < length groups → g ≡ get_or groups i g → AllByRecursion IsGroup (take i groups) → IsGroup g
    → AllByRecursion IsGroup (take (i + 1) groups)
groups_more groups i g lt e h is =
    subst (AllByRecursion IsGroup) (sym (take_more groups i g lt))
    (all_last IsGroup (take i groups) (get_or groups i g) h (subst IsGroup e is))

pub groups_all : (groups : List Group) (i : ℕ) → length groups ≤ i → AllByRecursion IsGroup (take i groups) → AllByRecursion IsGroup groups
groups_all groups i le h = subst (AllByRecursion IsGroup) (take_all i groups le) h
