-- Groups, one after another.
use Rattle.std.proofs.Common.{◌≡◌, ◌+◌, ◌<◌, ◌≤◌, ℕ, List, [], ◌∷◌, ◌++◌, Option, Some, None, option_map, option_and_then, refl, sym, ap, ◌∙◌, append_assoc, get_or, length, subst, take, take_all}
use Rattle.std.proofs.lemmas.List.{take_more}
use Rattle.misp_groups.specs.Group.{IsGroup}
use Rattle.misp_lists.proofs.All.{all_last}
use Rattle.misp_lists.proofs.Prelude.{AllByRecursion}
use Rattle.std.specs.Result.{result_ok}
use Rattle.serde_json.specs.Data.{Data, Items, no_items, item}
use Rattle.misp_format.specs.Groups.{group_body_at}
use Rattle.misp_groups.specs.declared.group.GroupFields.{GroupFields as Group}
use Rattle.misp_client.specs.Bodies.{groups_from}

-- what was read before, and what is read after it
abbrev pub onto : {A : Type 0} → List A → Option (List A) → Option (List A)
onto done read = option_map (λ more. done ++ more) read

onto_more : {A : Type 0} (done : List A) (x : A) (read : Option (List A)) → onto done (option_map (λ more. x ∷ more) read) ≡ onto (done ++ x ∷ []) read
onto_more done x None = refl
onto_more done x (Some more) = ap (λ l. Some l) (sym (append_assoc done (x ∷ []) more))

-- one more is read
pub group_next : (done : List Group) (d : Data) (ds : Items) (group : Group) → result_ok (group_body_at d) ≡ Some group → onto done (groups_from (item d ds)) ≡ onto (done ++ group ∷ []) (groups_from ds)
unfolding groups_from
group_next done d ds group h = ap (λ o. onto done (option_and_then (λ group. option_map (λ groups. group ∷ groups) (groups_from ds)) o)) h ∙ onto_more done group _

-- or none is
pub group_none : (done : List Group) (d : Data) (ds : Items) → result_ok (group_body_at d) ≡ None → onto done (groups_from (item d ds)) ≡ None
unfolding groups_from
group_none done d ds h = ap (λ o. onto done (option_and_then (λ group. option_map (λ groups. group ∷ groups) (groups_from ds)) o)) h

pub group_end : (done : List Group) → onto done (groups_from no_items) ≡ Some (done ++ [])
unfolding groups_from
group_end done = refl

-- ---- each of a list

-- one more is a group
pub groups_more : (gs : List Group) (i : ℕ) (g : Group) → i < length gs → g ≡ get_or gs i g → AllByRecursion IsGroup (take i gs) → IsGroup g → AllByRecursion IsGroup (take (i + 1) gs)
groups_more gs i g lt e h k = subst (AllByRecursion IsGroup) (sym (take_more gs i g lt)) (all_last IsGroup (take i gs) (get_or gs i g) h (subst IsGroup e k))

pub groups_all : (gs : List Group) (i : ℕ) → length gs ≤ i → AllByRecursion IsGroup (take i gs) → AllByRecursion IsGroup gs
groups_all gs i le h = subst (AllByRecursion IsGroup) (take_all i gs le) h
