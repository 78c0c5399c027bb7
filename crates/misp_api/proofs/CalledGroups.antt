-- Groups that a peer is sent are read of the body where they come.
use Rattle.std.proofs.Common.{◌≡◌, ℕ, ◌+◌, List, [], ◌∷◌, ◌++◌, append_assoc, append-nil, Option, Some, None, Ok, Err, refl, sym, ap, ◌∙◌, option_map, option_and_then, unwrap_or}
use Rattle.std.specs.Result.{result_ok}
use Rattle.serde_json.specs.Data.{Data, Items, array, boolean, item, no_items, null, number, object, string}
use Rattle.misp_format.specs.Groups.{group_body_at}
use Rattle.misp_format.specs.Json.{json_in}
use Rattle.misp_format.specs.Rows.{◌>>=◌, Reading, each}
use Rattle.misp_core.specs.Prelude.{Group}
use Rattle.misp_client.specs.Bodies.{groups_from}
use Rattle.misp_client.specs.Bodies as client
use Rattle.misp_api.specs.GroupList.{groups_at, groups_in, next_group}
use Rattle.misp_api.proofs.ListedGroups.{next_listed, read_listed}

some_is : {A : Type 0} (x : A) {y : A} → Some x ≡ Some y → x ≡ y
some_is x h = ap (λ o. unwrap_or o x) h

-- ---- a list

-- these are read, from this place on
abbrev AreListed : ℕ → List Group → Items → List Group → Type 0
AreListed n so_far ds groups = each next_group n so_far ds ≡ Ok (so_far ++ groups)

module _ (d : Data) (ds : Items) (again : (n : ℕ) (so_far groups : List Group) → groups_from ds ≡ Some groups → AreListed n so_far ds groups) (n : ℕ) (so_far groups : List Group) where
  one_more : (g : Group) → group_body_at d ≡ Ok g → (more : Option (List Group)) → groups_from ds ≡ more → option_map (λ gs. g ∷ gs) more ≡ Some groups → AreListed n so_far (item d ds) groups
  one_more g is None read h = absurd cc
  one_more g is (Some gs) read h =
      next_listed n so_far d ds g (read_listed n d g is)
      ∙ again (n + 1) (so_far ++ g ∷ []) gs read
      ∙ ap Ok (append_assoc so_far (g ∷ []) gs ∙ ap (λ l. so_far ++ l) (some_is (g ∷ gs) h))

  first : (found : Reading Group) → group_body_at d ≡ found → option_and_then (λ g. option_map (λ gs. g ∷ gs) (groups_from ds)) (result_ok found) ≡ Some groups → AreListed n so_far (item d ds) groups
  first (Err fault) is h = absurd cc
  first (Ok g) is h = one_more g is (groups_from ds) refl h

all_listed : (ds : Items) (n : ℕ) (so_far groups : List Group) → groups_from ds ≡ Some groups → AreListed n so_far ds groups
unfolding groups_from
all_listed no_items n so_far groups h = ap Ok (sym (append-nil so_far) ∙ ap (λ l. so_far ++ l) (some_is [] h))
all_listed (item d ds) n so_far groups h = first d ds (λ n so_far groups read. all_listed ds n so_far groups read) n so_far groups (group_body_at d) refl h

-- ---- a text

in_data : (d : Data) (groups : List Group) → client.groups_at d ≡ Some groups → groups_at d ≡ Ok groups
unfolding groups_at client.groups_at
in_data null groups h = absurd cc
in_data (boolean b) groups h = absurd cc
in_data (number n) groups h = absurd cc
in_data (string s) groups h = absurd cc
in_data (array ds) groups h = all_listed ds 0 [] groups h
in_data (object ms) groups h = absurd cc

by_json : (text : List ℕ) (groups : List Group) (read : Reading Data) → json_in text ≡ read → client.groups_in text ≡ Some groups → (read >>= groups_at) ≡ Ok groups
unfolding client.groups_in
by_json text groups (Ok d) is h = in_data d groups (rw is at h)
by_json text groups (Err fault) is h =
    let none = rw is at h in
    absurd cc

pub groups_listed_in : (text : List ℕ) (groups : List Group) → client.groups_in text ≡ Some groups → groups_in text ≡ Ok groups
unfolding groups_in
groups_listed_in text groups h = by_json text groups (json_in text) refl h
