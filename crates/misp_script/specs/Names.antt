-- The instances of a description by name.
use Rattle.std.specs.Prelude.{◌≡◌, ℕ, ◌≤◌, Bool, true, ◌&&◌, not, List, length, map, bytes_eq}
use Rattle.std.specs.List.{list_any, list_all, IsDistinct}
use Rattle.misp_orgs.specs.declared.link.Link.{Link}
use Rattle.misp_script.specs.declared.description.Description.{Description}
use Rattle.misp_script.specs.declared.description.Entry.{Entry}
use Rattle.misp_script.specs.Limits.{instance_limit}

-- in their order
abbrev pub names_of : Description → List (List ℕ)
names_of d = map (λ entry. entry.name) d.instances

-- no two instances have one name
abbrev pub AreDistinct : List (List ℕ) → Type 0
AreDistinct names = IsDistinct bytes_eq names

-- the peer of a link of the instance of this name is another of these
abbrev pub is_to_another : List (List ℕ) → List ℕ → Link → Bool
is_to_another names at link =
    list_any (λ name. bytes_eq name link.peer) names && not (bytes_eq link.peer at)

-- that of each link of an instance is
abbrev pub links_to_others : List (List ℕ) → Entry → Bool
links_to_others names entry = list_all (is_to_another names entry.name) entry.admin.links

-- what every description is: its instances are few, they have different names, and each link
-- is to another of them
pub record IsNet (d : Description) : Type 0 where
  pub few : length d.instances ≤ instance_limit
  pub names : AreDistinct (names_of d)
  pub peers : list_all (links_to_others (names_of d)) d.instances ≡ true
