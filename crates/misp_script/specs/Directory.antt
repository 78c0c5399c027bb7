-- The instances that a line may name, and the organisations known at each.
use Rattle.std.specs.Prelude.{◌≡◌, ℕ, ◌==◌, Bool, false, List, map, position, bytes_eq, slice_get, Option, Vec}
use Rattle.std.specs.Global.{Global}
use Rattle.std.specs.BTreeMap.{get_by}
use Rattle.misp_lists.specs.Prelude.{BTreeMap, list_any, nat_cmp, option_map_or, slice_cmp}
use Rattle.misp_ids.specs.declared.uid.OrgId.{OrgId}
use Rattle.misp_script.specs.declared.description.Description.{Description}
use Rattle.misp_script.specs.declared.description.Entry.{Entry}

-- an instance, and the identifiers of the organisations known there, in ascending order
pub record Roster : Type 0 where
  pub name : List ℕ
  pub orgs : List OrgId

-- ---- of a description

abbrev pub roster_of : Entry → Roster
roster_of entry = record { name = entry.name; orgs = map (λ org. org.uuid) entry.admin.orgs }

-- in the order of the instances
abbrev pub directory_of : Description → List Roster
directory_of d = map roster_of d.instances

-- ---- looking up

abbrev pub roster_names : List Roster → List (List ℕ)
roster_names rosters = map (λ roster. roster.name) rosters

-- the place of the instance of this name
abbrev pub place_of : List (List ℕ) → List ℕ → Option ℕ
place_of names text = position (λ name. bytes_eq name text) names

-- the organisation is one of these
abbrev pub is_among : List OrgId → OrgId → Bool
is_among orgs org = list_any (λ known. known.0.0 == org.0.0) orgs

-- the organisation is known at the instance of this place
abbrev pub knows : List Roster → ℕ → OrgId → Bool
knows rosters at org =
    option_map_or (λ roster. is_among roster.orgs org) (slice_get rosters at) false

-- ---- how it is kept

-- the place that the map has for a text
abbrev pub place_in : BTreeMap (Vec ℕ Global) ℕ → List ℕ → Option ℕ
place_in places text = get_by (λ name. slice_cmp nat_cmp text name.items) places

-- the map has the places of the instances by name
abbrev pub HasPlaces : List Roster → BTreeMap (Vec ℕ Global) ℕ → Type 0
HasPlaces rosters places =
    (text : List ℕ) → place_in places text ≡ place_of (roster_names rosters) text
