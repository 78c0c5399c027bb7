-- What is read of the body of a reply.
use Rattle.std.specs.Prelude.{◌==◌, ◌&&◌, ℕ, List, [], ◌∷◌, codes, nat_le, Bool, Option, Some, None, option_and_then, option_map, if◌then◌else◌}
use Rattle.std.specs.List.{list_all}
use Rattle.std.specs.Result.{result_ok}
use Rattle.serde_json.specs.Data.{Data, Items, no_items, item}
use Rattle.misp_fields.specs.Fields.{list_of, member_of, number_of}
use Rattle.misp_format.specs.Groups.{group_body_at}
use Rattle.misp_format.specs.Json.{json_in}
use Rattle.misp_groups.specs.declared.group.GroupFields.{GroupFields as Group}
use Rattle.misp_manifest.specs.declared.manifest.ManifestFields.{ManifestFields}
use Rattle.misp_manifest.specs.declared.wanted.WantedFields.{WantedFields as Wanted}
use Rattle.misp_model.specs.Manifests.{is_asked_for}
use Rattle.misp_model.specs.Prelude.{same_event}
use Rattle.misp_model.specs.declared.package.PackageFields.{PackageFields as Package}
use Rattle.misp_package.specs.PackageReading.{package_of_bytes}
use Rattle.misp_wanted.specs.ManifestReading.{manifest_of_bytes}

-- what is read so of the JSON of a text, where it is JSON
abbrev pub in_json : {A : Type 0} → (Data → Option A) → List ℕ → Option A
in_json reads body = option_and_then reads (result_ok (json_in body))

-- the number in the member of this name
abbrev pub number_in : List ℕ → Data → Option ℕ
number_in name d = option_and_then (λ v. result_ok (number_of v)) (member_of name d)

-- ---- refusals

-- the number of the rule that a refusal names
unfoldable pub rule_in : Data → Option ℕ
rule_in d = number_in (codes "rule") d

unfoldable pub rule_told : List ℕ → Option ℕ
rule_told body = in_json rule_in body

-- ---- groups

-- each item is a group
unfoldable pub groups_from : Items → Option (List Group)
groups_from no_items = Some []
groups_from (item d ds) =
    option_and_then (λ group. option_map (λ groups. group ∷ groups) (groups_from ds))
    (result_ok (group_body_at d))

-- a list of groups
unfoldable pub groups_at : Data → Option (List Group)
groups_at d = option_and_then groups_from (result_ok (list_of d))

unfoldable pub groups_in : List ℕ → Option (List Group)
groups_in body = in_json groups_at body

-- ---- manifests

unfoldable pub manifest_in : List ℕ → Option (List ManifestFields)
manifest_in body = result_ok (manifest_of_bytes body)

-- ---- packages

-- it is the package of the wanted list: of its event and its number, and of no row but the event's
-- own and those of the keys
unfoldable pub is_for : Wanted → Package → Bool
is_for w p =
    same_event p.event w.event
    && (p.part == w.part && list_all (is_asked_for w.event w.keys) p.rows)

abbrev pub if_for : Wanted → Package → Option Package
if_for w p = if is_for w p then Some p else None

-- the package of a wanted list
unfoldable pub package_in : Wanted → List ℕ → Option Package
package_in w body = option_and_then (if_for w) (result_ok (package_of_bytes body))

-- ---- what was taken

-- a number of no more than so many
abbrev pub at_most : ℕ → ℕ → Option ℕ
at_most most n = if nat_le n most then Some n else None

-- the number of those that were taken
unfoldable pub taken_at : ℕ → Data → Option ℕ
taken_at most d = option_and_then (at_most most) (number_in (codes "taken") d)

-- how many were taken, of at most so many
unfoldable pub taken_in : ℕ → List ℕ → Option ℕ
taken_in most body = in_json (taken_at most) body
