-- What arrives by a synchronisation, and what of it an instance takes.
use Rattle.std.specs.Prelude.{◌≡◌, List, [], ◌∷◌, ◌++◌, Option, cond, map, true}
use Rattle.std.specs.Option.{option_or}
use Rattle.misp_outside.specs.Held.{with_batch}
use Rattle.misp_groups.specs.Changes.{take_group, takes_group}
use Rattle.misp_groups.specs.Prelude.{GroupId, IsStrictlySortedBy, by_name, known_group}
use Rattle.misp_model.specs.declared.package.PackageFields.{PackageFields as Package}
use Rattle.misp_history.specs.Merging.{handed, rows_taken}
use Rattle.misp_effects.specs.Batches.{batch}
use Rattle.misp_core.specs.Prelude.{Group, Held, Inst, OrgId, Row, groups_of, spelled}

-- ---- packages

-- the rows of a package as they are handed in for an owner
abbrev pub handed_rows : OrgId → Package → List Row
handed_rows owner coming = map (handed owner) coming.rows

-- the rows of a package that an owner takes over these rows
abbrev pub package_taken : Inst → List Row → List Group → OrgId → Package → List Row
package_taken here rows groups owner coming =
    rows_taken here rows groups (handed_rows owner coming)

-- what is held once these rows are put
abbrev pub with_rows : List Row → Held → Held
with_rows rows = with_batch (spelled (batch rows []))

-- what is held once an owner has taken of a package over these rows, by the groups that are held
abbrev pub with_package : Inst → List Row → OrgId → Package → Held → Held
with_package here rows owner coming held =
    with_rows (package_taken here rows (groups_of held) owner coming) held

-- ---- groups

-- the groups that are taken of these, one after another, as they are put
unfoldable pub groups_taken : List Group → List Group → List Group
groups_taken groups [] = []
groups_taken groups (g ∷ gs) =
    cond (takes_group groups g) (record g { carried = true } ∷ []) []
    ++ groups_taken (take_group groups g) gs

-- of these groups, and of those that are taken over them, the one of a name: the last that is taken
abbrev pub latest_of : List Group → List Group → GroupId → Option Group
latest_of groups latest id = option_or (known_group latest id) (known_group groups id)

-- they are these groups with those that are taken over them, in their order
pub record IsOver (all groups latest : List Group) : Type 0 where
  pub known : (id : GroupId) → known_group all id ≡ latest_of groups latest id
  pub ascend : IsStrictlySortedBy by_name all

-- what is held once these groups are put
abbrev pub with_groups : List Group → Held → Held
with_groups groups = with_batch (spelled (batch [] groups))

-- what is held once what is new of groups is taken
abbrev pub with_groups_taken : List Group → Held → Held
with_groups_taken coming held = with_groups (groups_taken (groups_of held) coming) held
