-- THE TABLE of a list of sharing groups.
use Rattle.std.specs.Prelude.{ℕ, List, [], ◌∷◌, ◌++◌, codes, Result, Ok, Err}
use Rattle.serde_json.specs.Data.{Data, Items}
use Rattle.misp_fields.specs.Fields.{list_of}
use Rattle.misp_format.specs.Groups.{whole_group_at}
use Rattle.misp_format.specs.Path.{item_path}
use Rattle.misp_format.specs.Prelude.{◌>>=◌, Need, json_in}
use Rattle.misp_format.specs.Rows.{Reading, each}
use Rattle.misp_format.specs.Tables.{unwrapped}
use Rattle.misp_core.specs.Prelude.{FormatFault, Group}

-- the first name of paths
abbrev pub first_name : List ℕ
first_name = codes "SharingGroup"

-- the group that is in the list at this place
abbrev pub group_at : ℕ → Data → Reading Group
group_at n d = whole_group_at (item_path first_name n) (unwrapped first_name d)

-- with one more
abbrev pub next_group : ℕ → List Group → Data → Reading (List Group)
next_group n so_far d = group_at n d >>= λ g. Ok (so_far ++ g ∷ [])

-- the items of a body, which must be a list
abbrev pub items_in : Result Items Need → Reading Items
items_in (Ok items) = Ok items
items_in (Err need) = Err (FormatFault.BadField first_name need)

-- GROUPS: a body that is a list of groups
unfoldable pub groups_at : Data → Reading (List Group)
groups_at d = items_in (list_of (unwrapped first_name d)) >>= each next_group 0 []

-- those of the list that a text is
unfoldable pub groups_in : List ℕ → Reading (List Group)
groups_in text = json_in text >>= groups_at
