-- Members that are written.
use Rattle.std.specs.Prelude.{ℕ, Bool, ◌&&◌, ◌==◌, List, [], ◌∷◌, codes, decimal, map, Option, Some, None, unwrap_or}
use Rattle.serde_json.specs.Data.{Data, unsigned, number, string, array, object, Members, member, no_members, put}
use Rattle.serde_json.specs.View.{items_of}
use Rattle.misp_ids.specs.declared.label.Label.{Label}
use Rattle.misp_ids.specs.Uid.{text_of}
use Rattle.misp_dates.specs.Moments.{moment_text}
use Rattle.misp_groups.specs.Prelude.{GroupId, OrgId, Uid, lookup}

-- numbers are written as texts
abbrev pub number_data : ℕ → Data
number_data n = string (decimal n)

-- a count is a number, and no text
abbrev pub count_data : ℕ → Data
count_data n = number (unsigned n)

abbrev pub uuid_data : Uid → Data
uuid_data u = string (text_of u)

abbrev pub list_data : {A : Type 0} → (A → Data) → List A → Data
list_data one xs = array (items_of (map one xs))

-- none is written as an empty text
abbrev pub optional_uuid_data : Option Uid → Data
optional_uuid_data None = string []
optional_uuid_data (Some u) = uuid_data u

-- ---- members that are not always there

-- a moment that is known, and a text that is not empty
abbrev pub moment_if_known : Option ℕ → Option Data
moment_if_known None = None
moment_if_known (Some moment) = Some (string (moment_text moment))

abbrev pub text_if_any : List ℕ → Option Data
text_if_any [] = None
text_if_any (b ∷ bs) = Some (string (b ∷ bs))

-- with this member before the others, where there is something to write
abbrev pub with_some : List ℕ → Option Data → Members → Members
with_some name None ms = ms
with_some name (Some d) ms = member name d ms

-- ---- organisations

-- an organisation, and the name that it is known by
abbrev pub org_data : OrgId → List ℕ → Data
org_data org name = object (
    member (codes "name") (string name) (
    member (codes "uuid") (uuid_data org.0)
    no_members))

-- ---- groups

-- the name of each group, which is empty where it has none here
abbrev pub GroupNames : Type 0
GroupNames = GroupId → List ℕ

abbrev pub is_same_group : GroupId → GroupId → Bool
is_same_group a b = (a.creator.0.0 == b.creator.0.0) && (a.uuid.0 == b.uuid.0)

-- the names that a list gives, where the first of a group counts
unfoldable pub group_names : List (GroupId × List ℕ) → GroupNames
group_names listed group = unwrap_or (lookup (is_same_group group) listed) []

abbrev pub group_data : GroupNames → GroupId → Data
group_data names group = object (
    member (codes "name") (string (names group)) (
    member (codes "organisation_uuid") (uuid_data group.creator.0) (
    member (codes "uuid") (uuid_data group.uuid)
    no_members)))

-- with `SharingGroup` at its place among the names, where the label is that of a group
abbrev pub with_group : GroupNames → Label → Members → Members
with_group names Label.Own ms = ms
with_group names Label.Community ms = ms
with_group names Label.Connected ms = ms
with_group names Label.All ms = ms
with_group names (Label.Group group) ms = put (codes "SharingGroup") (group_data names group) ms
with_group names Label.Inherit ms = ms
