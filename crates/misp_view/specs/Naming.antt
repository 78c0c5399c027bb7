-- The names of the groups that the labels of a shown event name.
use Rattle.std.specs.Prelude.{ℕ, Bool, false, ◌||◌, List, map, filter}
use Rattle.misp_model.specs.Prelude.{BTreeSet, Group, GroupId, Label, VisibleAttribute, VisibleEvent, VisibleObject, contains, list_any, same_group}
use Rattle.misp_copies.specs.Table.{pair_cmp}

-- groups with their names
abbrev pub GroupNames : Type 0
GroupNames = List (GroupId × List ℕ)

-- the label names the group
unfoldable pub label_names : GroupId → Label → Bool
label_names id (Label.Group g) = same_group g id
label_names id Label.Own = false
label_names id Label.Community = false
label_names id Label.Connected = false
label_names id Label.All = false
label_names id Label.Inherit = false

unfoldable pub attribute_names : GroupId → VisibleAttribute → Bool
attribute_names id a = label_names id a.row.label

-- the label of an object or of one of its attributes names it
unfoldable pub object_names : GroupId → VisibleObject → Bool
object_names id o = label_names id o.row.label || list_any (attribute_names id) o.attributes

-- a label of an event, of its attributes, or of its objects and their attributes names it
unfoldable pub event_names : GroupId → VisibleEvent → Bool
event_names id v =
    label_names id v.row.label || list_any (attribute_names id) v.attributes
    || list_any (object_names id) v.objects

abbrev pub with_name : Group → GroupId × List ℕ
with_name g = (g.id, g.name)

-- the known groups that a label of the event names, in their order, each once with its name
unfoldable pub group_names : List Group → VisibleEvent → GroupNames
group_names groups v = map with_name (filter (λ g. event_names g.id v) groups)

-- the known groups that a label of these attributes names, in their order, each once with its name
unfoldable pub hit_names : List Group → List VisibleAttribute → GroupNames
hit_names groups hits =
    map with_name (filter (λ g. list_any (attribute_names g.id) hits) groups)

-- ---- as they are found

-- the group is among these, which are the numbers of creators and of their groups
unfoldable pub has_group : BTreeSet (ℕ × ℕ) → GroupId → Bool
has_group ids id = contains pair_cmp ids (id.creator.0.0, id.uuid.0)
