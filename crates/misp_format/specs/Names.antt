-- The names of groups, as a map holds them.
use Rattle.std.specs.Prelude.{ℕ, List, [], unwrap_or}
use Rattle.std.specs.BTreeMap.{BTreeMap}
use Rattle.misp_groups.specs.Prelude.{GroupId, lookup}
use Rattle.misp_format.specs.Fields.{GroupNames, is_same_group}

-- the names that a map gives
abbrev pub names_in : BTreeMap GroupId (List ℕ) → GroupNames
names_in m group = unwrap_or (lookup (is_same_group group) m.entries) []
