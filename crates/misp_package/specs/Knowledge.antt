-- What is known and granted, by sets that are found once for all rows.
use Rattle.std.specs.Prelude.{Bool, not, ◌||◌}
use Rattle.misp_model.specs.Prelude.{Row, same_org}
use Rattle.misp_copies.specs.declared.grants.Grants.{Grants}
use Rattle.misp_copies.specs.declared.viewer.Viewer.{Viewer}
use Rattle.misp_copies.specs.Grants.{granted_in}

-- the row is granted to who looks
unfoldable pub granted_to : Grants → Viewer → Row → Bool
granted_to g who row = granted_in g who.groups.now who.here who.org row

-- who looks knows the row
unfoldable pub is_known_in : Grants → Viewer → Row → Bool
is_known_in g who row = same_org row.owner who.org || granted_to g who row

-- a row that who looks knows is granted to who looks: one of another owner is known for that alone
unfoldable pub granted_of_known : Grants → Viewer → Row → Bool
granted_of_known g who row = not (same_org row.owner who.org) || granted_to g who row
