-- Changes that make no text longer: removing a tag, and deleting a reference.
use Rattle.std.specs.Prelude.{ℕ, Bool, ◌&&◌, cond, List, Option, None, Some, find}
use Rattle.misp_model.specs.Prelude.{ElemId, EventId, OrgId, Row, is_live, same_org}
use Rattle.misp_model.specs.Changing.{is_reference_named}
use Rattle.misp_model.specs.Edits.{has_tag}

-- the row, where it has a tag of this name
unfoldable pub with_tag : List ℕ → Option Row → Option Row
with_tag name None = None
with_tag name (Some row) = cond (has_tag name row) (Some row) None

-- the row is the owner's live reference of this object and uuid
unfoldable pub is_live_reference : List Row → OrgId → EventId → ElemId → ElemId → Row → Bool
is_live_reference rows o e x u row =
    same_org row.owner o && (is_reference_named e x u row.key && is_live rows row)

-- that row, whatever its target
unfoldable pub live_reference : List Row → OrgId → EventId → ElemId → ElemId → Option Row
live_reference rows o e x u = find (is_live_reference rows o e x u) rows
