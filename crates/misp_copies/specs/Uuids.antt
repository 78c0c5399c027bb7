-- The uuids that an owner's copy has.
use Rattle.std.specs.Prelude.{ℕ, Bool, false, eqb, ◌&&◌, ◌||◌, List, Option, Some, None}
use Rattle.misp_model.specs.Prelude.{EventId, OrgId, Row, event_of, list_any, same_event, same_org, takes_uuid}

-- the number is there, and is this one
abbrev pub is_at : Option ℕ → ℕ → Bool
is_at None u = false
is_at (Some v) u = eqb v u

-- the row is one of the owner's copy of the event, and its key is that of an element or reference
-- of this uuid
unfoldable pub has_uuid : OrgId → EventId → ℕ → Row → Bool
has_uuid w e u row =
    same_org row.owner w && (same_event (event_of row.key) e && takes_uuid u row.key)

-- the uuid is the event's own, or the owner's copy has it
unfoldable pub is_used : List Row → OrgId → EventId → ℕ → Bool
is_used rows w e u = eqb e.0.0 u || list_any (has_uuid w e u) rows
