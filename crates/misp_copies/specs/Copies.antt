-- The state of a copy, read off its event's row, and what it takes.
use Rattle.std.specs.Prelude.{◌≡◌, Bool, true, false, not, cond, ◌&&◌, List}
use Rattle.misp_model.specs.Prelude.{Element, EventId, Inst, Key, OrgId, Place, Row, event_of, has_copy, has_gone, has_home, is_made_at, is_statement, is_tombstone, list_all, list_any, same_event}
use Rattle.misp_model.specs.Prelude.{same_org}
use Rattle.misp_copies.specs.declared.states.CopyState.{CopyState}

-- the rows are those of the event
abbrev pub AreOf : EventId → List Row → Type 0
AreOf e rows = list_all (λ row. same_event (event_of row.key) e) rows ≡ true

-- by whether there is a tombstone, a copy that was added here, and any copy
unfoldable pub state_by : Bool → Bool → Bool → CopyState
state_by gone home copy =
    cond gone CopyState.Gone (cond home CopyState.Home (cond copy CopyState.Carried CopyState.None))

-- what the owner has of the event
unfoldable pub copy_state : List Row → OrgId → EventId → CopyState
copy_state rows o e = state_by (has_gone rows o e) (has_home rows o e) (has_copy rows o e)

-- the key is that of an event itself
unfoldable pub is_event_key : Key → Bool
is_event_key (Element e Place.Event) = true
is_event_key _ = false

-- the row is the owner's of an event itself
unfoldable pub is_event_row : OrgId → Row → Bool
is_event_row o row = same_org row.owner o && is_event_key row.key

-- the same, where the rows are those of one event
unfoldable pub state_of : List Row → OrgId → CopyState
state_of rows o =
    state_by (list_any (λ row. is_event_row o row && is_tombstone row) rows)
    (list_any (λ row. is_event_row o row && (not (is_tombstone row) && not row.carried)) rows)
    (list_any (λ row. is_event_row o row && not (is_tombstone row)) rows)

-- a copy of this state takes a row of this key at the instance
unfoldable pub takes : CopyState → Key → Inst → Bool
takes CopyState.Gone k i = false
takes CopyState.Home k i = is_statement k && not (is_made_at i k)
takes CopyState.Carried k i = not (is_made_at i k)
takes CopyState.None k i = not (is_made_at i k)
