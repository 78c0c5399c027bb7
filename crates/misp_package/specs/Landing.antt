-- What an owner has of one event, as far as it decides what is taken of a package.
use Rattle.std.specs.Prelude.{◌≡◌, Bool, true, false, not, cond, ◌&&◌, ◌||◌, List, filter, map}
use Rattle.misp_groups.specs.Audience.{label_is_known}
use Rattle.misp_model.specs.Prelude.{EventId, Group, Inst, OrgId, Row, event_key, is_row_of, is_statement, is_tombstone, list_any, same_key}
use Rattle.misp_history.specs.Merging.{handed}
use Rattle.misp_copies.specs.Copies.{copy_state, takes}
use Rattle.misp_copies.specs.declared.states.CopyState.{CopyState}
use Rattle.misp_package.specs.Stamps.{AreNewest, is_as_new, stamp_at}
use Rattle.misp_package.specs.declared.landing.Landing.{Landing}

-- it is that of these rows of an owner's event at an instance
pub record IsLanding (l : Landing) (i : Inst) (w : OrgId) (e : EventId)
    (held : List Row) : Type 0 where
  pub here : l.here ≡ i
  pub owner : l.owner ≡ w
  pub event : l.event ≡ e
  pub state : l.state ≡ copy_state held w e
  pub newest : AreNewest l.newest w held

-- ---- what is taken

-- there is a copy that is not gone
unfoldable pub is_copy : CopyState → Bool
is_copy CopyState.None = false
is_copy CopyState.Home = true
is_copy CopyState.Carried = true
is_copy CopyState.Gone = false

-- the row is welcome, whatever else comes
unfoldable pub is_welcome : Landing → List Group → Row → Bool
is_welcome l groups row = takes l.state row.key l.here && label_is_known groups row.label

-- it is the event's own row, and is welcome
unfoldable pub is_welcome_event : Landing → List Group → Row → Bool
is_welcome_event l groups row = same_key row.key (event_key l.event) && is_welcome l groups row

-- there is a copy, or the event's own row comes and is welcome
unfoldable pub has_event : Landing → List Group → List Row → Bool
has_event l groups coming = is_copy l.state || list_any (is_welcome_event l groups) coming

-- the row is taken; there says whether its event is there or comes
unfoldable pub is_taken : Landing → List Group → Bool → Row → Bool
is_taken l groups there row =
    is_welcome l groups row && (is_statement row.key || there)
    && not (is_as_new (stamp_at l.newest row.key) row.stamp)

-- the rows that are taken of these, as they are handed in
abbrev pub taken_by : Landing → List Group → List Row → List Row
taken_by l groups coming =
    map (handed l.owner) (filter (is_taken l groups (has_event l groups coming)) coming)

-- ---- what is put

-- what an owner has of an event by its own row
unfoldable pub state_by_row : Row → CopyState
state_by_row row =
    cond (is_tombstone row) CopyState.Gone (cond row.carried CopyState.Carried CopyState.Home)

-- what the owner has once the row is put
unfoldable pub state_after : Landing → Row → CopyState
state_after l row = cond (is_row_of l.owner (event_key l.event) row) (state_by_row row) l.state
