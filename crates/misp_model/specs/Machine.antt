-- The tables as a keeper changes them, each row in the place of its owner's row of that key, and
-- what of them a request is about.
use Rattle.std.specs.Prelude.{not, ◌&&◌, List, filter, [], ◌∷◌, false, Bool, cond, ℕ, ◌++◌, ltb, eqb, ◌||◌, true, Option, Some, None}
use Rattle.std.specs.Ordering.{is_lt}
use Rattle.misp_lists.specs.Order.{put}
use Rattle.misp_ids.specs.Moments.{next_stamp}
use Rattle.misp_elem.specs.Spelling.{uid, key}
use Rattle.misp_model.specs.Prelude.{AddEvent, AddParts, Ask, Change, Delete, DeleteEvent, DeleteReference, EditAttribute, EditEvent, EditObject, EventId, Groups, Index, Search, Judge, OrgId, Propose, Publish, Row, Scene, Sight, Stamp, SyncEvents, SyncGroups, SyncManifest, SyncPart, SyncRows, TakePart}
pub use Rattle.misp_model.specs.Packing.{event_rows}
use Rattle.misp_model.specs.Prelude.{View, at_publishing, event_of, known, nat_cmp, same_event, same_key, same_org, slice_cmp, stands_before}

-- the rows with one more, in the place of its owner's row of that key
unfoldable pub put_row : Row → List Row → List Row
put_row row rows =
    put stands_before row
    (filter (λ r. not (same_org r.owner row.owner && same_key r.key row.key)) rows)

-- the rows with each of these, one after another
unfoldable pub put_all : List Row → List Row → List Row
put_all [] rows = rows
put_all (r ∷ rs) rows = put_all rs (put_row r rows)

-- the row with no hold
abbrev pub unheld : Row → Row
unheld row = record row { held = false }

-- the row is one of the owner's copy of the event
unfoldable pub is_of_copy : OrgId → EventId → Row → Bool
is_of_copy o e row = same_org row.owner o && same_event (event_of row.key) e

-- the row as it stands after its owner published the event
unfoldable pub let_go : OrgId → EventId → Row → Row
let_go o e row = cond (is_of_copy o e row) (unheld row) row

-- the event's own row, as a publishing at this moment makes it
unfoldable pub published_row : Stamp → Row → Row
published_row now row =
    record row {
      stamp = next_stamp now row.stamp;
      held = false;
      carried = false;
      content = at_publishing now row.content;
    }

-- the number of a row's event
unfoldable pub event_number : Row → ℕ
event_number r = (event_of r.key).0.0

-- what names a row within its event: the bytes of its owner, and those of its key
unfoldable pub name_bytes : Row → List ℕ
name_bytes r = uid r.owner.0 ++ key r.key

-- of two names with the numbers of their events the first goes before
unfoldable pub raw_before : ℕ → List ℕ → ℕ → List ℕ → Bool
raw_before e m f n = ltb e f || eqb e f && is_lt (slice_cmp nat_cmp m n)

-- the surroundings with what the caller knows of these rows
abbrev pub seeing : Scene → List Row → Scene
seeing s rows = record s { rows = known rows s.groups s.at s.by }

-- the request hands in a package: what it brings is put only where it is newer
unfoldable pub hands_in : Ask → Bool
hands_in (TakePart p) = true
hands_in (View e owner) = false
hands_in (Ask.Change c) = false
hands_in (Propose d) = false
hands_in (Judge e n accept) = false
hands_in (Sight e t d) = false
hands_in (Index page) = false
hands_in (Search filter whole) = false
hands_in Groups = false
hands_in SyncGroups = false
hands_in SyncEvents = false
hands_in (SyncPart e n) = false
hands_in SyncManifest = false
hands_in (SyncRows w) = false

-- the request is one of a pull: what it is answered hangs on the partner of the caller's key
unfoldable pub pulls : Ask → Bool
pulls SyncGroups = true
pulls SyncEvents = true
pulls (SyncPart e n) = true
pulls SyncManifest = true
pulls (SyncRows w) = true
pulls (View e owner) = false
pulls (Ask.Change c) = false
pulls (Propose d) = false
pulls (Judge e n accept) = false
pulls (Sight e t d) = false
pulls (Index page) = false
pulls (Search filter whole) = false
pulls Groups = false
pulls (TakePart p) = false

-- the event that a change is about
unfoldable pub event_changed : Change → EventId
event_changed (AddEvent b) = b.event
event_changed (AddParts e b) = b.event
event_changed (EditEvent e edit) = e
event_changed (EditAttribute e p edit) = e
event_changed (EditObject e x edit) = e
event_changed (Delete e p) = e
event_changed (DeleteReference e x u) = e
event_changed (Change.Tag e p tag) = e
event_changed (Change.Untag e p name) = e
event_changed (DeleteEvent e) = e
event_changed (Publish e) = e

-- the event that a request is about, where it is about one and hands in no package
unfoldable pub event_asked : Ask → Option EventId
event_asked (View e owner) = Some e
event_asked (Ask.Change c) = Some (event_changed c)
event_asked (Propose d) = Some d.event
event_asked (Judge e n accept) = Some e
event_asked (Sight e t d) = Some e
event_asked (Index page) = None
event_asked (Search filter whole) = None
event_asked Groups = None
event_asked SyncGroups = None
event_asked SyncEvents = None
event_asked (SyncPart e n) = Some e
event_asked SyncManifest = None
event_asked (SyncRows w) = Some w.event
event_asked (TakePart p) = None
