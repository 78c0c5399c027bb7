-- The scene of one event's rows.
use Rattle.std.specs.Prelude.{◌≡◌, Bool, ◌&&◌, cond, List, [], Option, Some, None}
use Rattle.misp_model.specs.Prelude.{EventId, Group, Inst, OrgId, Row, Scene, event_key, first_of_all, granted, is_before, same_key}

-- a scene of these rows and groups alone, as the organisation looks at them there
abbrev pub scene_of : List Group → Inst → OrgId → List Row → Scene
scene_of groups at by rows =
    record {
      act = 0;
      at = at;
      by = by;
      by_name = [];
      partner = None;
      now = 0;
      today = [];
      rows = rows;
      groups = groups;
    }

-- it is a granted row of the event itself
unfoldable pub is_granted_itself : List Group → Inst → OrgId → EventId → List Row → Row → Bool
is_granted_itself groups i o e rows row =
    same_key row.key (event_key e) && granted rows groups i o row

-- the first of the best so far and one more row, where that counts
abbrev pub better : Option Row → Row → Bool → Option Row
better None row counts = cond counts (Some row) None
better (Some best) row counts = cond (counts && is_before row best) (Some row) (Some best)

-- the row that none of these goes before; there is none where they are none
pub record IsBestOf (best : Option Row) (rows : List Row) : Type 0 where
  pub is : best ≡ first_of_all rows
  pub none : best ≡ None → rows ≡ []
