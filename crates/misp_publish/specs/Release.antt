-- What a publishing writes, by the rows of one event.
use Rattle.std.specs.Prelude.{◌≡◌, ℕ, Bool, false, not, ◌&&◌, List, map, None}
use Rattle.misp_model.specs.Prelude.{EventId, OrgId, Row, Scene, at_publishing, change_rules, change_writes, event_key, event_of, first_rule, is_at_limit, same_event, same_key, same_org}
use Rattle.misp_model.specs.declared.change.Change.{Change}
use Rattle.misp_model.specs.declared.change.Change.TheVariants.{Publish}
use Rattle.misp_history.specs.History.{fresh_row}

-- the row of an event, published at this moment under this stamp
unfoldable pub at_stamp : ℕ → ℕ → Row → Row
at_stamp stamp now row =
    record row {
      stamp = stamp;
      held = false;
      carried = false;
      content = at_publishing now row.content;
    }

-- the row with no hold
unfoldable pub cleared_row : Row → Row
cleared_row row = record row { held = false; carried = false }

-- it is a held row of the owner's copy of the event, and not that of the event itself
unfoldable pub is_released : OrgId → EventId → Row → Bool
is_released o e row =
    same_org row.owner o
    && (same_event (event_of row.key) e && (row.held && not (same_key row.key (event_key e))))

-- the event has not the last stamp, and these are the rows of what a publishing writes
abbrev pub Publishes : Scene → EventId → List Row → Type 0
Publishes s e rows =
    (is_at_limit s (event_key e) ≡ false) × (rows ≡ map fresh_row (change_writes s (Publish e)))

-- no rule refuses the change, and these are the rows of what is written
abbrev pub Changes : Scene → Change → List Row → Type 0
Changes s c rows =
    (first_rule (change_rules s c) ≡ None) × (rows ≡ map fresh_row (change_writes s c))
