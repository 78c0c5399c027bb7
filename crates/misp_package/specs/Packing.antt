-- Rows on the wire, and in packages.
use Rattle.std.specs.Prelude.{◌≡◌, Bool, true, false, not, ◌&&◌, List, [], ◌∷◌, ℕ, suc, length, map, Option, Some, None}
use Rattle.std.specs.List.Sorted.{IsStrictlySortedBy}
use Rattle.misp_lists.specs.Order.{sorted_by}
use Rattle.misp_ids.specs.declared.label.Way.{Way}
use Rattle.misp_levels.specs.Levels.{landed}
use Rattle.misp_elem.specs.Fields.{IsBetween}
use Rattle.misp_elem.specs.RowFacts.{is_tombstone}
use Rattle.misp_model.specs.Prelude.{Bor, EventId, Ordering, Row, event_of, list_all, same_event}
use Rattle.misp_model.specs.declared.package.PackageFields.{PackageFields as Package}
use Rattle.misp_model.specs.Package.{BeginsWith}
use Rattle.misp_history.specs.History.{without_local_tags}
use Rattle.misp_copies.specs.Keys.{key_cmp}
use Rattle.misp_model.specs.Package.{nobody}

-- the row as it arrives on this way at nobody
unfoldable pub on_wire : Way → Row → Row
on_wire way row =
    record {
      owner = nobody;
      key = row.key;
      stamp = row.stamp;
      label = landed way row.label;
      held = false;
      carried = true;
      content = without_local_tags row.content;
    }

-- how one row stands to another by their keys
unfoldable pub key_order : Row → Row → Ordering
key_order a b = key_cmp a.key b.key

-- the rows of each of these parts
abbrev pub rows_in : List (Bor (List (Bor Row))) → List (List Row)
rows_in parts = map (λ part. map (λ r. r.now) part.now) parts

-- the row is no tombstone
unfoldable pub is_whole : Row → Bool
is_whole row = not (is_tombstone row)

-- the row can go into a package of the event
unfoldable pub is_packable : EventId → Row → Bool
is_packable e row = same_event (event_of row.key) e && is_whole row

-- the rows can go into packages of the event: its own row goes before the others, and they ascend
-- by their keys
pub record ArePackable (e : EventId) (rows : List Row) : Type 0 where
  pub first : BeginsWith e rows
  pub each : list_all (is_packable e) rows ≡ true
  pub ascend : IsStrictlySortedBy key_order rows

-- these are the rows by their keys, where they can go into packages of the event
unfoldable pub IsPacking : EventId → List Row → Option (List Row) → Type 0
IsPacking e rows None = ArePackable e (sorted_by key_order rows) → ⊥
IsPacking e rows (Some list) = (list ≡ sorted_by key_order rows) × ArePackable e list

-- the rows of one package of the event
pub record IsPart (e : EventId) (part : List Row) : Type 0 where
  pub count : IsBetween 1 65 (length part)
  pub packable : ArePackable e part

-- the packages are of the event, so many in all, and are numbered from this number on
unfoldable pub AreNumberedFrom : ℕ → EventId → ℕ → List Package → Type 0
AreNumberedFrom n e count [] = Unit {0}
AreNumberedFrom n e count (p ∷ ps) =
    ((p.event ≡ e) × ((p.part ≡ n) × (p.parts ≡ count))) × AreNumberedFrom (suc n) e count ps

-- the packages are all of the event, numbered from 0 on, and have their number
abbrev pub AreNumbered : EventId → List Package → Type 0
AreNumbered e ps = AreNumberedFrom 0 e (length ps) ps
