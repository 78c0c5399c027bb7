-- The stamps of an owner's rows, by their keys.
use Rattle.std.specs.Prelude.{◌≡◌, Bool, false, leb, ◌&&◌, List, Option, Some, None}
use Rattle.std.specs.BTreeMap.{BTreeMap}
use Rattle.std.specs.Map.{lookup}
use Rattle.misp_model.specs.Prelude.{Key, OrgId, Row, Stamp, is_row_of, list_any, same_key}

-- there is a stamp, and it is as new as this one
abbrev pub is_as_new : Option Stamp → Stamp → Bool
is_as_new None s = false
is_as_new (Some t) s = leb s t

-- the stamp at the key
unfoldable pub stamp_at : BTreeMap Key Stamp → Key → Option Stamp
stamp_at stamps k = lookup (same_key k) stamps.entries

-- at each key is the greatest stamp that a row of the owner has there: it is as new as any stamp
-- exactly where such a row is
abbrev pub AreNewest : BTreeMap Key Stamp → OrgId → List Row → Type 0
AreNewest stamps w rows =
    (k : Key) (s : Stamp) → is_as_new (stamp_at stamps k) s
    ≡ list_any (λ row. is_row_of w k row && leb s row.stamp) rows
