-- The range of the names that begin with given bytes.
use Rattle.std.specs.Prelude.{◌≡◌, ◌<◌, ℕ, ◌+◌, nat_eq, Bool, nat_lt, ◌==◌, ◌&&◌, if◌then◌else◌, Option, Some, None, List, [], ◌∷◌, filter}
use Rattle.std.specs.List.{AllByRecursion, starts_with}
use Rattle.std.specs.Ordering.{is_ge, is_lt}
use Rattle.misp_lists.specs.Prelude.{nat_cmp, slice_cmp}
use Rattle.misp_ids.specs.declared.uid.EventId.{EventId}
use Rattle.misp_outside.specs.declared.row.RawRow.{RawRow}

-- the byte, then what comes after the rest; or where nothing does, the next byte alone
abbrev pub after_first : ℕ → Option (List ℕ) → Option (List ℕ)
after_first byte (Some rest) = Some (byte ∷ rest)
after_first byte None = if nat_lt byte 255 then Some ((byte + 1) ∷ []) else None

-- the least bytes after all that begin with these, where there are any
unfoldable pub bytes_after : List ℕ → Option (List ℕ)
bytes_after [] = None
bytes_after (byte ∷ rest) = after_first byte (bytes_after rest)

-- the name is in the range: not before its first bytes, and before its last
abbrev pub is_between : List ℕ → List ℕ → List ℕ → Bool
is_between from until name = is_ge (slice_cmp nat_cmp name from) && is_lt (slice_cmp nat_cmp name until)

-- each is a byte
abbrev pub AreBytes : List ℕ → Type 0
AreBytes name = AllByRecursion (λ byte. byte < 256) name

-- the names in the range are exactly those that begin with its first bytes
abbrev pub IsRangeOf : List ℕ → List ℕ → Type 0
IsRangeOf front after = (name : List ℕ) → AreBytes name → is_between front after name ≡ starts_with nat_eq name front

-- of the rows of one event those whose names are in the range
unfoldable pub rows_between : EventId → List ℕ → List ℕ → List RawRow → List RawRow
rows_between event from until rows = filter (λ row. (row.event.0.0 == event.0.0) && is_between from until row.name) rows
