-- Values that are computed, so that a wrong rule in the specs does not check.
use Rattle.std.proofs.Common.{◌≡◌, ℕ, pos, List, [], ◌∷◌, ◌++◌, map, replicate, refl, None, Some}
use Rattle.sqlite_value.specs.declared.value.Value.TheVariants.{Null, Int, Text, Blob}
use Rattle.sqlite_value.specs.Order.{Row}
use Rattle.misp_lists.specs.Order.{in_order, put}
use Rattle.misp_outside.specs.Held.{comes_before, admin_before}
use Rattle.misp_sqlite.specs.Ranges.{bytes_after}
use Rattle.misp_sqlite.specs.Stored.{event_bytes, event_in, is_event, is_no_event, event_of, as_raw, is_raw, as_admin, is_admin, held_in}

pub known_bytes_after : map bytes_after ([] ∷ (255 ∷ 255 ∷ []) ∷ (1 ∷ 2 ∷ []) ∷ (1 ∷ 2 ∷ 255 ∷ []) ∷ (254 ∷ 255 ∷ []) ∷ [])
    ≡ None ∷ None ∷ Some (1 ∷ 3 ∷ []) ∷ Some (1 ∷ 3 ∷ []) ∷ Some (255 ∷ []) ∷ []
unfolding bytes_after
known_bytes_after = refl

-- a row of the table, of the form that the rows of events and of the administration have
abbrev row : ℕ → List ℕ → ℕ → ℕ → Row
row number event kind name = Int (pos number) ∷ Blob event ∷ Int (pos kind) ∷ Blob (name ∷ []) ∷ Blob (number ∷ []) ∷ []

-- the event 5
abbrev five : List ℕ
five = replicate 15 0 ++ 5 ∷ []

-- rows of an event in the order of their names, a row of the administration, and four rows that stand for nothing: their
-- events have another length, a kind, and a text for their bytes, and the last has no rowid
pub known_rows : held_in (row 1 five 0 9 ∷ row 2 [] 1 7 ∷ row 3 five 0 8 ∷ row 4 (5 ∷ []) 0 6 ∷ row 5 five 1 6
    ∷ (Int (pos 6) ∷ Blob five ∷ Int (pos 0) ∷ Text (6 ∷ []) ∷ Blob [] ∷ []) ∷ (Null ∷ Blob five ∷ Int (pos 0) ∷ Blob (6 ∷ []) ∷ Blob [] ∷ []) ∷ [])
    ≡ record {
      rows = (record { event = event_of 5; name = 8 ∷ []; bytes = 3 ∷ [] }) ∷ (record { event = event_of 5; name = 9 ∷ []; bytes = 1 ∷ [] }) ∷ [];
      admin = (record { kind = 1; name = 7 ∷ []; bytes = 2 ∷ [] }) ∷ [];
    }
unfolding held_in in_order put comes_before admin_before event_bytes event_in is_event is_no_event as_raw is_raw as_admin is_admin
known_rows = refl
