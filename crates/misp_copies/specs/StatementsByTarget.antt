-- Rows by what they are about.
use Rattle.std.specs.Prelude.{◌≡◌, List, filter, IsSortedBy}
use Rattle.std.specs.Ordering.{is_lt}
use Rattle.misp_model.specs.Prelude.{Bor, Key, Row}
use Rattle.misp_copies.specs.Keys.{key_cmp, target_of, is_about}

-- what they are about does not fall
abbrev pub AreByTarget : List (Bor Row) → Type 0
AreByTarget rows =
    IsSortedBy (λ a b. is_lt (key_cmp (target_of a.now.key) (target_of b.now.key))) rows

-- of each key the list has those that are about it, in the order in which they are in the rows
abbrev pub IsByTarget : List Row → List Row → Type 0
IsByTarget list rows =
    (k : Key) → filter (λ r. is_about k r.key) list ≡ filter (λ r. is_about k r.key) rows
