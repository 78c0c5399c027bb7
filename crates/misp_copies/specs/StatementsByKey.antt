-- Rows by their keys, and those of one key by their owners.
use Rattle.std.specs.Prelude.{Bool, ltb, ◌&&◌, List, IsSortedBy}
use Rattle.std.specs.Ordering.{is_lt}
use Rattle.misp_model.specs.Prelude.{Bor, Ordering, Row, nat_cmp, ordering_then, same_key}
use Rattle.misp_copies.specs.Keys.{key_cmp}

-- how one row stands to another: by their keys, and of one key by their owners
abbrev pub statement_cmp : Row → Row → Ordering
statement_cmp a b = ordering_then (key_cmp a.key b.key) (nat_cmp a.owner.0.0 b.owner.0.0)

-- neither their keys nor the owners of one key fall
abbrev pub AreByKey : List (Bor Row) → Type 0
AreByKey rows = IsSortedBy (λ a b. is_lt (statement_cmp a.now b.now)) rows

-- the other row is of the row's key, and of a lesser owner
abbrev pub is_lesser : Row → Row → Bool
is_lesser row other = ltb other.owner.0.0 row.owner.0.0 && same_key other.key row.key
