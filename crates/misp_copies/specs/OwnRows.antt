-- What an owner has at a key.
use Rattle.std.specs.Prelude.{Bool, not, ◌&&◌, List}
use Rattle.misp_model.specs.Prelude.{Key, OrgId, Row, is_deleted, is_live, is_row_of, list_any}

-- the owner has a deleted row of the key
abbrev pub has_deleted : List Row → OrgId → Key → Bool
has_deleted rows w k = list_any (λ row. is_row_of w k row && is_deleted row) rows

-- the owner has no deleted row of the key
unfoldable pub is_kept : List Row → OrgId → Key → Bool
is_kept rows w k = not (has_deleted rows w k)

-- the owner's row of the key is there and live
unfoldable pub has_live : List Row → OrgId → Key → Bool
has_live rows o k = list_any (λ row. is_row_of o k row && is_live rows row) rows
