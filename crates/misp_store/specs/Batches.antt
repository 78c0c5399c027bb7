-- What is put at once, as a keeper is given it.
use Rattle.std.specs.Prelude.{◌++◌, map}
use Rattle.misp_admin_rows.specs.Rows.{item_row}
use Rattle.misp_effects.specs.Batches.{Spelling}
use Rattle.misp_store.specs.Raw.{raw_row}
use Rattle.misp_store.specs.Sharing.{group_row}

-- a batch as a keeper is given it: each row, each item and each group as it is held
abbrev pub spelled : Spelling
spelled b = record {
  rows = map raw_row b.rows;
  admin = map item_row b.items ++ map group_row b.groups;
}
