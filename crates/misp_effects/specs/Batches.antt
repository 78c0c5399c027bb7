-- What is put at once.
use Rattle.std.specs.Prelude.{List, [], ◌∷◌}
use Rattle.std.specs.List.{AllByRecursion}
use Rattle.misp_groups.specs.declared.group.GroupFields.{GroupFields as Group}
use Rattle.misp_groups.specs.Group.{IsGroup}
use Rattle.misp_outside.specs.declared.row.RawBatch.{RawBatch}
use Rattle.misp_outside.specs.Held.{Held, with_batch}
use Rattle.misp_elem.specs.declared.row.RowFields.{RowFields as Row}
use Rattle.misp_elem.specs.Row.{AreRows}
use Rattle.misp_admins.specs.declared.item.Item.{Item}
use Rattle.misp_admins.specs.Made.{IsItem}

-- Rows of events, sharing groups, and what requests made of the administration, that are put together.
-- They are what they are read as, and not their bytes: two lists of fields may have the same bytes,
-- of which one is no row.
pub record Batch : Type 0 where
  pub rows : List Row
  pub groups : List Group
  pub items : List Item

-- these rows and these groups
abbrev pub batch : List Row → List Group → Batch
batch rows groups = record { rows = rows; groups = groups; items = [] }

-- this item alone
abbrev pub item_batch : Item → Batch
item_batch item = record { rows = []; groups = []; items = item ∷ [] }

-- How batches are spelled as the bytes that a keeper is given. It is a parameter of all words that
-- say what is held, since the text of a group is of a crate above.
abbrev pub Spelling : Type 0
Spelling = Batch → RawBatch

-- what is held after each of these is put, one after another
abbrev pub put_batches : List RawBatch → Held → Held
put_batches [] held = held
put_batches (b ∷ bs) held = put_batches bs (with_batch b held)

-- all rows of a batch are rows, all its groups are groups and all its items are items, so that each
-- can be read back as itself
pub record IsReadable (b : Batch) : Type 0 where
  pub rows : AreRows b.rows
  pub groups : AllByRecursion IsGroup b.groups
  pub items : AllByRecursion IsItem b.items

-- the same of each of these batches
abbrev pub AreReadable : List Batch → Type 0
AreReadable batches = AllByRecursion IsReadable batches
