-- What one row says.
use Rattle.std.specs.Prelude.{Bool, true, false}
use Rattle.misp_elem.specs.Prelude.{Content, RowFields}

-- the content is that of a tombstone
unfoldable pub is_gone : Content → Bool
is_gone Content.Gone = true
is_gone (Content.Event b) = false
is_gone (Content.Object b) = false
is_gone (Content.Attribute b) = false
is_gone (Content.Reference b) = false
is_gone (Content.Proposal b) = false
is_gone (Content.Verdict b) = false
is_gone (Content.Sighting b) = false

-- the row is the tombstone of a deleted event
unfoldable pub is_tombstone : RowFields → Bool
is_tombstone row = is_gone row.content

-- the row is deleted
unfoldable pub is_deleted : RowFields → Bool
is_deleted row =
    elim row.content [
      | Content.Object b ↦ b.deleted
      | Content.Attribute b ↦ b.deleted
      | Content.Reference b ↦ b.deleted
      | Content.Gone ↦ false
      | Content.Event b ↦ false
      | Content.Proposal b ↦ false
      | Content.Verdict b ↦ false
      | Content.Sighting b ↦ false
    ]
