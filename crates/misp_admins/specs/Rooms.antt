-- Room for an item, as contracts see it.
use Rattle.std.specs.Prelude.{◌<◌, vec_len, vec_capacity}
use Rattle.misp_orgs.specs.Admin.{AdminFields}
use Rattle.misp_admins.specs.declared.held_item.HeldItem.{HeldItem}
use Rattle.misp_admins.specs.declared.item.Item.{Item}
use Rattle.misp_admins.specs.declared.lists.Lists.{Lists}

-- an administration, and the item for which it has room
pub record RoomFields : Type 0 where
  pub admin : AdminFields
  pub item : Item

-- this administration with room for this item
abbrev pub roomy : AdminFields → Item → RoomFields
roomy admin item = record { admin = admin; item = item }

-- the administration that has these lists
abbrev pub admin_in : Lists → AdminFields
admin_in l = record { orgs = l.orgs.items; keys = l.keys.items; links = l.links.items }

-- the item that is held
abbrev pub item_in : HeldItem → Item
item_in (HeldItem.Org o) = Item.Org o
item_in (HeldItem.Key k) = Item.Key k
item_in (HeldItem.Link l) = Item.Link l

-- there is memory for one more in the list of the item
abbrev pub HasRoom : Lists → HeldItem → Type 0
HasRoom l (HeldItem.Org o) = vec_len l.orgs < vec_capacity l.orgs
HasRoom l (HeldItem.Key k) = vec_len l.keys < vec_capacity l.keys
HasRoom l (HeldItem.Link k) = vec_len l.links < vec_capacity l.links
