-- What is read of a keeper over which an instance is opened.
use Rattle.std.proofs.Common.{◌≡◌, List, [], ◌∷◌, ◌++◌, Option, IfSome, IsOk, refl, ap, sym, ◌∙◌}
use Rattle.misp_outside.specs.Reporting.{StaysHeld, WhereReported}
use Rattle.misp_outside.proofs.Reporting.{known_then, reported_later}
use Rattle.misp_admins.specs.Made.{put_item, with_items}
use Rattle.misp_admins.specs.declared.item.Item.{Item}
use Rattle.misp_admin_rows.specs.Rows.{items_in}
use Rattle.misp_store.specs.Loading.{NamesFault}
use Rattle.misp_store.specs.Prelude.{Admin, Group, Held}
use Rattle.misp_store.specs.Raw.{rows_in}
use Rattle.misp_store.specs.Renewing.{opened, renewed}
use Rattle.misp_store.specs.Sharing.{HoldsGroups}
use Rattle.misp_store.specs.declared.fault.LoadFault.{LoadFault}
use Rattle.misp_store.proofs.Opened.{both_read, row_bad}
use Rattle.misp_core.proofs.Reported.{groups_still}

-- ---- items

-- with one item more
pub items_more : (admin : Admin) (items : List Item) (item : Item) → with_items admin (items ++ item ∷ []) ≡ put_item item (with_items admin items)
unfolding with_items
items_more admin [] item = refl
items_more admin (first ∷ items) item = items_more (put_item first admin) items item

-- the items stay where rows are put anew
pub items_renewed : (held new : Option Held) (admin made : Admin) → WhereReported held new (λ old now. now ≡ renewed old) → IfSome held (λ h. made ≡ with_items admin (items_in h.admin))
    → IfSome new (λ h. made ≡ with_items admin (items_in h.admin))
unfolding renewed
items_renewed held new admin made =
    known_then held new (λ old now. now ≡ renewed old) (λ h. made ≡ with_items admin (items_in h.admin)) (λ h. made ≡ with_items admin (items_in h.admin))
    (λ old now is made_is. made_is ∙ ap (λ (h : Held). with_items admin (items_in h.admin)) (sym is))

-- ---- rows

-- what was held before decodes
pub whole_read : (old mid new : Option Held) (groups : List Group) → StaysHeld old mid → HoldsGroups mid groups → WhereReported mid new (λ held now. IsOk (rows_in held.rows))
    → WhereReported old new (λ held now. IsOk (opened held))
whole_read old mid new groups stays holds rows = reported_later old mid new (λ held now. IsOk (opened held)) stays (both_read mid new groups holds rows)

-- a row does not decode, of those that are still reported
pub row_left_bad : (mid new : Option Held) (groups : List Group) (fault : LoadFault) → StaysHeld mid new → HoldsGroups mid groups → IfSome new (λ held. NamesFault (rows_in held.rows) fault)
    → IfSome new (λ held. NamesFault (opened held) fault)
row_left_bad mid new groups fault stays holds bad = row_bad new groups fault (groups_still mid new groups stays holds) bad
