-- What an organisation sees of one owner's copy of an event, by sets that are found once for all
-- rows.
use Rattle.std.specs.Prelude.{◌≡◌, Bool, false, not, ◌&&◌, List}
use Rattle.misp_model.specs.Prelude.{BTreeSet, EventId, Group, Inst, OrgId, Row, event_of, is_deleted, list_all, parents, same_org}
use Rattle.misp_copies.specs.declared.copy_view.CopyView.{CopyView}
use Rattle.misp_copies.specs.Table.{has_pair, IsTombstones}
use Rattle.misp_copies.specs.ElementSet.{Numbers, key_is}
use Rattle.misp_copies.specs.Grants.{IsElementSet, IsGrants, granted_in}

-- the sets are those of the rows
pub record IsCopyView (v : CopyView) (groups : List Group) (i : Inst) (o : OrgId) (e : EventId)
    (w : OrgId) (rows : List Row) : Type 0 where
  pub known : v.who.now.groups.now ≡ groups
  pub here : v.who.now.here ≡ i
  pub org : v.who.now.org ≡ o
  pub event : v.event ≡ e
  pub owner : v.owner ≡ w
  pub grants : IsGrants v.grants groups i o rows
  pub tombstones : IsTombstones v.gone rows
  pub deletions : IsElementSet v.deleted is_deleted rows

-- the row is of the owner's copy, granted, and live there
unfoldable pub shows_in : CopyView → Row → Bool
shows_in v row =
    same_org row.owner v.owner
    && granted_in v.grants v.who.now.groups.now v.who.now.here v.who.now.org row
    && (not (is_deleted row) && not (has_pair v.gone (event_of row.key) row.owner)
    && list_all (key_is v.deleted row.owner false) (parents row.key))

-- the set has the elements that show, where there are references
abbrev pub IsSeen : BTreeSet Numbers → CopyView → Bool → List Row → Type 0
IsSeen elements v linked rows = IsElementSet elements (λ row. linked && shows_in v row) rows
