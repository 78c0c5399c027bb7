-- What is seen of the target of a statement.
use Rattle.std.proofs.Common.{◌≡◌, List, refl, ap, ◌&&◌, true}
use Rattle.misp_lists.proofs.Lists.{and_where}
use Rattle.misp_model.proofs.Prelude.{Element, EventId, Group, Inst, Key, OrgId, Place, Reference, Row, element_granted, false≢true, granted, granted_by, list_any, same_key}
use Rattle.misp_model.specs.Prelude.{is_live}

element_is : (rows : List Row) (groups : List Group) (i : Inst) (o : OrgId) (e : EventId) (p : Place) (row : Row) → same_key row.key (Element e p) ≡ true →
    granted rows groups i o row ≡ element_granted rows groups i o row
unfolding granted granted_by same_key
element_is rows groups i o e p row h = by_key row.key h
  where
    by_key : (k : Key) → same_key k (Element e p) ≡ true → granted_by rows groups i o row.owner (element_granted rows groups i o row) k ≡ element_granted rows groups i o row
    by_key (Element f q) h = refl
    by_key (Reference f x t u) h = refl
    by_key _ h = absurd (false≢true h)

-- of an element's key, what is granted is so as elements are
pub seen_live_is : (rows all : List Row) (groups : List Group) (i : Inst) (o : OrgId) (e : EventId) (p : Place) →
    list_any (λ row. same_key row.key (Element e p) && (granted all groups i o row && is_live all row)) rows
    ≡ list_any (λ row. same_key row.key (Element e p) && (element_granted all groups i o row && is_live all row)) rows
seen_live_is rows all groups i o e p = λ j.
    list_any (λ row.
    and_where (same_key row.key (Element e p)) (granted all groups i o row && is_live all row) (element_granted all groups i o row && is_live all row)
    (λ h. ap (λ x. x && is_live all row) (element_is all groups i o e p row h)) j) rows
