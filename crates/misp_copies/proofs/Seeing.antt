-- Who sees an event: a row of the event itself is granted as an element is.
use Rattle.std.proofs.Common.{◌≡◌, List, refl, ◌&&◌, true}
use Rattle.misp_lists.proofs.Lists.{and_where}
use Rattle.misp_model.proofs.Prelude.{Element, EventId, Group, Inst, Key, OrgId, Reference, Row, element_granted, event_key, false≢true, granted, granted_by, list_any, same_key}

itself_granted : (rows : List Row) (groups : List Group) (i : Inst) (o : OrgId) (e : EventId) (row : Row) → same_key row.key (event_key e) ≡ true →
    granted rows groups i o row ≡ element_granted rows groups i o row
unfolding granted granted_by same_key event_key
itself_granted rows groups i o e row h = by_key row.key h
  where
    by_key : (k : Key) → same_key k (event_key e) ≡ true → granted_by rows groups i o row.owner (element_granted rows groups i o row) k ≡ element_granted rows groups i o row
    by_key (Element f p) h = refl
    by_key (Reference f x t u) h = refl
    by_key _ h = absurd (false≢true h)

pub seen_is : (rows all : List Row) (groups : List Group) (i : Inst) (o : OrgId) (e : EventId) →
    list_any (λ row. same_key row.key (event_key e) && granted all groups i o row) rows ≡ list_any (λ row. same_key row.key (event_key e) && element_granted all groups i o row) rows
seen_is rows all groups i o e = λ j. list_any (λ row. and_where (same_key row.key (event_key e)) (granted all groups i o row) (element_granted all groups i o row) (itself_granted all groups i o e row) j) rows
