-- The rows that one organisation has of one event are held under names that begin with its bytes.
use Rattle.std.proofs.Common.{◌≡◌, ℕ, List, [], ◌∷◌, ◌++◌, length, nat_eq, refl, sym, ap, ◌∙◌, map, arith, bytes_eq, nat_cmp, is_eq, take_at, append-nil}
use Rattle.std.specs.List.{starts_with}
use Rattle.misp_lists.proofs.Orders.{in_bytes, then_equal}
use Rattle.misp_outside.specs.Held.{rows_named}
use Rattle.misp_elem.specs.Prelude.{Uid, key}
use Rattle.misp_elem.proofs.KeyOrder.{uid_orders}
use Rattle.misp_model.proofs.Prelude.{AreRows, EventId, IsRow, IsUid, OrgId, Row, is_eq-slice_cmp, name_bytes, nat_tests, same_event, same_org, uid}
use Rattle.misp_store.specs.Raw.{raw_row, owner_rows}
use Rattle.misp_store.proofs.RowNames.{uid_length}

numbers_same : (m n : ℕ) → is_eq (nat_cmp m n) ≡ nat_eq n m
numbers_same m n = grind (arith, nat_tests)

-- the bytes of two identifiers are the same where their numbers are
pub same_bytes : (a b : Uid) → IsUid a → IsUid b → bytes_eq (uid a) (uid b) ≡ nat_eq b.0 a.0
same_bytes a b h k =
    let whole : in_bytes (uid a) (uid b) ≡ nat_cmp a.0 b.0 = (λ i. in_bytes (sym (append-nil (uid a)) i) (sym (append-nil (uid b)) i)) ∙ uid_orders.by_bytes a b [] [] h k ∙ then_equal (nat_cmp a.0 b.0) in
    sym (is_eq-slice_cmp (uid a) (uid b)) ∙ ap is_eq whole ∙ numbers_same a.0 b.0

-- bytes that begin with those of one begin with those of another where it is the same
pub begins_as : (a b : Uid) (rest : List ℕ) → IsUid a → IsUid b → starts_with nat_eq (uid a ++ rest) (uid b) ≡ nat_eq a.0 b.0
begins_as a b rest h k =
    ap (bytes_eq (uid b)) (take_at (uid a) rest (length (uid b)) (uid_length a ∙ sym (uid_length b))) ∙ same_bytes b a k h

-- a row of the organisation is held under its bytes
pub held_of_owner : (o : OrgId) (r : Row) → IsUid o.0 → IsRow r → starts_with nat_eq (name_bytes r) (uid o.0) ≡ same_org r.owner o
unfolding name_bytes same_org
held_of_owner o r h is = begins_as r.owner.0 o.0 (key r.key) is.0 h

-- what an organisation has of an event is held under the event and its bytes
pub rows_of_owner : (o : OrgId) (e : EventId) (rows : List Row) → IsUid o.0 → AreRows rows → rows_named e (uid o.0) (map raw_row rows) ≡ map raw_row (owner_rows o e rows)
unfolding rows_named raw_row same_event
rows_of_owner o e [] h are = refl
rows_of_owner o e (r ∷ rs) h are = grind (arith, rows_of_owner o e rs h are.1, held_of_owner o r h are.0)
