-- Of the rows that are known each key passes once.
use Rattle.std.proofs.Common.{◌≡◌, List, Bool, true, ap, sym, ◌∙◌, inl, inr, ltb, Some, None, ◌&&◌, Option, Contains, lt-ltb}
use Rattle.std.proofs.lemmas.Bool.{cases_order, not-true}
use Rattle.misp_lists.proofs.Distinct.{distinct_part}
use Rattle.misp_model.proofs.Prelude.{Element, Group, IsDistinct, IsTable, Key, OrgId, Reference, Row, and_from, and_parts, any_has, event_of, false≢true, granted, in_one_cell, is_known, is_least, known, one_cell, part_is_table}
use Rattle.misp_model.proofs.Prelude.{same_key, same_key-refl, same_key-sound, same_org-sound}
use Rattle.misp_history.specs.Passing.{Route, element_passes, is_sent_owner, passes, passes_by, sent_copy}
use Rattle.misp_history.specs.Merging.{passing_rows}
use Rattle.misp_package.proofs.KeyOrders.{one_key}

module _ (rows : List Row) (groups : List Group) (route : Route) where
  sent_owner : (o : Option Row) (v w : OrgId) → is_sent_owner o v ≡ true → is_sent_owner o w ≡ true → v ≡ w
  unfolding is_sent_owner
  sent_owner None v w h k = absurd (false≢true h)
  sent_owner (Some row) v w h k = sym (same_org-sound row.owner v h) ∙ same_org-sound row.owner w k

  least : Row → Bool
  least row = is_least rows groups route.from route.«for» row

  none_less : (x y : Row) → Contains rows y → y.key ≡ x.key → least y ≡ true → least x ≡ true → ltb y.owner.0.0 x.owner.0.0 ≡ true → ⊥
  unfolding is_least least
  none_less x y m e g l lt =
      false≢true (sym (not-true _ (and_parts _ _ l).1)
      ∙ any_has (λ r. same_key r.key x.key && ltb r.owner.0.0 x.owner.0.0 && granted rows groups route.from route.«for» r) rows y m
      (and_from _ _ (and_from _ _ (ap (λ k. same_key k x.key) e ∙ same_key-refl x.key) lt) (and_parts _ _ g).0))

  -- two rows of one key, each from the least owner
  least_owner : (a b : Row) → Contains rows a → Contains rows b → a.key ≡ b.key → least a ≡ true → least b ≡ true → a.owner ≡ b.owner
  least_owner a b m n e h k = elim (cases_order a.owner.0.0 b.owner.0.0) [
    | inl x ↦ λ i. record { 0 = record { 0 = x i } }
    | inr y ↦ elim y [ inl x ↦ absurd (none_less b a m e h k (lt-ltb a.owner.0.0 b.owner.0.0 x)) | inr x ↦ absurd (none_less a b n (sym e) k h (lt-ltb b.owner.0.0 a.owner.0.0 x)) ]
  ]

  element_owner : (a b : Row) → a.key ≡ b.key → element_passes rows groups route a ≡ true → element_passes rows groups route b ≡ true → a.owner ≡ b.owner
  unfolding element_passes
  element_owner a b e x y =
      sent_owner (sent_copy rows groups route (event_of b.key)) a.owner b.owner
      (sym (ap (λ j. is_sent_owner (sent_copy rows groups route (event_of j)) a.owner) e) ∙ (and_parts _ _ (and_parts _ _ (and_parts _ _ x).0).0).0)
      (and_parts _ _ (and_parts _ _ (and_parts _ _ y).0).0).0

  once_by : (a b : Row) → Contains rows a → Contains rows b → a.key ≡ b.key → (j : Key) → passes_by rows groups route a j ≡ true → passes_by rows groups route b j ≡ true → a.owner ≡ b.owner
  unfolding passes_by least
  once_by a b m n e (Element f p) x y = element_owner a b e x y
  once_by a b m n e (Reference f z p u) x y = element_owner a b e x y
  once_by a b m n e _ x y = least_owner a b m n e (and_parts _ _ x).0 (and_parts _ _ y).0

  passes_once : (a b : Row) → Contains rows a → Contains rows b → passes rows groups route a ≡ true → passes rows groups route b ≡ true → one_key a b ≡ true → in_one_cell a b ≡ true
  unfolding passes
  passes_once a b m n h k s =
      let e : a.key ≡ b.key = same_key-sound a.key b.key s in
      one_cell a b (once_by a b m n e a.key h (ap (passes_by rows groups route b) e ∙ k)) e

pub keys_once : (rows : List Row) (groups : List Group) (route : Route) → IsTable rows → IsDistinct one_key (passing_rows rows groups route)
unfolding passing_rows known
keys_once rows groups route table =
    distinct_part in_one_cell one_key (passes (known rows groups route.from route.«for») groups route) (known rows groups route.from route.«for»)
    (λ a b m n h k. passes_once (known rows groups route.from route.«for») groups route a b m n h k) (part_is_table (is_known rows groups route.from route.«for») rows table)
