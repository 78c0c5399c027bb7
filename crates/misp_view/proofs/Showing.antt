-- What the sets say shows of one copy shows.
use Rattle.std.proofs.Common.{◌≡◌, ℕ, Bool, true, false, refl, ap, sym, ◌∙◌, arith, List, ◌∷◌, eqb, ltb, ◌&&◌, ◌||◌, not, filter, BTreeSet}
use Rattle.misp_lists.proofs.Lists.{all_of_kept, any_by}
use Rattle.misp_lists.proofs.Ordering.{tests_in_order, in_order_cut, in_order_same}
use Rattle.misp_lists.proofs.Orders.{less_on, less_past}
use Rattle.misp_model.proofs.Prelude.{Element, EventId, Group, Inst, Key, OrgId, Place, Proposal, Reference, Row, Sighting, Verdict, all_same, and_from, and_parts, event_of, false≢true, filter_agree, in_order, is_deleted, is_less, is_live}
use Rattle.misp_model.proofs.Prelude.{is_object, is_plain_attribute, is_row_of, is_shown, is_statement, list_all, list_any, nat_tests, parents, same_event, same_key, same_key-sound, same_org, shown_at, sorted}
use Rattle.misp_model.specs.Shown.{order_of}
use Rattle.misp_copies.specs.declared.copy_view.CopyView.{CopyView}
use Rattle.misp_copies.specs.OwnRows.{has_deleted}
use Rattle.misp_copies.specs.Kinds.{is_link}
use Rattle.misp_copies.specs.ElementSet.{Numbers, has_element, has_key, key_is}
use Rattle.misp_copies.specs.Grants.{granted_in}
use Rattle.misp_copies.specs.CopyView.{IsCopyView, IsSeen, shows_in}
use Rattle.misp_copies.proofs.Granted.{reached, parents_reached, of_these, all_of_these, granted_is}
use Rattle.misp_view.specs.declared.kinds.Kind.{Kind}
use Rattle.misp_view.specs.View.{scene_of}
use Rattle.misp_view.specs.Order.{class_of, uuid_of, rest_of, goes_before}
use Rattle.misp_view.specs.Kinds.{is_inner, is_seen_reference, is_of_kind, is_one}
use Rattle.misp_view.specs.Inside.{in_list}

-- ---- the order of rows of one kind

ordered_by : (k : Key) → eqb (class_of k) 2 ≡ false → order_of k ≡ uuid_of k ∷ rest_of k
unfolding class_of order_of uuid_of rest_of
ordered_by (Element e p) h = refl
ordered_by (Reference e x t u) h = refl
ordered_by (Proposal e n) h = refl
ordered_by (Verdict e n i o) h = absurd (false≢true (sym h))
ordered_by (Sighting e t i o u) h = refl

-- the rows of this kind
abbrev pub of_class : ℕ → Row → Bool
of_class c row = eqb c (class_of row.key)

in_class : (c : ℕ) → eqb c 2 ≡ false → (a b : Row) → of_class c a ≡ true → of_class c b ≡ true → is_less (order_of a.key) (order_of b.key) ≡ goes_before a b
unfolding goes_before is_less
in_class c h a b f g =
    let k : eqb (class_of a.key) 2 ≡ false = grind (arith, nat_tests) in
    let l : eqb (class_of b.key) 2 ≡ false = grind (arith, nat_tests) in
    rw (ordered_by a.key k, ordered_by b.key l) (one (class_of a.key) (class_of b.key) (is_less (uuid_of a.key ∷ rest_of a.key) (uuid_of b.key ∷ rest_of b.key)) f g)
  where
    one : (m n : ℕ) (t : Bool) → eqb c m ≡ true → eqb c n ≡ true → t ≡ (ltb m n || eqb m n && t)
    one m n t f g = grind (arith, nat_tests)

pub sorted_class : (c : ℕ) → eqb c 2 ≡ false → (xs : List Row) → list_all (of_class c) xs ≡ true → in_order goes_before xs ≡ sorted xs
unfolding sorted
sorted_class c h xs all = sym (in_order_same (λ a b. is_less (order_of a.key) (order_of b.key)) goes_before (of_class c) (in_class c h) xs all)

-- a list in order has the same elements
pub all_sorted : (q : Row → Bool) (xs : List Row) → list_all q xs ≡ true → list_all q (sorted xs) ≡ true
unfolding sorted
all_sorted q xs h = tests_in_order (λ a b. is_less (order_of a.key) (order_of b.key)) q xs h

-- what is cut out of a list in order
pub sorted_cut : (q : Row → Bool) (xs : List Row) → filter q (sorted xs) ≡ sorted (filter q xs)
unfolding sorted
sorted_cut q xs = in_order_cut (λ a b. is_less (order_of a.key) (order_of b.key)) (λ a b c h k. less_on _ _ _ h k) (λ a b c h k. less_past _ _ _ h k) q xs

-- ---- what shows

module _ (groups : List Group) (i : Inst) (o : OrgId) (e : EventId) (w : OrgId) (rows : List Row) (v : CopyView) (s : IsCopyView v groups i o e w rows) where
  kept_is : (u : OrgId) (k : Key) → reached true k ≡ true → key_is v.deleted u false k ≡ not (has_deleted rows u k)
  unfolding has_key reached
  kept_is u (Element f p) h = ap not (s.deletions u f p)
  kept_is u (Reference f x t n) h = absurd (false≢true h)
  kept_is u (Proposal f n) h = absurd (false≢true h)
  kept_is u (Verdict f n j t) h = absurd (false≢true h)
  kept_is u (Sighting f t j n m) h = absurd (false≢true h)

  all_kept : (row : Row) → list_all (key_is v.deleted row.owner false) (parents row.key) ≡ list_all (λ k. not (has_deleted rows row.owner k)) (parents row.key)
  all_kept row = all_same (key_is v.deleted row.owner false) (λ k. not (has_deleted rows row.owner k)) (reached true) (kept_is row.owner) (parents row.key) (parents_reached true row.key refl)

  pub shows_is : (row : Row) → of_these rows row ≡ true → shows_in v row ≡ is_shown (scene_of groups i o rows) w row
  unfolding shows_in is_shown is_live
  shows_is row h = λ j.
      same_org row.owner (s.owner j) && (ap (λ (m : List Group × Inst × OrgId). granted_in v.grants m.0 m.1 m.2 row) (λ k. (s.known k, s.here k, s.org k)) ∙ granted_is groups i o rows v.grants s.grants row h) j
      && (not (is_deleted row) && not (s.tombstones (event_of row.key) row.owner j) && all_kept row j)

  module _ (seen : BTreeSet Numbers) (are_seen : IsSeen seen v (list_any (λ row. is_link row.key) rows) rows) where
    -- a reference of the event, whose target shows
    abbrev pub is_reference : Key → Bool
    is_reference k =
        elim k [
          | Reference f x t u ↦ same_event f e && list_any (λ row. is_row_of w (Element e t) row && is_shown (scene_of groups i o rows) w row) rows
          | Element f p ↦ false
          | Proposal f n ↦ false
          | Verdict f n j z ↦ false
          | Sighting f t j z u ↦ false
        ]

    seen_row : (linked : Bool) → linked ≡ list_any (λ row. is_link row.key) rows → linked ≡ true → (f : EventId) (t : Place) (row : Row) →
        (is_row_of w (Element f t) row && (linked && shows_in v row)) ≡ (is_row_of w (Element f t) row && is_shown (scene_of groups i o rows) w row)
    unfolding is_row_of is_link is_statement
    seen_row linked is on f t row = rw on (one (same_org row.owner w) (same_key row.key (Element f t)) refl)
      where
        here : same_key row.key (Element f t) ≡ true → of_these rows row ≡ true
        here k =
            and_from _ _ (ap (λ b. b || not (is_link row.key)) (sym is ∙ on))
            (ap (λ q. list_any (λ r. is_statement r.key) rows || not (is_statement q)) (same_key-sound row.key (Element f t) k) ∙ two (list_any (λ r. is_statement r.key) rows))
          where
            two : (b : Bool) → (b || true) ≡ true
            two true = refl
            two false = refl

        one : (a b : Bool) → same_key row.key (Element f t) ≡ b → ((a && b) && shows_in v row) ≡ ((a && b) && is_shown (scene_of groups i o rows) w row)
        one true true k = shows_is row (here k)
        one true false k = refl
        one false b k = refl

    reference_is : (row : Row) → of_these rows row ≡ true → is_seen_reference seen v.owner v.event row.key ≡ is_reference row.key
    unfolding is_seen_reference is_link
    reference_is row h = one row.key (and_parts _ _ h).0
      where
        linked : Bool
        linked = list_any (λ r. is_link r.key) rows

        or_nothing : (b : Bool) → (b || false) ≡ true → b ≡ true
        or_nothing true k = refl
        or_nothing false k = k

        one : (k : Key) → (list_any (λ r. is_link r.key) rows || not (is_link k)) ≡ true → is_seen_reference seen v.owner v.event k ≡ is_reference k
        one (Reference f x t u) k = λ j.
            same_event f (s.event j) && (ap (λ (m : OrgId × EventId). has_element seen m.0 m.1 t) (λ n. (s.owner n, s.event n)) ∙ are_seen w e t ∙ any_by _ _ (seen_row linked refl (or_nothing linked k) e t) rows) j
        one (Element f p) k = refl
        one (Proposal f n) k = refl
        one (Verdict f n j z) k = refl
        one (Sighting f t j z u) k = refl

    -- the test of each kind
    abbrev pub test_of : Kind → Key → Bool
    test_of Kind.Attribute k = is_plain_attribute e k
    test_of Kind.Object k = is_object e k
    test_of Kind.Inner k = is_inner e k
    test_of Kind.Reference k = is_reference k

    one_is : (kind : Kind) (row : Row) → of_these rows row ≡ true → is_one kind v seen row ≡ (is_shown (scene_of groups i o rows) w row && test_of kind row.key)
    unfolding is_one is_of_kind
    one_is Kind.Attribute row h = λ j. shows_is row h j && is_plain_attribute (s.event j) row.key
    one_is Kind.Object row h = λ j. shows_is row h j && is_object (s.event j) row.key
    one_is Kind.Inner row h = λ j. shows_is row h j && is_inner (s.event j) row.key
    one_is Kind.Reference row h = λ j. shows_is row h j && reference_is row h j

    test_class : (kind : Kind) (k : Key) → test_of kind k ≡ true → eqb 0 (class_of k) ≡ true
    unfolding class_of is_plain_attribute is_object is_inner
    test_class kind (Element f p) h = refl
    test_class kind (Reference f x t u) h = refl
    test_class Kind.Attribute (Proposal f n) h = absurd (false≢true h)
    test_class Kind.Object (Proposal f n) h = absurd (false≢true h)
    test_class Kind.Inner (Proposal f n) h = absurd (false≢true h)
    test_class Kind.Reference (Proposal f n) h = absurd (false≢true h)
    test_class Kind.Attribute (Verdict f n j z) h = absurd (false≢true h)
    test_class Kind.Object (Verdict f n j z) h = absurd (false≢true h)
    test_class Kind.Inner (Verdict f n j z) h = absurd (false≢true h)
    test_class Kind.Reference (Verdict f n j z) h = absurd (false≢true h)
    test_class Kind.Attribute (Sighting f t j z u) h = absurd (false≢true h)
    test_class Kind.Object (Sighting f t j z u) h = absurd (false≢true h)
    test_class Kind.Inner (Sighting f t j z u) h = absurd (false≢true h)
    test_class Kind.Reference (Sighting f t j z u) h = absurd (false≢true h)

    pub list_is : (kind : Kind) → in_list kind v seen rows ≡ shown_at (scene_of groups i o rows) w (test_of kind)
    unfolding in_list shown_at
    list_is kind =
        ap (in_order goes_before) (filter_agree _ _ (of_these rows) (one_is kind) rows (all_of_these rows))
        ∙ sorted_class 0 refl _ (all_of_kept (of_class 0) _ (λ row h. test_class kind row.key (and_parts _ _ h).1) rows)
