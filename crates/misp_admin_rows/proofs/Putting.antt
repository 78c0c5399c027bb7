-- Rows of an administration that are put: they ascend, and of each kind the rest stays as it is.
use Rattle.std.proofs.Common.{◌≡◌, ◌==◌, ◌||◌, ◌&&◌, Bool, true, false, cond, not, List, [], ◌∷◌, filter, Option, None, is_some, refl, sym, ap, ◌∙◌, inl, inr, nat_cmp, is_lt, is_eq, eqb-true}
use Rattle.std.proofs.lemmas.Bool.{not-true, true_from_ne_false}
use Rattle.misp_lists.proofs.Lists.{all_implies, all_of_kept, filter_all, filter_cut}
use Rattle.misp_lists.proofs.Ordering.{Ordered, ascend_kept, put_cut, tests_put}
use Rattle.misp_lists.proofs.Orders.{is_eq-then, less_from, numbers_equal}
use Rattle.misp_lists.proofs.Prelude.{AllByRecursion, and_from, and_parts, ascend, cases_Bool, false_from_ne_true, false≢true, is_eq-slice_cmp, less_of, list_all, put, slice_cmp}
use Rattle.misp_lists.proofs.Sorting.{weak}
use Rattle.misp_outside.specs.declared.row.AdminRow.{AdminRow}
use Rattle.misp_outside.specs.Held.{admin_before, admin_name, put_admin, same_admin}
use Rattle.misp_outside.proofs.Names.{order, total}
use Rattle.misp_admins.specs.declared.item.Item.{Item}
use Rattle.misp_admin_rows.specs.Rows.{are_apart, is_item, is_item_kind, item_in, item_rows, key_kind, link_kind, org_kind, other_rows}

-- ---- the order of rows

before_on : (a b c : AdminRow) → admin_before a b ≡ true → admin_before b c ≡ true → admin_before a c ≡ true
unfolding admin_before
before_on a b c h k = ap is_lt ((total admin_name).trans a b c (less_of _ h) (less_of _ k))

before_past : (w x y : AdminRow) → admin_before w y ≡ true → admin_before x y ≡ false → admin_before w x ≡ true
unfolding admin_before
before_past w x y h k = true_from_ne_false _ (λ e. false≢true (sym ((weak (order admin_name) (total admin_name)).chain w x y e k) ∙ h))

-- rows have one name where the order tells no difference
same_by_order : (a b : AdminRow) → is_eq (order admin_name a b) ≡ same_admin a b
unfolding same_admin
same_by_order a b =
    is_eq-then (nat_cmp a.kind b.kind) (slice_cmp nat_cmp a.name b.name)
    ∙ ap (λ t. t && is_eq (slice_cmp nat_cmp a.name b.name)) (numbers_equal a.kind b.kind) ∙ ap (λ t. (a.kind == b.kind) && t) (is_eq-slice_cmp a.name b.name)

-- of two rows of other names, one is before
after : (x y : AdminRow) → not (same_admin y x) ≡ true → admin_before x y ≡ false → admin_before y x ≡ true
unfolding admin_before
after x y other later =
    let apart : is_eq (order admin_name y x) ≡ false = same_by_order y x ∙ not-true _ other in
    ap is_lt (less_from (order admin_name y x) apart (ap is_lt (sym ((total admin_name).antisymm x y)) ∙ later))

front : (w x : AdminRow) → admin_before w x ≡ true → (rows : List AdminRow) → list_all (admin_before x) rows ≡ true → AllByRecursion (λ z. admin_before w z ≡ true) rows
front w x h [] all = tt
front w x h (z ∷ zs) all = let parts = and_parts _ _ all in (before_on w x z h parts.0, front w x h zs parts.1)

ordered : (rows : List AdminRow) → ascend admin_before rows ≡ true → Ordered admin_before before_on before_past rows
unfolding ascend
ordered [] up = tt
ordered (x ∷ xs) up = let parts = and_parts _ _ up in ((λ w h. front w x h xs parts.0), ordered xs parts.1)

ascend_put : (x : AdminRow) (rows : List AdminRow) → list_all (λ held. not (same_admin held x)) rows ≡ true → ascend admin_before rows ≡ true → ascend admin_before (put admin_before x rows) ≡ true
unfolding ascend put
ascend_put x [] others up = refl
ascend_put x (y ∷ ys) others up =
    let apart = and_parts _ _ others in
    let parts = and_parts _ _ up in
    elim (cases_Bool (admin_before x y)) [
      | inl first ↦ rw first (and_from _ _ (and_from _ _ first (all_implies (admin_before y) (admin_before x) (λ z h. before_on x y z first h) ys parts.0)) up)
      | inr later ↦ rw later (and_from _ _ (tests_put admin_before (admin_before y) x ys (after x y apart.0 later) parts.0) (ascend_put x ys apart.1 parts.1))
    ]

module _ (row : AdminRow) (rows : List AdminRow) (up : ascend admin_before rows ≡ true) where
  -- of another kind or name than the row that is put
  abbrev other : AdminRow → Bool
  other held = not (same_admin held row)

  -- what is put stands in the order
  pub admin_ascends : ascend admin_before (put_admin row rows) ≡ true
  unfolding put_admin
  admin_ascends = ascend_put row (filter other rows) (all_of_kept other other (λ held h. h) rows) (ascend_kept admin_before other rows up)

  module _ (q : AdminRow → Bool) where
    cut : filter q (put_admin row rows) ≡ cond (q row) (put admin_before row (filter other (filter q rows))) (filter other (filter q rows))
    unfolding put_admin
    cut =
        put_cut admin_before before_on before_past q row (filter other rows) (ordered _ (ascend_kept admin_before other rows up))
        ∙ ap (λ zs. cond (q row) (put admin_before row zs) zs) (sym (filter_cut other other q (λ x h. refl) rows))

    -- a row of these is put among these
    pub put_among : q row ≡ true → filter q (put_admin row rows) ≡ put_admin row (filter q rows)
    unfolding put_admin
    put_among is = cut ∙ ap (λ b. cond b (put_admin row (filter q rows)) (filter other (filter q rows))) is

    -- and beside those of other kinds and names
    pub put_beside : q row ≡ false → list_all other (filter q rows) ≡ true → filter q (put_admin row rows) ≡ filter q rows
    put_beside isnt apart =
        cut ∙ ap (λ b. cond b (put admin_before row (filter other (filter q rows))) (filter other (filter q rows))) isnt ∙ filter_all other (filter q rows) apart

-- ---- kinds

by_kind : (a b c : Bool) (x y z : Option Item) → is_some (cond a x (cond b y (cond c z None))) ≡ true → (a || b || c) ≡ true
by_kind true b c x y z h = refl
by_kind false true c x y z h = refl
by_kind false false true x y z h = refl
by_kind false false false x y z h = absurd (false≢true h)

-- the row of an item has one of their kinds
kind_of : (row : AdminRow) → is_item row ≡ true → is_item_kind row.kind ≡ true
unfolding item_in
kind_of row is = by_kind (row.kind == org_kind) (row.kind == key_kind) (row.kind == link_kind) _ _ _ is

not_item : (row : AdminRow) → is_item_kind row.kind ≡ false → is_item row ≡ false
not_item row other = false_from_ne_true _ (λ is. false≢true (sym other ∙ kind_of row is))

-- rows of one name have one kind
one_kind : (held row : AdminRow) → same_admin held row ≡ true → held.kind ≡ row.kind
unfolding same_admin
one_kind held row e = eqb-true _ _ (and_parts _ _ e).0

kinds_apart : (held row : AdminRow) → is_item_kind held.kind ≡ false → is_item_kind row.kind ≡ true → same_admin held row ≡ false
kinds_apart held row h k = false_from_ne_true _ (λ e. false≢true (sym h ∙ ap is_item_kind (one_kind held row e) ∙ k))

module _ (row : AdminRow) (rows : List AdminRow) (up : ascend admin_before rows ≡ true) where
  -- an item is put among the items
  pub item_among : is_item row ≡ true → item_rows (put_admin row rows) ≡ put_admin row (item_rows rows)
  unfolding item_rows
  item_among is = put_among row rows up is_item is

  -- and another row among the others
  pub other_among : is_item row ≡ false → other_rows (put_admin row rows) ≡ put_admin row (other_rows rows)
  unfolding other_rows
  other_among isnt = put_among row rows up (λ held. not (is_item held)) (ap not isnt)

  -- an item takes the place of no other row, where the others are of other kinds
  pub item_beside : is_item row ≡ true → are_apart rows ≡ true → other_rows (put_admin row rows) ≡ other_rows rows
  unfolding other_rows
  item_beside is apart =
      put_beside row rows up (λ held. not (is_item held)) (ap not is)
      (all_implies (λ held. not (is_item_kind held.kind)) (λ held. not (same_admin held row)) (λ held h. ap not (kinds_apart held row (not-true _ h) (kind_of row is))) (other_rows rows) apart)

  -- and a row of another kind that of no item
  pub other_beside : is_item_kind row.kind ≡ false → item_rows (put_admin row rows) ≡ item_rows rows
  unfolding item_rows
  other_beside isnt =
      put_beside row rows up is_item (not_item row isnt)
      (all_of_kept (λ held. not (same_admin held row)) is_item (λ held is. ap not (apart_kinds held is)) rows)
    where
      apart_kinds : (held : AdminRow) → is_item held ≡ true → same_admin held row ≡ false
      apart_kinds held is = false_from_ne_true _ (λ e. false≢true (sym isnt ∙ ap is_item_kind (sym (one_kind held row e)) ∙ kind_of held is))
