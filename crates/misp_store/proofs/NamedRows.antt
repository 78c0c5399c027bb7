-- Rows of one event by their names: one name, and the names of some keys of one owner.
use Rattle.std.proofs.Common.{◌≡◌, ℕ, ◌==◌, List, [], ◌∷◌, ◌++◌, Bool, true, false, refl, sym, ap, subst, ◌∙◌, filter, Some, None, ◌&&◌, ◌||◌, cond, bytes_eq, Less, Equal, nat_cmp, is_lt, is_ge, eqb-true}
use Rattle.misp_lists.specs.Order.{ascend}
use Rattle.misp_lists.proofs.Elements.{all_has, found}
use Rattle.misp_lists.proofs.Lists.{filter_never, find_passes}
use Rattle.misp_lists.proofs.Orders.{bytes_on, front_cmp, in_bytes, itself, less_of, same}
use Rattle.misp_lists.proofs.Prelude.{and_from, and_parts, bytes_eq-Decides, false≢true, list_all, nat_list_cmp_total, ordering_reverse, ordering_then}
use Rattle.misp_outside.specs.Held.{comes_before, is_from, next_row, raw_name}
use Rattle.misp_elem.specs.Spelling.{key, name, uid}
use Rattle.misp_effects.specs.Prelude.{RawRow}
use Rattle.misp_model.proofs.Prelude.{EventId, Key, OrgId}
use Rattle.misp_store.specs.Seeking.{are_in_order, key_before, rows_at, rows_of_keys}
use Rattle.misp_store.specs.Seen.{names_one}
use Rattle.misp_store.proofs.Cuts.{none_found, one_found, parts}

-- ---- orders

-- what is less is not as great
pub less_no_ge : (a b : List ℕ) → in_bytes a b ≡ Less → is_ge (in_bytes a b) ≡ true → ⊥
less_no_ge a b l g = false≢true (sym (ap is_ge l) ∙ g)

-- what is less the other way is as great
pub ge_from_less : (a b : List ℕ) → in_bytes b a ≡ Less → is_ge (in_bytes a b) ≡ true
ge_from_less a b l = ap is_ge (nat_list_cmp_total.antisymm a b ∙ ap ordering_reverse l)

-- nothing is less than itself
pub not_less : (a : List ℕ) → is_lt (in_bytes a a) ≡ true → ⊥
not_less a h = false≢true (sym (ap is_lt (itself a)) ∙ h)

-- the row is one of the event
abbrev pub is_at : EventId → RawRow → Bool
is_at e raw = raw.event.0.0 == e.0.0

-- in one event rows are in the order of their names
pub by_names : (e : EventId) (a b : RawRow) → is_at e a ≡ true → is_at e b ≡ true → comes_before a b ≡ true → in_bytes a.name b.name ≡ Less
unfolding comes_before
by_names e a b h k before =
    let one_event : a.event.0.0 ≡ b.event.0.0 = eqb-true _ _ h ∙ sym (eqb-true _ _ k) in
    let equal : nat_cmp a.event.0.0 b.event.0.0 ≡ Equal = ap (λ n. nat_cmp n b.event.0.0) one_event ∙ same b.event.0.0 in
    less_of _ (sym (ap (λ o. is_lt (ordering_then o (in_bytes a.name b.name))) equal) ∙ before)

-- ---- one name

module _ (e : EventId) (bytes : List ℕ) where
  abbrev has_name : RawRow → Bool
  has_name raw = is_at e raw && bytes_eq raw.name bytes

  from_name : (raw : RawRow) → has_name raw ≡ true → is_from e bytes (raw_name raw) ≡ true
  from_name raw h =
      let two = and_parts _ _ h in
      let is : raw.name ≡ bytes = (bytes_eq-Decides raw.name bytes).0 two.1 in
      and_from _ _ two.0 (ap is_ge (ap (λ t. in_bytes t bytes) is ∙ itself bytes))

  pub row_found : (raws : List RawRow) (f : RawRow) → ascend comes_before raws ≡ true → next_row e bytes raws ≡ Some f → rows_at e bytes raws ≡ filter (λ raw. bytes_eq raw.name bytes) (f ∷ [])
  unfolding next_row rows_at
  row_found raws f up next =
      let first = and_parts _ _ (find_passes (λ raw. is_from e bytes (raw_name raw)) raws f next) in
      one_found comes_before (λ raw. is_from e bytes (raw_name raw)) has_name from_name f
      (λ b before h. less_no_ge f.name bytes (subst (λ t. in_bytes f.name t ≡ Less) ((bytes_eq-Decides b.name bytes).0 (and_parts _ _ h).1) (by_names e f b first.0 (and_parts _ _ h).0 before)) first.1)
      raws up next
      ∙ ap (λ t. cond (t && bytes_eq f.name bytes) (f ∷ []) []) first.0

  pub row_missing : (raws : List RawRow) → next_row e bytes raws ≡ None → rows_at e bytes raws ≡ []
  unfolding next_row rows_at
  row_missing raws next = none_found comes_before (λ raw. is_from e bytes (raw_name raw)) has_name from_name raws next

-- ---- the names of some keys

-- names of one owner are in the order of their keys
names_by_keys : (o : OrgId) (j k : Key) → key_before j k ≡ true → is_lt (in_bytes (name o j) (name o k)) ≡ true
names_by_keys o j k h = ap is_lt (front_cmp (uid o.0) (uid o.0) (key j) (key k) refl ∙ ap (λ t. ordering_then t (in_bytes (key j) (key k))) (itself (uid o.0))) ∙ h

-- a name of later keys is behind that of this one
later_name : (o : OrgId) (k : Key) (keys : List Key) (bytes : List ℕ) → list_all (key_before k) keys ≡ true → names_one o keys bytes ≡ true → is_lt (in_bytes (name o k) bytes) ≡ true
later_name o k keys bytes all h =
    let one = found (λ j. bytes_eq bytes (name o j)) keys h in
    let is : bytes ≡ name o one.0 = (bytes_eq-Decides bytes (name o one.0)).0 one.1.1 in
    subst (λ t. is_lt (in_bytes (name o k) t) ≡ true) (sym is) (names_by_keys o k one.0 (all_has (key_before k) keys one.0 all one.1.0))

pub either : (a b c : Bool) → (a && (b || c)) ≡ ((a && b) || (a && c))
either true b c = refl
either false b c = refl

module _ (e : EventId) (o : OrgId) where
  -- the rows of keys that ascend are in the order of the rows
  pub rows_by_keys : (keys : List Key) (raws : List RawRow) → are_in_order keys ≡ true → ascend comes_before raws ≡ true
      → filter (λ raw. is_at e raw && names_one o keys raw.name) raws ≡ rows_of_keys e o keys raws
  unfolding rows_of_keys are_in_order rows_at ascend
  rows_by_keys [] raws in_order up = filter_never _ (λ raw. no_name (is_at e raw)) raws
    where
      no_name : (b : Bool) → (b && false) ≡ false
      no_name true = refl
      no_name false = refl
  rows_by_keys (k ∷ keys) raws in_order up =
      let two : (list_all (key_before k) keys ≡ true) × (ascend key_before keys ≡ true) = and_parts _ _ in_order in
      let first : RawRow → Bool = λ raw. is_at e raw && bytes_eq raw.name (name o k) in
      let later : RawRow → Bool = λ raw. is_at e raw && names_one o keys raw.name in
      ap (λ (p : RawRow → Bool). filter p raws) (λ i raw. either (is_at e raw) (bytes_eq raw.name (name o k)) (names_one o keys raw.name) i)
      ∙ parts comes_before first later
      (λ a b before h g. not_less (name o k)
      (bytes_on (name o k) a.name (name o k) (later_name o k keys a.name two.0 (and_parts _ _ h).1)
      (ap is_lt (subst (λ t. in_bytes a.name t ≡ Less) ((bytes_eq-Decides b.name (name o k)).0 (and_parts _ _ g).1) (by_names e a b (and_parts _ _ h).0 (and_parts _ _ g).0 before)))))
      (λ a g h. not_less (name o k) (subst (λ t. is_lt (in_bytes (name o k) t) ≡ true) ((bytes_eq-Decides a.name (name o k)).0 (and_parts _ _ g).1) (later_name o k keys a.name two.0 (and_parts _ _ h).1)))
      raws up
      ∙ ap (λ t. filter first raws ++ t) (rows_by_keys keys raws two.1 up)
