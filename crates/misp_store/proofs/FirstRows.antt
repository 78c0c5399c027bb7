-- The first row of an owner, and what is known where the next row is another owner's.
use Rattle.std.proofs.Common.{◌≡◌, ℕ, ◌^◌, ◌<◌, ◌≤◌, ◌==◌, List, [], ◌∷◌, ◌++◌, Bool, true, false, inl, inr, refl, sym, ap, subst, ◌∙◌, ◌-◌, arith, drop, filter, get_or, length, take, take_all, Option, Some, None, IfSome, Ordering, Less, Equal, Greater, ◌&&◌, bytes_eq, cond, is_eq, is_ge, is_lt, eq-eqb, append-nil}
use Rattle.std.proofs.lemmas.Bool.{or_cases}
use Rattle.misp_lists.specs.Order.{ascend}
use Rattle.misp_lists.proofs.Bytes.{IsBytes}
use Rattle.misp_lists.proofs.Lists.{filter_never, find_passes}
use Rattle.misp_lists.proofs.Orders.{front_cmp, in_bytes, itself, less_is, less_past}
use Rattle.misp_lists.proofs.Prelude.{and_from, and_parts, false_from_ne_true, false≢true, is_eq-slice_cmp, ordering_then}
use Rattle.misp_outside.specs.Held.{Held, comes_before, is_from, next_row, raw_name}
use Rattle.misp_outside.specs.Reporting.{StaysHeld}
use Rattle.misp_outside.proofs.Reporting.{known_still}
use Rattle.misp_elem.specs.Prelude.{IsUid}
use Rattle.misp_elem.specs.Spelling.{key, name, uid}
use Rattle.misp_effects.specs.Prelude.{RawRow}
use Rattle.misp_model.proofs.Prelude.{EventId, Key, OrgId}
use Rattle.misp_store.specs.Seeking.{IsFirst, IsFirstHeld, rows_at, rows_of_keys, rows_of_statements}
use Rattle.misp_store.specs.Seen.{begin_with, front_number, kind_front, names_statement}
use Rattle.misp_store.proofs.Cuts.{found_too, from_found, none_found}
use Rattle.misp_store.proofs.Fronts.{number_of_uid, numbers_up, uid_bytes}
use Rattle.misp_store.proofs.LookedNames.{begun, statement_begins}
use Rattle.misp_store.proofs.LookParts.{kind_first, two_kinds}
use Rattle.misp_store.proofs.NamedRows.{by_names, ge_from_less, is_at, row_found}
use Rattle.misp_store.proofs.OwnersSought.{org}
use Rattle.misp_store.proofs.OwnerSteps.{as_great, no_less}
use Rattle.misp_store.proofs.Sought.{Ascends, first_key, joined, no_key}

-- ---- orders

no_less_from : (o : Ordering) → is_ge o ≡ true → is_lt o ≡ false
no_less_from Less h = absurd cc
no_less_from Equal h = refl
no_less_from Greater h = refl

ge_from : (o : Ordering) → is_lt o ≡ false → is_ge o ≡ true
ge_from Less h = absurd cc
ge_from Equal h = refl
ge_from Greater h = refl

-- what is not before bytes is not before those that they are not before
ge_on : (a b c : List ℕ) → is_ge (in_bytes a b) ≡ true → is_ge (in_bytes b c) ≡ true → is_ge (in_bytes a c) ≡ true
ge_on a b c g h =
    ge_from (in_bytes a c)
    (false_from_ne_true _ (λ lt. false≢true
    (sym (no_less_from (in_bytes a b) g) ∙ (sym (less_is a b) ∙ less_past a b c (less_is a c ∙ lt) (less_is b c ∙ no_less_from (in_bytes b c) h)))))

-- bytes with more are not before them
more_ge : (front rest : List ℕ) → is_ge (in_bytes (front ++ rest) front) ≡ true
more_ge front rest =
    let whole : in_bytes (front ++ rest) front ≡ ordering_then (in_bytes front front) (in_bytes rest []) =
    (λ i. in_bytes (front ++ rest) (sym (append-nil front) i)) ∙ front_cmp front front rest [] refl in
    ap is_ge (whole ∙ ap (λ t. ordering_then t (in_bytes rest [])) (itself front)) ∙ no_less rest

-- ---- the first row

module _ (e : EventId) (least m : ℕ) (fits : least < 2 ^ 128) (below : m < 2 ^ 128) (le : least ≤ m) where
  -- the next row from an owner on is the first of each owner that is not before that
  first_from : (raws : List RawRow) (f : RawRow) → ascend comes_before raws ≡ true → next_row e (uid (org least).0) raws ≡ Some f → IsFirst e (org m) f raws
  unfolding next_row
  first_from raws f up next = record {
    up = up;
    next = λ rest ge.
        found_too comes_before (λ raw. is_from e (uid (org least).0) (raw_name raw)) (λ raw. is_from e (uid (org m).0 ++ rest) (raw_name raw))
        (λ raw h.
        let two = and_parts (is_at e raw) (is_ge (in_bytes raw.name (uid (org m).0 ++ rest))) h in
        and_from _ _ two.0 (ge_on raw.name (uid (org m).0 ++ rest) (uid (org least).0) two.1 (as_great m least rest below fits le)))
        f (and_from _ _ (and_parts (is_at e f) _ (find_passes (λ raw. is_from e (uid (org least).0) (raw_name raw)) raws f next)).0 ge) raws next;
  }

  pub first_held : (held : Option Held) (next : Option RawRow) (f : RawRow) → IfSome held (λ told. next ≡ next_row e (uid (org least).0) told.rows) → Ascends held → next ≡ Some f → IsFirstHeld e (org m) f held
  first_held None next f found up some = tt
  first_held (Some told) next f found up some = first_from told.rows f up (sym found ∙ some)

module _ (e : EventId) (o : OrgId) where
  -- it is the first still of what stays
  pub first_still : (held after : Option Held) (first : RawRow) → StaysHeld held after → IsFirstHeld e o first held → IsFirstHeld e o first after
  first_still held after first same is = known_still held after (λ told. IsFirst e o first told.rows) same is

  -- it is the row of a key that it is not before, where it has its name
  first_added : (held : Option Held) (k : Key) (first : RawRow) (bytes : List ℕ) (start now : List RawRow) → IsFirstHeld e o first held → bytes ≡ name o k → is_ge (in_bytes first.name bytes) ≡ true
      → now ≡ start ++ filter (λ raw. bytes_eq raw.name bytes) (first ∷ []) → IfSome held (λ told. now ≡ start ++ rows_at e (name o k) told.rows)
  first_added None k first bytes start now is named ge added = tt
  first_added (Some told) k first bytes start now is named ge added =
      let great : is_ge (in_bytes first.name (name o k)) ≡ true = subst (λ b. is_ge (in_bytes first.name b) ≡ true) named ge in
      added ∙ ap (λ b. start ++ filter (λ raw. bytes_eq raw.name b) (first ∷ [])) named
      ∙ ap (λ t. start ++ t) (sym (row_found e (name o k) told.rows first is.up (is.next (key k) great)))

  first_named : (first : RawRow) (bytes : List ℕ) (order : Ordering) → order ≡ in_bytes first.name bytes → filter (λ raw. bytes_eq raw.name bytes) (first ∷ []) ≡ cond (is_eq order) (first ∷ []) []
  first_named first bytes order e = ap (λ b. cond b (first ∷ []) []) (sym (is_eq-slice_cmp first.name bytes) ∙ sym (ap is_eq e))

  pub first_same : (held : Option Held) (k : Key) (first : RawRow) (bytes : List ℕ) (start now : List RawRow) → IsFirstHeld e o first held → bytes ≡ name o k → Equal ≡ in_bytes first.name bytes
      → now ≡ start ++ first ∷ [] → IfSome held (λ told. now ≡ start ++ rows_at e (name o k) told.rows)
  first_same held k first bytes start now is named order added =
      first_added held k first bytes start now is named (sym (ap is_ge order)) (added ∙ ap (λ t. start ++ t) (sym (first_named first bytes Equal order)))

  -- nor is there such a row where it is after its name
  pub first_after : (held : Option Held) (k : Key) (first : RawRow) (bytes : List ℕ) (start : List RawRow) → IsFirstHeld e o first held → bytes ≡ name o k → Greater ≡ in_bytes first.name bytes
      → IfSome held (λ told. start ≡ start ++ rows_at e (name o k) told.rows)
  first_after held k first bytes start is named order =
      first_added held k first bytes start start is named (sym (ap is_ge order)) (sym (append-nil start) ∙ ap (λ t. start ++ t) (sym (first_named first bytes Greater order)))

  -- the keys after the first
  abbrev pub after_first : List Key → List Key
  after_first keys = take (length keys - 1) (drop 1 keys)

  -- the row of the first key, and then those of the others
  pub keys_joined : (held after : Option Held) (k : Key) (keys : List Key) (start mid now : List RawRow) → 1 ≤ length keys → k ≡ get_or keys 0 k → StaysHeld held after
      → IfSome held (λ told. mid ≡ start ++ rows_at e (name o k) told.rows) → IfSome after (λ told. now ≡ mid ++ rows_of_keys e o (after_first keys) told.rows)
      → IfSome after (λ told. now ≡ start ++ rows_of_keys e o keys told.rows)
  keys_joined held None k keys start mid now some here kept first next = tt
  keys_joined held (Some told) k keys start mid now some here kept first next =
      joined held (Some told) (rows_at e (name o k)) (rows_of_keys e o (after_first keys)) start mid now kept first next
      ∙ ap (λ t. start ++ t) (sym (first_key e o k (after_first keys) told.rows) ∙ ap (λ ks. rows_of_keys e o ks told.rows) (sym (all keys some here)))
    where
      all : (keys : List Key) → 1 ≤ length keys → k ≡ get_or keys 0 k → keys ≡ k ∷ after_first keys
      all [] some here = absurd (omega (arith, some))
      all (j ∷ keys) some here = (λ i. sym here i ∷ sym (take_all (length (j ∷ keys) - 1) keys (omega arith)) i)

  -- and of no keys there are none
  pub keys_absent : (held : Option Held) (keys : List Key) (start : List RawRow) → length keys < 1 → IfSome held (λ told. start ≡ start ++ rows_of_keys e o keys told.rows)
  keys_absent None keys start none = tt
  keys_absent (Some told) [] start none = sym (append-nil start) ∙ ap (λ t. start ++ t) (sym (no_key e o told.rows))
  keys_absent (Some told) (k ∷ keys) start none = absurd (omega (arith, none))

-- ---- an owner without statements

module _ (e : EventId) (o : OrgId) where
  abbrev from_statements : RawRow → Bool
  from_statements raw = is_from e (kind_front o e 2) (raw_name raw)

  abbrev of_statement : RawRow → Bool
  of_statement raw = is_at e raw && names_statement e o raw.name

  statement_ge : (x : List ℕ) → names_statement e o x ≡ true → is_ge (in_bytes x (kind_front o e 2)) ≡ true
  statement_ge x h = elim (or_cases (begin_with (kind_front o e 2) x) _ h) [
    | inl first ↦ let b = begun (kind_front o e 2) x first in ap (λ t. is_ge (in_bytes t (kind_front o e 2))) b.1 ∙ more_ge (kind_front o e 2) b.0
    | inr later ↦ ge_from_less x (kind_front o e 2) (kind_first e o 2 (kind_front o e 2) x (uid e.0, refl) (two_kinds e o x later))
  ]

  statement_from : (raw : RawRow) → of_statement raw ≡ true → from_statements raw ≡ true
  statement_from raw h = let two = and_parts (is_at e raw) (names_statement e o raw.name) h in and_from _ _ two.0 (statement_ge raw.name two.1)

  -- where there is no next row from its statements on, it has none
  pub statements_absent : (held : Option Held) (next : Option RawRow) → IfSome held (λ told. next ≡ next_row e (kind_front o e 2) told.rows) → next ≡ None → IfSome held (λ told. false ≡ false → rows_of_statements e o told.rows ≡ [])
  unfolding next_row rows_of_statements
  statements_absent None next found none = tt
  statements_absent (Some told) next found none = λ same. none_found comes_before from_statements of_statement statement_from told.rows (sym found ∙ none)

  module _ (is : IsUid o.0) where
    its_number : (x : List ℕ) → names_statement e o x ≡ true → front_number x ≡ o.0.0
    its_number x h = let b = statement_begins e o x h in ap front_number b.1 ∙ number_of_uid o.0 b.0 is

    none_after : (raws : List RawRow) (f : RawRow) → IsBytes f.name → ascend comes_before raws ≡ true → next_row e (kind_front o e 2) raws ≡ Some f → (front_number f.name ≡ o.0.0 → ⊥) → rows_of_statements e o raws ≡ []
    unfolding next_row rows_of_statements
    none_after raws f bytes up next other =
        let first : (is_at e f ≡ true) × (is_ge (in_bytes f.name (kind_front o e 2)) ≡ true) = and_parts _ _ (find_passes from_statements raws f next) in
        let number : front_number (uid o.0) ≡ o.0.0 = sym (ap front_number (append-nil (uid o.0))) ∙ number_of_uid o.0 [] is in
        let great : front_number (uid o.0) ≤ front_number f.name = numbers_up f.name (uid o.0) (uid_bytes o.0) (ge_on f.name (kind_front o e 2) (uid o.0) first.1 (more_ge (uid o.0) (2 ∷ uid e.0))) in
        from_found comes_before from_statements of_statement statement_from (λ raw. false) (λ x h. absurd (false≢true h)) f
        (λ h. absurd (other (its_number f.name (and_parts (is_at e f) _ h).1)))
        (λ b before h.
        let two = and_parts (is_at e b) (names_statement e o b.name) h in
        let later : front_number f.name ≤ front_number b.name = numbers_up b.name f.name bytes (ge_from_less b.name f.name (by_names e f b first.0 two.0 before)) in
        absurd (other (omega (arith, number, great, later, its_number b.name two.1))))
        raws up next
        ∙ filter_never (λ raw. false) (λ raw. refl) raws

    -- nor where that row is another owner's
    pub statements_past : (held : Option Held) (next : Option RawRow) (f : RawRow) (may : Bool) → IsBytes f.name → may ≡ (front_number f.name == o.0.0)
        → IfSome held (λ told. next ≡ next_row e (kind_front o e 2) told.rows) → Ascends held → next ≡ Some f → IfSome held (λ told. may ≡ false → rows_of_statements e o told.rows ≡ [])
    statements_past None next f may bytes same found up some = tt
    statements_past (Some told) next f may bytes same found up some =
        λ not. none_after told.rows f bytes up (sym found ∙ some) (λ number. false≢true (sym not ∙ (same ∙ eq-eqb (front_number f.name) o.0.0 number)))
