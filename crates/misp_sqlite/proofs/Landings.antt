-- After the upsert the row is among those that were there.
use Rattle.std.proofs.Common.{◌≡◌, ◌≤◌, ℤ, ℕ, suc, ◌&&◌, ◌||◌, Bool, true, false, not, cond, List, [], ◌∷◌, length, map, drop, filter, refl, sym, ap, subst, ◌∙◌, inl, inr, Some, None, IsPermutation, arith}
use Rattle.std.specs.List.{AllByRecursion}
use Rattle.std.specs.Float.{Float}
use Rattle.std.proofs.lemmas.Bool.{cases_Bool}
use Rattle.std.proofs.lemmas.List.Sorted.{length_permutation}
use Rattle.sqlite_value.specs.declared.value.Value.{Value}
use Rattle.sqlite_value.specs.declared.value.Value.TheVariants.{Null, Int, Real, Blob}
use Rattle.sqlite_value.specs.declared.keys.Collation.TheVariants.{Binary}
use Rattle.sqlite_value.specs.Keys.{first_key}
use Rattle.sqlite_value.specs.Order.{Row, column, value_cmp}
use Rattle.sqlite_sql.specs.Ops.{unary, is_null}
use Rattle.sqlite_sql.specs.Query.{IsAnswer}
use Rattle.sqlite_trees.specs.Tree.{Trees, rowid, has_rowid, put_row}
use Rattle.sqlite_schema.specs.declared.schema.Kind.TheVariants.{Integer}
use Rattle.sqlite_schema.specs.declared.schema.Keys.TheVariants.{Enforced}
use Rattle.sqlite_schema.specs.declared.schema.Constraint.TheVariants.{Datatype}
use Rattle.sqlite_schema.specs.Rules.{equal, are_typed, passes}
use Rattle.sqlite_rules.specs.Cast.{cast, cast_row}
use Rattle.sqlite_rules.specs.Calls.{ids_of}
use Rattle.sqlite_rules.specs.Edit.{Applies, edit_of, id_in, is_taken, next_rowid, without_all, numbered}
use Rattle.sqlite_rules.specs.Keys.{conflicts}
use Rattle.sqlite_rules.specs.Lists.{Has}
use Rattle.sqlite_rules.specs.declared.error.Rowids.TheVariants.{Given}
use Rattle.sqlite_rules.proofs.ListLemmas.{all_has}
use Rattle.sqlite_rules.proofs.TableLemmas.{int_is}
use Rattle.sqlite.specs.Effect.{Database, IsDatabase}
use Rattle.sqlite.specs.Program.{overlay}
use Rattle.sqlite_catalog.specs.Listing.{IsSound}
use Rattle.sqlite.proofs.Callers.{one_permutation}
use Rattle.misp_lists.proofs.Prelude.{and_parts, and_from}
use Rattle.misp_sqlite.specs.Kept.{kept, kept_schema, update_query}
use Rattle.misp_sqlite.specs.Putting.{stored_row, IsNamed, HasPut}
use Rattle.misp_sqlite.specs.Stored.{is_wanted, shown_of}
use Rattle.misp_sqlite.proofs.Answers.{update_selects}
use Rattle.misp_sqlite.proofs.Uniques.{unique}
use Rattle.misp_sqlite.proofs.Upserts.{params_of, new_row, given_row}
use Rattle.misp_sqlite.proofs.Values.{equal_parts, equal_through, equal_itself, is_the_blob, is_the_number, tied, tied_some}

-- ---- what the columns make of the values

either : (b : Bool) (x : Value) → cond b x x ≡ x
either true x = refl
either false x = refl

cast_null : cast Integer Null ≡ Null
unfolding unary
cast_null = either _ Null

cast_number : (n : ℤ) → cast Integer (Int n) ≡ Int n
unfolding unary
cast_number n = either _ (Int n)

-- ---- lists

all_more : {P Q : Row → Type 0} → ((r : Row) → P r → Q r) → (rows : List Row) → AllByRecursion P rows → AllByRecursion Q rows
all_more f [] all = tt
all_more f (r ∷ rows) all = (f r all.0, all_more f rows all.1)

all_kept : (rows : List Row) → filter (λ r. true) rows ≡ rows
all_kept [] = refl
all_kept (r ∷ rows) = ap (λ rs. r ∷ rs) (all_kept rows)

none_kept : (rows : List Row) → filter (λ r. false) rows ≡ []
none_kept [] = refl
none_kept (r ∷ rows) = none_kept rows

-- of the rows that pass one test, no more pass than of those that pass another that it implies
fewer : (p q : Row → Bool) → ((r : Row) → p r ≡ true → q r ≡ true) → (rows : List Row) → length (filter p rows) ≤ length (filter q rows)
fewer p q implies [] = omega arith
fewer p q implies (r ∷ rows) = elim (cases_Bool (p r)) [
  | inl hit ↦ rw (hit, implies r hit) (omega (arith, fewer p q implies rows))
  | inr miss ↦ rw miss (elim (cases_Bool (q r)) [
    | inl also ↦ rw also (omega (arith, fewer p q implies rows))
    | inr neither ↦ rw neither (fewer p q implies rows)
  ])
]

none_gone : (Q : Row → Type 0) (rows : List Row) → AllByRecursion (λ r. true ≡ false → Q r) rows
none_gone Q [] = tt
none_gone Q (r ∷ rows) = ((λ h. absurd cc), none_gone Q rows)

module _ (p : Row → Bool) (y : Row) where
  none_passes : (rows : List Row) → filter p rows ≡ [] → AllByRecursion (λ r. p r ≡ true → r ≡ y) rows
  none_passes [] h = tt
  none_passes (r ∷ rows) h = elim (cases_Bool (p r)) [
    | inl hit ↦ absurd (let bad : r ∷ filter p rows ≡ [] = rw hit at h in cc)
    | inr miss ↦ ((λ e. absurd (let bad = sym miss ∙ e in cc)), none_passes rows (rw miss at h))
  ]

  -- of the rows but one passes
  only_one : (rows : List Row) → filter p rows ≡ y ∷ [] → (p y ≡ true) × AllByRecursion (λ r. p r ≡ true → r ≡ y) rows
  only_one [] h = absurd cc
  only_one (r ∷ rows) h = elim (cases_Bool (p r)) [
    | inl hit ↦
        let both : r ∷ filter p rows ≡ y ∷ [] = rw hit at h in
        let same : r ≡ y = cc in
        let none : filter p rows ≡ [] = cc in
        (subst (λ x. p x ≡ true) same hit, ((λ e. same), none_passes rows none))
    | inr miss ↦ let more = only_one rows (rw miss at h) in (more.0, ((λ e. absurd (let bad = sym miss ∙ e in cc)), more.1))
  ]

has_kept : (p : Row → Bool) (x : Row) (rows : List Row) → Has rows x → p x ≡ true → Has (filter p rows) x
has_kept p x [] m h = m
has_kept p x (r ∷ rows) m h = go (p r) refl m (λ more. has_kept p x rows more h)
  where
    go : (b : Bool) → p r ≡ b → Has (r ∷ rows) x → (Has rows x → Has (filter p rows) x) → Has (cond b (r ∷ filter p rows) (filter p rows)) x
    go true e (inl same) later = inl same
    go true e (inr more) later = inr (later more)
    go false e (inl same) later = absurd (let bad = sym e ∙ ap p (sym same) ∙ h in cc)
    go false e (inr more) later = later more

alone : {X : Type 0} (f : Row → X) (rows : List Row) → length (map f rows) ≡ 1 → (r : Row) × (rows ≡ r ∷ [])
alone f [] h = absurd cc
alone f (r ∷ []) h = (r, refl)
alone f (r ∷ s ∷ rows) h = absurd cc

pub given_length : (before rows : List Row) → length (numbered Given before rows) ≡ length rows
given_length before [] = refl
given_length before (r ∷ rows) = ap (λ n. suc n) (given_length (put_row r before) rows)

module _ (event : List ℕ) (kind : ℤ) (name body : List ℕ) where
  cast_stored : (id : ℤ) → cast_row kept (stored_row id event kind name body) ≡ stored_row id event kind name body
  cast_stored id = rw (cast_number id, cast_number kind) refl

  abbrev pub source : Row
  source = Null ∷ Blob event ∷ Int kind ∷ Blob name ∷ Blob body ∷ []

  pub new_is : (db : Trees) → new_row source db ≡ stored_row (next_rowid (db 0)) event kind name body
  new_is db = rw (cast_null, cast_number kind) refl

  -- the row that is put in
  landed : (db next : Trees) (gone : List ℤ) (id : ℤ) (keep : Row → Bool) → without_all (db 0) gone ≡ filter keep (db 0)
      → Applies kept_schema Enforced db (record { table = kept; gone = gone; news = stored_row id event kind name body ∷ [] }) next
      → (AllByRecursion (λ r. IsNamed event kind name r → is_null (rowid r) ≡ true) (filter keep (db 0))
      → AllByRecursion (λ r. keep r ≡ false → IsNamed event kind name r) (db 0) × (length (filter (λ r. not (keep r)) (db 0)) ≤ 1))
      → HasPut event kind name body (db 0) (next 0)
  landed db next gone id keep rest it named =
      let new = stored_row id event kind name body in
      let rows : next 0 ≡ put_row new (filter keep (db 0)) = it.rows ∙ ap (put_row new) rest in
      let free : is_taken (filter keep (db 0)) new ≡ false = subst (λ left. is_taken left new ≡ false) rest (not_taken _ it.fresh) in
      let apart = unique event kind name body id next (filter keep (db 0)) rows free it.fits in
      let left = named apart in
      record { id = id; keep = keep; rows = rows; free = free; gone = left.0; once = left.1; apart = apart }
    where
      not_taken : (b : Bool) → (not b && true) ≡ true → b ≡ false
      not_taken true h = absurd cc
      not_taken false h = refl

  -- with no row of this name
  pub landed_new : (db next : Trees) (id : ℤ) → Applies kept_schema Enforced db (edit_of db kept [] Given 0 (stored_row id event kind name body ∷ [])) next → HasPut event kind name body (db 0) (next 0)
  landed_new db next id it =
      landed db next [] id (λ r. true) (sym (all_kept (db 0))) (subst (λ r. Applies kept_schema Enforced db (record { table = kept; gone = []; news = r ∷ [] }) next) (cast_stored id) it)
      (λ apart. (none_gone (IsNamed event kind name) (db 0), omega (arith, ap length (none_kept (db 0)))))

  -- ---- in place of one

  -- of a typed row the number is no floating one
  not_real : (r : Row) (x : Float) → are_typed None 0 kept.columns (drop 1 r) ≡ true → column r 2 ≡ Real x → ⊥
  not_real [] x typed h = cc
  not_real (a ∷ []) x typed h = cc
  not_real (a ∷ b ∷ []) x typed h = cc
  not_real (a ∷ b ∷ c ∷ more) x typed h =
      let whole = subst (λ v. are_typed None 0 kept.columns (b ∷ v ∷ more) ≡ true) h typed in
      let bad : false ≡ true = (and_parts _ false whole).1 in cc

  there_named : (id : ℤ) (r : Row) → passes Datatype kept_schema (λ t. []) kept r ≡ true → conflicts (Some (1 ∷ 2 ∷ 3 ∷ [])) kept_schema.indexes kept (stored_row id event kind name body) r ≡ true
      → IsNamed event kind name r
  unfolding first_key
  there_named id r typed h =
      let parts = and_parts (equal Binary (column r 1) (Blob event)) _ (without_false _ h) in
      let inner = and_parts (equal Binary (column r 2) (Int kind)) _ parts.1 in
      let last = and_parts (equal Binary (column r 3) (Blob name)) true inner.1 in
      record {
        event_is = is_the_blob (column r 1) event parts.0;
        kind_is = elim (is_the_number (column r 2) kind inner.0) [ inl same ↦ same | inr other ↦ absurd (not_real r other.0 (and_parts _ _ typed).0 other.1) ];
        name_is = is_the_blob (column r 3) name last.0;
      }
    where
      without_false : (b : Bool) → (b || false) ≡ true → b ≡ true
      without_false true h = refl
      without_false false h = h

  not_twice : (b : Bool) → not (not b) ≡ true → b ≡ true
  not_twice true h = refl
  not_twice false h = h

  tied_apart : (b : Bool) → not b ≡ false → b ≡ true
  tied_apart true h = refl
  tied_apart false h = absurd cc

  news_are : (v : Value) (id : ℤ) (r : Row) → cast Integer v ≡ Int id → IsNamed event kind name r
      → cast_row kept (v ∷ column r 1 ∷ column r 2 ∷ column r 3 ∷ Blob body ∷ []) ≡ stored_row id event kind name body
  news_are v id r numbered named = rw (numbered, named.event_is, named.kind_is, named.name_is, cast_number kind) refl

  -- in place of the row that has the name, and whose rowid no other has
  over_one : (db next : Trees) (there : Row) → Has (db 0) there → is_null (rowid there) ≡ false → IsNamed event kind name there
      → AllByRecursion (λ r. equal Binary (rowid r) (rowid there) ≡ true → r ≡ there) (db 0) → length (filter (λ r. equal Binary (rowid r) (rowid there)) (db 0)) ≤ 1
      → Applies kept_schema Enforced db (record { table = kept; gone = id_in (rowid there) ∷ []; news = cast_row kept (rowid there ∷ column there 1 ∷ column there 2 ∷ column there 3 ∷ Blob body ∷ []) ∷ [] }) next
      → HasPut event kind name body (db 0) (next 0)
  over_one db next there within some named once few it =
      let at = id_in (rowid there) in
      let keep = λ (r : Row). not (has_rowid at r) in
      let id = id_in (cast Integer (rowid there)) in
      let key = int_is (cast Integer (rowid there)) (and_parts _ true it.keyed).0 in
      let news = subst (λ r. Applies kept_schema Enforced db (record { table = kept; gone = at ∷ []; news = r ∷ [] }) next) (news_are (rowid there) id there key named) it in
      landed db next (at ∷ []) id keep refl news (λ apart.
      let taken : has_rowid at there ≡ true = elim (cases_Bool (has_rowid at there)) [
        | inl hit ↦ hit
        | inr miss ↦
            let null = all_has (λ r. IsNamed event kind name r → is_null (rowid r) ≡ true) (filter keep (db 0)) there apart (has_kept keep there (db 0) within (ap not miss)) named in
            absurd (let bad = sym some ∙ null in cc)
      ] in
      let tie = tied (value_cmp (rowid there) (Int at)) taken in
      let equals = λ (r : Row) (hit : has_rowid at r ≡ true).
      let also = tied (value_cmp (rowid r) (Int at)) hit in
      equal_through (rowid r) (rowid there) (Int at) (tied_some (rowid r) at also) some also tie in (
        all_more (λ r same gone. subst (IsNamed event kind name) (sym (same (equals r (tied_apart _ gone)))) named) (db 0) once,
        omega (arith, few, fewer (λ r. not (keep r)) (λ r. equal Binary (rowid r) (rowid there)) (λ r gone. equals r (not_twice _ gone)) (db 0)),
      ))

  found_one : (db : Trees) (params : Row) (rows : List Row) → IsAnswer update_query (overlay db []) params rows → length rows ≡ 1
      → (r : Row) × (rows ≡ shown_of update_query params r ∷ []) × (is_wanted update_query params r ≡ true) × AllByRecursion (λ s. is_wanted update_query params s ≡ true → s ≡ r) (db 0)
      × (length (filter (is_wanted update_query params) (db 0)) ≡ 1)
  found_one db params rows answer single =
      let wanted = is_wanted update_query params in
      let show = shown_of update_query params in
      let selected = update_selects db params rows answer in
      let got = alone show (filter wanted (db 0)) (sym (length_permutation _ rows selected) ∙ single) in
      let once = only_one wanted got.0 (db 0) got.1 in
      (got.0, one_permutation (show got.0) rows (subst (λ all. IsPermutation (map show all) rows) got.1 selected), once.0, once.1, ap length got.1)

  -- in place of the row that has the name
  pub landed_over : (db : Database) (next : Trees) (id : ℤ) (there : Row) (rows : List Row) → db.schema ≡ kept_schema → IsDatabase db
      → (r : Row) × Has (db.trees 0) r × (conflicts (Some (1 ∷ 2 ∷ 3 ∷ [])) kept_schema.indexes kept (stored_row id event kind name body) r ≡ true) × (there ≡ rowid r ∷ [])
      → IsAnswer update_query (overlay db.trees []) (given_row (params_of event kind name body) (stored_row id event kind name body) there) rows → length rows ≡ 1
      → Applies kept_schema Enforced db.trees (edit_of db.trees kept (ids_of rows) Given 1 rows) next → HasPut event kind name body (db.trees 0) (next 0)
  landed_over db next id there rows has sound met answer single it =
      let obeys = ((subst (λ s. IsSound s db.trees) has sound).obeys.rules Datatype).0 in
      let named = there_named id met.0 (all_has (λ r. passes Datatype kept_schema db.trees kept r ≡ true) (db.trees 0) met.0 obeys met.1) met.2 in
      let found = found_one db.trees (given_row (params_of event kind name body) (stored_row id event kind name body) there) rows answer single in
      go met.0 found.0 met.1 named (ap rowid met.3) found.1 found.2 found.3 found.4
    where
      params : Row
      params = given_row (params_of event kind name body) (stored_row id event kind name body) there

      go : (r s : Row) → Has (db.trees 0) r → IsNamed event kind name r → rowid there ≡ rowid r → rows ≡ shown_of update_query params s ∷ [] → is_wanted update_query params s ≡ true
          → AllByRecursion (λ t. is_wanted update_query params t ≡ true → t ≡ s) (db.trees 0)
          → length (filter (is_wanted update_query params) (db.trees 0)) ≡ 1 → HasPut event kind name body (db.trees 0) (next 0)
      go r s within named at rows_are wanted once single_row =
          let first : equal Binary (rowid s) (rowid r) ≡ true = subst (λ v. equal Binary (rowid s) v ≡ true) at (and_parts (equal Binary (rowid s) (rowid there)) true wanted).0 in
          let some = (equal_parts (rowid s) (rowid r) first).1 in
          let wants : (t : Row) → equal Binary (rowid t) (rowid r) ≡ true → is_wanted update_query params t ≡ true =
          λ t e. and_from (equal Binary (rowid t) (rowid there)) true (subst (λ v. equal Binary (rowid t) v ≡ true) (sym at) e) refl in
          let same : r ≡ s = all_has (λ t. is_wanted update_query params t ≡ true → t ≡ s) (db.trees 0) r once within (wants r (equal_itself (rowid r) some)) in
          let rows_r : rows ≡ shown_of update_query params r ∷ [] = rows_are ∙ ap (λ t. shown_of update_query params t ∷ []) (sym same) in
          over_one db.trees next r within some named (all_more (λ t is e. is (wants t e) ∙ sym same) (db.trees 0) once)
          (omega (arith, single_row, fewer (λ t. equal Binary (rowid t) (rowid r)) (is_wanted update_query params) wants (db.trees 0)))
          (subst (λ all. Applies kept_schema Enforced db.trees (edit_of db.trees kept (ids_of all) Given 1 all) next) rows_r it)
