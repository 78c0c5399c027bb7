-- No two rows of the table have one name.
use Rattle.std.proofs.Common.{◌≡◌, ℤ, ℕ, ◌&&◌, Bool, true, false, not, List, [], ◌∷◌, refl, sym, ap, subst, ◌∙◌, Ordering, Less, Equal, Greater, is_eq}
use Rattle.std.specs.List.{AllByRecursion, list_any}
use Rattle.std.specs.Ordering.{match_ordering}
use Rattle.std.proofs.lemmas.Bool.{or_parts, and_from}
use Rattle.sqlite_value.specs.declared.value.Value.TheVariants.{Int, Blob}
use Rattle.sqlite_value.specs.declared.keys.Collation.TheVariants.{Binary}
use Rattle.sqlite_value.specs.Keys.{first_key}
use Rattle.sqlite_value.specs.Order.{Row, value_cmp}
use Rattle.sqlite_sql.specs.Ops.{is_null}
use Rattle.sqlite_trees.specs.Tree.{Trees, rowid, put_row}
use Rattle.sqlite_schema.specs.declared.schema.Constraint.TheVariants.{Unique}
use Rattle.sqlite_schema.specs.Rules.{Fits, agree, differ, equal, passes}
use Rattle.sqlite_rules.specs.Edit.{is_taken}
use Rattle.misp_sqlite.specs.Kept.{kept, kept_schema}
use Rattle.misp_sqlite.specs.Putting.{stored_row, IsNamed}
use Rattle.misp_sqlite.proofs.Values.{equal_itself, is_nothing}

-- what holds of each row once a row was put in holds of it, and of those that were there
pub split_put : (P : Row → Type 0) (new : Row) (rows : List Row) → is_taken rows new ≡ false → AllByRecursion P (put_row new rows) → P new × AllByRecursion P rows
split_put P new [] free all = (all.0, tt)
split_put P new (r ∷ rows) free all =
    let parts = or_parts (is_eq (value_cmp (rowid r) (rowid new))) (is_taken rows new) free in
    go (value_cmp (rowid r) (rowid new)) parts.0 (split_put P new rows parts.1) all
  where
    go : (o : Ordering) → is_eq o ≡ false → (AllByRecursion P (put_row new rows) → P new × AllByRecursion P rows)
        → AllByRecursion P (match_ordering o (r ∷ put_row new rows) (new ∷ rows) (new ∷ r ∷ rows)) → P new × (P r × AllByRecursion P rows)
    go Less other later all = let both = later all.1 in (both.0, (all.0, both.1))
    go Equal other later all = absurd cc
    go Greater other later all = all

none_of_any : (p : Row → Bool) (rows : List Row) → list_any p rows ≡ false → AllByRecursion (λ r. p r ≡ false) rows
none_of_any p [] h = tt
none_of_any p (r ∷ rows) h = let parts = or_parts (p r) (list_any p rows) h in (parts.0, none_of_any p rows parts.1)

module _ (event : List ℕ) (kind : ℤ) (name body : List ℕ) (id : ℤ) where
  abbrev new : Row
  new = stored_row id event kind name body

  abbrev agrees : Row → Bool
  agrees r = agree (record { digits = 0 }) (1 ∷ 2 ∷ 3 ∷ []) r (1 ∷ 2 ∷ 3 ∷ []) new

  named_agrees : (r : Row) → IsNamed event kind name r → agrees r ≡ true
  unfolding first_key
  named_agrees r named =
      rw (named.event_is, named.kind_is, named.name_is)
      (and_from (equal Binary (Blob event) (Blob event)) _ (equal_itself (Blob event) refl)
      (and_from (equal Binary (Int kind) (Int kind)) _ (equal_itself (Int kind) refl) (and_from (equal Binary (Blob name) (Blob name)) true (equal_itself (Blob name) refl) refl)))

  -- a row of this name beside the new one has no rowid
  each : (rows : List Row) → is_taken rows new ≡ false → AllByRecursion (λ r. (agrees r && differ (rowid r) (Int id)) ≡ false) rows
      → AllByRecursion (λ r. IsNamed event kind name r → is_null (rowid r) ≡ true) rows
  each [] free all = tt
  each (r ∷ rows) free all =
      let parts = or_parts (is_eq (value_cmp (rowid r) (Int id))) (is_taken rows new) free in
      ((λ named. is_nothing (rowid r) id parts.0 (ap (λ b. b && differ (rowid r) (Int id)) (sym (named_agrees r named)) ∙ all.0)), each rows parts.1 all.1)

  pub unique : (next : Trees) (rest : List Row) → next 0 ≡ put_row new rest → is_taken rest new ≡ false → Fits kept_schema next
      → AllByRecursion (λ r. IsNamed event kind name r → is_null (rowid r) ≡ true) rest
  unique next rest rows free fits =
      let passed = (fits.rules Unique (λ e. absurd cc)).0 in
      let new_passes = (split_put (λ r. passes Unique kept_schema next kept r ≡ true) new rest free (subst (AllByRecursion (λ r. passes Unique kept_schema next kept r ≡ true)) rows passed)).0 in
      let clear = subst (λ all. list_any (λ r. agrees r && differ (rowid r) (Int id)) all ≡ false) rows (none_clashes _ new_passes) in
      each rest free (split_put (λ r. (agrees r && differ (rowid r) (Int id)) ≡ false) new rest free (none_of_any (λ r. agrees r && differ (rowid r) (Int id)) (put_row new rest) clear)).1
    where
      none_clashes : (b : Bool) → (not b && true) ≡ true → b ≡ false
      none_clashes true h = absurd cc
      none_clashes false h = refl
