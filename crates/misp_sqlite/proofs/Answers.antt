-- What the selections answer: the rows that are wanted, in some order.
use Rattle.std.proofs.Common.{◌≡◌, ◌∙◌, ℕ, ℤ, List, [], ◌∷◌, map, cond, refl, sym, ap, subst, inl, inr, filter, IsPermutation}
use Rattle.std.specs.Prelude.{flat_map}
use Rattle.std.proofs.lemmas.List.Sorted.{IsPermutation-map}
use Rattle.std.proofs.lemmas.Bool.{cases_Bool}
use Rattle.sqlite_value.specs.declared.keys.Key.{Key}
use Rattle.sqlite_value.specs.declared.value.Value.TheVariants.{Null}
use Rattle.sqlite_value.specs.Order.{Row}
use Rattle.sqlite_trees.specs.Tree.{Trees}
use Rattle.sqlite_sql.specs.Term.{Term}
use Rattle.sqlite_sql.specs.Query.{Query, IsAnswer, Output, output}
use Rattle.sqlite.specs.Program.{overlay}
use Rattle.sqlite.specs.State.{State, Shown}
use Rattle.sqlite.proofs.Callers.{reads_as}
use Rattle.misp_sqlite.specs.Kept.{kept_schema, selection, selection_within, update_query}
use Rattle.misp_sqlite.specs.Stored.{is_wanted, shown_of, output_of, IsPaged, IsSelected}
use Rattle.misp_sqlite.proofs.Meanings.{Selects}

module _ (q : Query) (params : Row) where
  found : (rows : List Row) → flat_map (λ r. cond (is_wanted q params r) ((params ∷ r ∷ []) ∷ []) []) rows ≡ map (λ r. params ∷ r ∷ []) (filter (is_wanted q params) rows)
  found [] = refl
  found (r ∷ rows) = elim (cases_Bool (is_wanted q params r)) [
    | inl hit ↦ rw hit (ap (λ envs. (params ∷ r ∷ []) ∷ envs) (found rows))
    | inr miss ↦ rw miss (found rows)
  ]

  shown : (rows : List Row) → map (λ (o : Output). o.1) (map (output q) (map (λ r. params ∷ r ∷ []) rows)) ≡ map (shown_of q params) rows
  shown [] = refl
  shown (r ∷ rows) = ap (λ outs. shown_of q params r ∷ outs) (shown rows)

  outputs : (rows : List Row) → map (output q) (map (λ r. params ∷ r ∷ []) rows) ≡ map (output_of q params) rows
  outputs [] = refl
  outputs (r ∷ rows) = ap (λ outs. output_of q params r ∷ outs) (outputs rows)

-- an answer of a selection has the rows that are wanted, in its order, and as many as it asks for
pub paged : (most : ℤ) (terms columns : List Term) (order : List (Term × Key)) (db : Trees) (params : Row) (rows : List Row)
    → IsAnswer (selection_within most terms columns order) (overlay db []) params rows → IsPaged (selection_within most terms columns order) params (db 0) rows
paged most terms columns order db params rows a =
    let q = selection_within most terms columns order in
    let kept = a.distinct ∙ ap (map (output q)) (a.grouped ∙ found q params (db 0)) ∙ outputs q params (filter (is_wanted q params) (db 0)) in
    record { ordered = a.ordered; same = subst (λ all. IsPermutation all a.ordered) kept a.same; sorted = a.sorted; shown = a.shown }

-- an answer of a selection has the rows that are wanted, in some order
pub answered : (terms columns : List Term) (order : List (Term × Key)) (db : Trees) (params : Row) (rows : List Row)
    → IsAnswer (selection terms columns order) (overlay db []) params rows → IsSelected (selection terms columns order) params (db 0) rows
answered terms columns order db params rows a =
    let q = selection terms columns order in
    let kept = a.distinct ∙ ap (map (output q)) (a.grouped ∙ found q params (db 0)) in
    let same = IsPermutation-map (λ (o : Output). o.1) a.kept a.ordered a.same in
    subst (λ all. IsPermutation all rows) (ap (map (λ (o : Output). o.1)) kept ∙ shown q params (filter (is_wanted q params) (db 0)))
    (subst (IsPermutation (map (λ (o : Output). o.1) a.kept)) (sym a.shown) same)

-- what a text that is a selection answers
pub answers : (sql : List ℕ) (q : Query) (names : List (List ℕ)) → Selects sql q names
    → (params : Row) (old new : State) (rows : List Row) → old.now.schema ≡ kept_schema → Shown sql params old new rows → IsAnswer q (overlay old.now.trees []) params rows
answers sql q names is params old new rows has h = (reads_as sql params old new kept_schema has _ is.means is.plain is.unlisted rows h).answer Null

pub selects : (sql : List ℕ) (terms columns : List Term) (order : List (Term × Key)) (names : List (List ℕ)) → Selects sql (selection terms columns order) names
    → (params : Row) (old new : State) (rows : List Row) → old.now.schema ≡ kept_schema → Shown sql params old new rows
    → IsSelected (selection terms columns order) params (old.now.trees 0) rows
selects sql terms columns order names is params old new rows has h =
    answered terms columns order old.now.trees params rows (answers sql (selection terms columns order) names is params old new rows has h)

-- what an upsert reads of the rows that are there
pub update_selects : (db : Trees) (params : Row) (rows : List Row) → IsAnswer update_query (overlay db []) params rows → IsSelected update_query params (db 0) rows
update_selects db params rows a = answered update_query.filter update_query.project update_query.order db params rows a
