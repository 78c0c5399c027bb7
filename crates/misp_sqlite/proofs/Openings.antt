-- What the opening of a table finds.
use Rattle.std.proofs.Common.{◌≡◌, ◌∙◌, ℕ, false, [], refl, sym, ap, subst, subst₂, inl, inr, IsTrue, Option, None, Ok}
use Rattle.sqlite_trees.specs.Tree.{Trees}
use Rattle.sqlite_schema.specs.declared.schema.Schema.{Schema}
use Rattle.sqlite_schema.specs.declared.command.Command.TheVariants.{CreateTable}
use Rattle.sqlite_catalog.specs.Change.{created, next_tree}
use Rattle.sqlite.specs.Clock.{timed}
use Rattle.sqlite.specs.Does.{Tally, Does, lacks_sequence}
use Rattle.sqlite.specs.Effect.{Database}
use Rattle.sqlite.specs.Listing.{understood}
use Rattle.sqlite.specs.State.{State, Executes, CommitsBy, MayCommit, Writes, mode_of, text_of}
use Rattle.sqlite.specs.declared.run.Mode.{Mode}
use Rattle.sqlite.proofs.Callers.{IsPlain, command_of, runs_as, statement_of}
use Rattle.misp_outside.specs.Held.{nothing_held}
use Rattle.misp_lists.specs.Order.{in_order}
use Rattle.misp_sqlite.specs.Kept.{kept, kept_schema, no_schema}
use Rattle.misp_sqlite.specs.Standing.{Begins, Finds, IsMade}
use Rattle.misp_sqlite.specs.Stored.{held_in}
use Rattle.misp_sqlite.specs.Texts.{create_text}
use Rattle.misp_sqlite.proofs.Meanings.{create_is, create_plain, create_whole}
use Rattle.misp_sqlite.proofs.Reports.{reports_none}
use Rattle.misp_sqlite.proofs.Upserts.{went, same_value}

-- what is made of an empty schema
made : (limit : Option ℕ) (mode : Mode) (db after : Database) (tally : Tally) → db.schema ≡ no_schema → Does limit mode [] db create_text None CreateTable (Ok (tally, after))
    → (after.schema ≡ kept_schema) × (after.trees 0 ≡ [])
made limit mode db after tally has h =
    let all = went h in
    let first = went all.1 in
    let it = first.1 in
    let both : Ok it.table ≡ Ok kept = sym it.defined ∙ create_is.1 in
    let same : it.table ≡ kept = cc in
    let schema : first.0.schema ≡ kept_schema = it.is ∙ ap (λ s. created s it.table) has ∙ ap (created no_schema) same in
    let plain : lacks_sequence first.0.schema ≡ false = ap lacks_sequence schema in
    let now : after ≡ first.0 = ap (λ (p : Tally × Database). p.1) (same_value all.2) ∙ same_value (rw plain at first.2) in
    (ap (λ (d : Database). d.schema) now ∙ schema, ap (λ (d : Database). d.trees 0) now ∙ subst (λ s. first.0.trees (next_tree s) ≡ []) has it.empty)

pub created_now : (old new : State) (count : ℕ) → old.now.schema ≡ no_schema → Executes create_text [] old new (Ok count) → IsMade old new
created_now old new count has h =
    let w = subst (λ t. Writes old new None CreateTable t [] count) create_whole (runs_as create_text [] old new no_schema has CreateTable create_is.0 create_plain count h) in
    made old.step_limit (mode_of old) old.now new.now w.tally has w.changed

commits_as : (s : State) (db : Trees) → s.now.schema ≡ no_schema → CommitsBy create_text [] s db → MayCommit s None CreateTable create_text [] db
unfolding CommitsBy
commits_as s db has h =
    let known = sym h.1.is ∙ ap (λ t. understood t create_text) has in
    let bare = subst IsPlain (sym known) create_plain in
    let may : MayCommit s h.0.returning h.0.command (text_of create_text h.0) (timed [] h.0.formats h.1.now) db = h.2 in
    let as_named = subst₂ (λ k t. MayCommit s None k t [] db) (ap command_of known ∙ create_is.0) (ap (statement_of create_text) known ∙ create_whole) (rw (bare.0, bare.1) at may) in
    as_named

-- what the statement commits has no rows
pub commits_none : (s : State) (db : Trees) → s.now.schema ≡ no_schema → CommitsBy create_text [] s db → held_in (db 0) ≡ nothing_held
unfolding held_in nothing_held in_order
commits_none s db has h = elim (commits_as s db has h) [
  | inl other ↦ elim other.0 [ inl bad ↦ absurd (cc) | inr bad ↦ absurd (let e = bad.2 in cc) ]
  | inr may ↦ let rows = (made s.step_limit (mode_of s) s.now may.2 may.1 has may.3).1 in rw (may.5, rows) refl
]

none_of_empty : held_in [] ≡ nothing_held
unfolding held_in nothing_held in_order
none_of_empty = refl

apart : (s : Schema) → s ≡ kept_schema → s ≡ no_schema → ⊥
apart s one other = let bad = ap (λ (t : Schema). t.tables) (sym one ∙ other) in cc

pub finds_table : (s : State) → s.now.schema ≡ kept_schema → Finds s s
finds_table s has = record { table = has; was = inl has; kept = λ _. refl; none = λ empty. absurd (apart s.now.schema has empty) }

pub finds_none : (old new : State) → old.now.schema ≡ no_schema → IsMade old new → Finds old new
finds_none old new empty is = record {
  table = is.0;
  was = inr empty;
  kept = λ has. absurd (apart old.now.schema has empty);
  none = λ _. ap held_in is.1 ∙ none_of_empty;
}

pub begins_table : (s : State) → s.now.schema ≡ kept_schema → Begins s s
begins_table s has = record { kept = λ _. refl; none = λ empty is_open. absurd (apart s.now.schema has empty) }

pub begins_none : (old new : State) → old.now.schema ≡ no_schema → (IsTrue new.is_open → IsMade old new) → Begins old new
begins_none old new empty is = record {
  kept = λ has. absurd (apart old.now.schema has empty);
  none = λ _ is_open. reports_none new is_open (ap held_in (is is_open).1 ∙ none_of_empty);
}
