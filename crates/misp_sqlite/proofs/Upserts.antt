-- What the upsert does.
use Rattle.std.proofs.Common.{◌≡◌, ◌∙◌, ℕ, ℤ, List, [], ◌∷◌, ◌++◌, refl, sym, ap, subst, Option, Some, None, Result, Ok, Err, inl, inr, length, unwrap_or}
use Rattle.std.specs.Prelude.{◌⊎◌}
use Rattle.sqlite.specs.declared.types.Value.TheVariants.{Null, Int, Blob as Bytes}
use Rattle.sqlite.specs.Order.{Row}
use Rattle.sqlite.specs.Tree.{Trees}
use Rattle.sqlite.specs.Edit.{Edit, edit_of}
use Rattle.sqlite_rules.specs.Edit.{Applies}
use Rattle.sqlite.specs.Rowids.TheVariants.{Chosen, Given}
use Rattle.sqlite.specs.Effect.{Database, IsDatabase}
use Rattle.sqlite.specs.Rows.{Written, Task}
use Rattle.sqlite.specs.Does.{Tally, Does}
use Rattle.sqlite.specs.State.{State, mode_of, Executes}
use Rattle.sqlite.proofs.Callers.{runs_as, one_step, statement_of}
use Rattle.sqlite.specs.Listing.{understood}
use Rattle.sqlite_schema.specs.declared.command.Upsert.{Upsert}
use Rattle.sqlite_schema.specs.declared.command.Conflict.TheVariants.{Abort}
use Rattle.sqlite_schema.specs.declared.schema.Keys.TheVariants.{Enforced}
use Rattle.sqlite.specs.Rows.{TriesEach, Upserts, Meets, Judged, Puts, Clears, joined, nothing, shown, count_of}
use Rattle.sqlite.specs.Query.{IsAnswer}
use Rattle.sqlite.specs.Program.{overlay}
use Rattle.sqlite.specs.Tree.{rowid}
use Rattle.sqlite_rules.specs.Calls.{ids_of}
use Rattle.sqlite_rules.specs.declared.error.Refusal.{Refusal}
use Rattle.sqlite.specs.Edit.{with_rowid}
use Rattle.sqlite.specs.Cast.{cast_row}
use Rattle.sqlite_rules.specs.Keys.{AreConflicts}
use Rattle.misp_sqlite.specs.Kept.{kept, kept_schema, update_query, put_command}
use Rattle.misp_sqlite.specs.Texts.{put_text}
use Rattle.misp_sqlite.proofs.Meanings.{put_is, put_plain}

pub went : {B E R : Type 0} {b : B} {Stops : E → Type 0} → ((stop : E) × Stops stop × (Ok b ≡ Err stop)) ⊎ R → R
went (inl stopped) = absurd (let e = stopped.2 in cc)
went (inr on) = on

pub same_value : {B E : Type 0} {a b : B} → ◌≡◌ {A = Result B E} (Ok a) (Ok b) → a ≡ b
same_value e = cc

abbrev pub params_of : List ℕ → ℤ → List ℕ → List ℕ → Row
params_of event kind name bytes = Bytes event ∷ Int kind ∷ Bytes name ∷ Bytes bytes ∷ []

abbrev pub task : Option ℕ → Row → Task
task limit params = record { limit = limit; keys = Enforced; schema = kept_schema; table = kept; params = params }

abbrev pub clauses : List Upsert
clauses = (record { target = Some (1 ∷ 2 ∷ 3 ∷ []); update = Some (record { lets = []; body = update_query }) }) ∷ []

abbrev pub clause : Upsert
clause = record { target = Some (1 ∷ 2 ∷ 3 ∷ []); update = Some (record { lets = []; body = update_query }) }

abbrev pub new_row : Row → Trees → Row
new_row source db = with_rowid Chosen (db 0) (cast_row kept source)

judged : (limit : Option ℕ) (params new : Row) (db : Trees) (verdict : Option Refusal) (one : Written)
    → Judged (task limit params) Abort clauses new db verdict (Ok one) → Upserts (task limit params) Abort new db clauses (Ok one)
judged limit params new db None one h = h
judged limit params new db (Some why) one h = absurd (let e = h in cc)

-- with no row of this key, the new one is put in
pub put_in : (limit : Option ℕ) (params new : Row) (db : Trees) (one : Written) → Upserts (task limit params) Abort new db [] (Ok one)
    → Applies kept_schema Enforced db (edit_of db kept [] Given 0 (new ∷ [])) one.trees
put_in limit params new db one h = cleared h.0 h.2
  where
    edit : Edit
    edit = edit_of db kept [] Given 0 (new ∷ [])

    puts : Puts (task limit params) new db (Ok one) → Applies kept_schema Enforced db edit one.trees
    puts p =
        let done = went p in
        subst (λ (it : Written). Applies kept_schema Enforced db edit it.trees) (sym (same_value done.2)) (one_step kept_schema Enforced db done.0 edit refl done.1)

    cleared : (found : List Row) → Clears (task limit params) Abort new db found (Ok one) → Applies kept_schema Enforced db edit one.trees
    cleared [] p = puts p
    cleared (x ∷ more) p = puts p

-- one row is put in, or meets one that is there
pub one_row : (limit : Option ℕ) (params source : Row) (top : ℤ) (db : Trees) (out : Written × ℤ)
    → TriesEach (task limit params) Abort clauses (source ∷ []) top (nothing db) (Ok out)
    → (one : Written) × (out.0 ≡ joined (nothing db) one) × (found : List Row) × AreConflicts (Some (1 ∷ 2 ∷ 3 ∷ [])) kept_schema.indexes kept (db 0) (new_row source db) found
    × Meets (task limit params) (Upserts (task limit params) Abort (new_row source db) db []) (new_row source db) db clause found (Ok one)
one_row limit params source top db out h =
    let first = went h in
    let last = ap (λ (p : Written × ℤ). p.0) (same_value first.2) in
    let new = new_row source db in
    elim first.1 [
      | inl bad ↦ absurd (let e = bad.1 in cc)
      | inr good ↦ let met = judged limit params new db good.0 first.0 good.2 in (first.0, last, met.0, met.1, met.2)
    ]

-- what the update of a row that is there reads: the parameters, its rowid, and the row that is not put in
abbrev pub given_row : Row → Row → Row → Row
given_row params new there = params ++ rowid there ∷ shown kept new

-- a row of this key that is there is written again
pub replaced : (limit : Option ℕ) (params new : Row) (db : Trees) (there : Row) (more : List Row) (one : Written)
    → Meets (task limit params) (Upserts (task limit params) Abort new db []) new db clause (there ∷ more) (Ok one)
    → (rows : List Row) × IsAnswer update_query (overlay db []) (given_row params new there) rows
    × Applies kept_schema Enforced db (edit_of db kept (ids_of rows) Given 1 rows) one.trees × (one.rows ≡ (edit_of db kept (ids_of rows) Given 1 rows).news)
replaced limit params new db there more one h =
    let asked = went h in
    let edit = edit_of db kept (ids_of asked.0) Given 1 asked.0 in
    let done = went asked.2 in
    let same = same_value done.2 in
    (asked.0, asked.1.answer Null, subst (λ (it : Written). Applies kept_schema Enforced db edit it.trees) (sym same) (one_step kept_schema Enforced db done.0 edit refl done.1), ap (λ (it : Written). it.rows) same)

-- the rows after the upsert
pub upserts : (old new : State) (event name bytes : List ℕ) (kind : ℤ) (count : ℕ) → old.now.schema ≡ kept_schema
    → Executes put_text (params_of event kind name bytes) old new (Ok count)
    → let row = Null ∷ Bytes event ∷ Int kind ∷ Bytes name ∷ Bytes bytes ∷ [] in
    (new.now.schema ≡ kept_schema) × IsDatabase new.now × (one : Written) × (new.now.trees 0 ≡ one.trees 0) × (count ≡ length one.rows) × (found : List Row)
    × AreConflicts (Some (1 ∷ 2 ∷ 3 ∷ [])) kept_schema.indexes kept (old.now.trees 0) (new_row row old.now.trees) found
    × Meets (task old.step_limit (params_of event kind name bytes)) (Upserts (task old.step_limit (params_of event kind name bytes)) Abort (new_row row old.now.trees) old.now.trees []) (new_row row old.now.trees) old.now.trees clause found (Ok one)
upserts old new event name bytes kind count has h =
    let params = params_of event kind name bytes in
    let w = runs_as put_text params old new kept_schema has put_command put_is put_plain count h in
    let text = statement_of put_text (understood kept_schema put_text) in
    let done = went (subst (λ s. Does old.step_limit (mode_of old) params (record old.now { schema = s }) text None put_command (Ok (w.tally, new.now))) has w.changed) in
    let both = same_value (went (went done.2).2).2 in
    let now = ap (λ (p : Tally × Database). p.1) both in
    let given = went done.1 in
    let counter = went given.2 in
    let tries = went counter.2 in
    let counts = went tries.2 in
    let top = count_of counter.0 in
    let each = subst (λ all. TriesEach (task old.step_limit params) Abort clauses all top (nothing old.now.trees) (Ok tries.0)) given.1.1 tries.1 in
    let one = one_row old.step_limit params (Null ∷ Bytes event ∷ Int kind ∷ Bytes name ∷ Bytes bytes ∷ []) top old.now.trees tries.0 each in
    let trees : new.now.trees 0 ≡ tries.0.0.trees 0 =
    ap (λ (d : Database). d.trees 0) now ∙ ap (λ (it : Written). it.trees 0) (same_value counts.2) ∙ ap (λ (t : Trees). t 0) (same_value counts.1) in
    let rows = ap (λ (it : Written). length it.rows) (same_value counts.2) ∙ ap (λ (it : Written). length it.rows) one.1 in
    let counted = w.counted ∙ ap (λ (p : Tally × Database). unwrap_or p.0.rows 0) both ∙ rows in
    (ap (λ (d : Database). d.schema) now, w.sound, one.0, trees ∙ ap (λ (it : Written). it.trees 0) one.1, counted, one.2, one.3, one.4)
