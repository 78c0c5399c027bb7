-- An upsert that changed one row has put it.
use Rattle.std.proofs.Common.{◌≡◌, ◌∙◌, ℕ, ℤ, List, [], ◌∷◌, length, drop, refl, sym, ap, subst, inl, Some, Ok}
use Rattle.std.proofs.lemmas.List.{length-map}
use Rattle.sqlite_value.specs.Order.{Row}
use Rattle.sqlite_schema.specs.declared.command.Conflict.TheVariants.{Abort}
use Rattle.sqlite_rules.specs.Cast.{cast_row}
use Rattle.sqlite_rules.specs.Edit.{next_rowid}
use Rattle.sqlite_rules.specs.Keys.{AreConflicts}
use Rattle.sqlite.specs.Effect.{IsDatabase}
use Rattle.sqlite.specs.Rows.{Task, Written, Upserts, Meets}
use Rattle.sqlite.specs.State.{State, Executes}
use Rattle.misp_sqlite.specs.Kept.{kept, kept_schema}
use Rattle.misp_sqlite.specs.Putting.{stored_row, HasPut}
use Rattle.misp_sqlite.specs.Texts.{put_text}
use Rattle.misp_sqlite.proofs.Landings.{given_length, landed_new, landed_over, new_is}
use Rattle.misp_sqlite.proofs.Upserts.{clause, params_of, put_in, replaced, task, upserts}

pub has_put : (old new : State) (event name body : List ℕ) (kind : ℤ) → old.now.schema ≡ kept_schema → IsDatabase old.now → Executes put_text (params_of event kind name body) old new (Ok 1)
    → (new.now.schema ≡ kept_schema) × IsDatabase new.now × HasPut event kind name body (old.now.trees 0) (new.now.trees 0)
has_put old new event name body kind has sound h =
    let u = upserts old new event name body kind 1 has h in
    let is = new_is event kind name body old.now.trees in
    let met = subst (λ r. AreConflicts (Some (1 ∷ 2 ∷ 3 ∷ [])) kept_schema.indexes kept (old.now.trees 0) r u.5) is u.6 in
    let meets = subst (λ r. Meets tasked (Upserts tasked Abort r old.now.trees []) r old.now.trees clause u.5 (Ok u.2)) is u.7 in
    (u.0, u.1, subst (HasPut event kind name body (old.now.trees 0)) (sym u.3) (go u.2 u.4 u.5 met meets))
  where
    tasked : Task
    tasked = task old.step_limit (params_of event kind name body)

    id : ℤ
    id = next_rowid (old.now.trees 0)

    row : Row
    row = stored_row id event kind name body

    go : (one : Written) → 1 ≡ length one.rows → (found : List Row) → AreConflicts (Some (1 ∷ 2 ∷ 3 ∷ [])) kept_schema.indexes kept (old.now.trees 0) row found
        → Meets tasked (Upserts tasked Abort row old.now.trees []) row old.now.trees clause found (Ok one) → HasPut event kind name body (old.now.trees 0) (one.trees 0)
    go one single [] met meets = landed_new event kind name body old.now.trees one.trees id (put_in old.step_limit (params_of event kind name body) row old.now.trees one meets)
    go one single (there ∷ more) met meets =
        let r = replaced old.step_limit (params_of event kind name body) row old.now.trees there more one meets in
        let counted = sym (single ∙ ap length r.3 ∙ given_length _ _ ∙ length-map r.0 (λ (s : Row). cast_row kept (drop 1 s))) in
        landed_over event kind name body old.now one.trees id there r.0 has sound (met.sound there (inl refl)) r.1 counted r.2
