-- What a query leaves of a connection.
use Rattle.std.proofs.Common.{◌≡◌, ℕ, pos, List, [], ◌∷◌, Option, None, Some, refl, sym, subst, ◌∙◌, inl, inr, IsTrue, IsSome, arith}
use Rattle.sqlite_value.specs.declared.keys.Key.{Key}
use Rattle.sqlite_value.specs.declared.value.Value.TheVariants.{Blob}
use Rattle.sqlite_value.specs.Order.{Row}
use Rattle.sqlite_sql.specs.Term.{Term}
use Rattle.sqlite_sql.specs.Query.{Query}
use Rattle.sqlite_schema.specs.declared.command.Returning.{Returning}
use Rattle.sqlite.specs.declared.error.Error.{Error}
use Rattle.sqlite.specs.Clock.{timed}
use Rattle.sqlite.specs.Listing.{understood}
use Rattle.sqlite.specs.State.{State, IsUnchanged, IsRolledBack, IsNotRun, ShowsRows, FailsToShow, FailsToQuery, Shown, Survives, CommitsShowing}
use Rattle.sqlite.proofs.Callers.{IsPlain}
use Rattle.sqlite.proofs.StateLemmas.{survives_weaker}
use Rattle.misp_sqlite.specs.Kept.{selection, one_query, between_query, next_query, all_query}
use Rattle.misp_sqlite.specs.Standing.{IsReady, ShowsSame}
use Rattle.misp_sqlite.specs.Stored.{IsPaged, IsSelected}
use Rattle.misp_sqlite.specs.Texts.{one_text, between_text, next_text, all_text}
use Rattle.misp_sqlite.proofs.Answers.{answers, paged, selects}
use Rattle.misp_sqlite.proofs.Meanings.{Selects, one_is, between_is, next_is, all_is}

module _ (sql : List ℕ) (params : Row) (old new : State) where
  shown_same : (rows : List Row) → IsPlain (understood old.now.schema sql) → Shown sql params old new rows → ShowsSame old new
  unfolding Shown
  shown_same rows plain h is_open =
      let none = (subst IsPlain h.1.is plain).0 in
      let it = subst (ShowsRows old new sql h.0 (timed params h.0.formats h.1.now) rows) none h.2 in
      (it.3.0.was_open, it.3.0.now_is)

  stays : IsUnchanged old new → ShowsSame old new
  stays u is_open = (u.0.was_open, u.0.now_is)

  back : (IsTrue old.is_open → old.now ≡ old.committed) → IsRolledBack old new → ShowsSame old new
  back settled r is_open = (r.was_open is_open, (r.undone is_open).0 ∙ sym (settled (r.was_open is_open)))

  not_run : (IsTrue old.is_open → old.now ≡ old.committed) → (e : Error) → IsNotRun old new sql params e → ShowsSame old new
  unfolding IsNotRun
  not_run settled e (inl h) = stays h.1
  not_run settled e (inr h) = back settled h.3

  -- a query that fails leaves what was committed
  pub failed_same : (IsTrue old.is_open → old.now ≡ old.committed) → (e : Error) → FailsToQuery sql params old new e → ShowsSame old new
  unfolding FailsToQuery
  failed_same settled e (inl h) = not_run settled e h
  failed_same settled e (inr h) = go h.0.returning h.2
    where
      go : (r : Option Returning) → FailsToShow old new sql h.0 (timed params h.0.formats h.1.now) e r → ShowsSame old new
      go None s = stays s.3
      go (Some what) (inl s) = stays s.1
      go (Some what) (inr s) = back settled s.3

none_some : (r : Option Returning) → r ≡ None → IsSome r → ⊥
none_some None e some = cc
none_some (Some what) e some = cc

-- a connection that is as it was
pub survives_still : (s : State) → Survives s s (λ _. ⊥)
survives_still s = record {
  clean = omega arith;
  shield = λ shielded. shielded;
  counts = omega arith;
  limit = refl;
  closes = λ clean is_open. inl is_open;
  crash = λ clean db may. inl may;
}

-- a selection commits nothing
pub selection_survives : (sql : List ℕ) (q : Query) (names : List (List ℕ)) → Selects sql q names
    → (params : Row) (old new : State) → IsReady old → Survives old new (CommitsShowing sql params old) → Survives old new (λ _. ⊥)
unfolding CommitsShowing
selection_survives sql q names is params old new ready =
    let plain = subst (λ s. IsPlain (understood s sql)) (sym ready.table) is.plain in
    survives_weaker old new (CommitsShowing sql params old) (λ _. ⊥) (λ clean db h. none_some h.0.returning (subst IsPlain h.1.is plain).0 h.2)

-- what a selection answers, and that it leaves what it found
pub selection_found : (sql : List ℕ) (terms columns : List Term) (order : List (Term × Key)) (names : List (List ℕ)) → Selects sql (selection terms columns order) names
    → (params : Row) (old new : State) (rows : List Row) → IsReady old → Shown sql params old new rows
    → IsSelected (selection terms columns order) params (old.now.trees 0) rows × ShowsSame old new
selection_found sql terms columns order names is params old new rows ready h = (
  selects sql terms columns order names is params old new rows ready.table h,
  shown_same sql params old new rows (subst (λ s. IsPlain (understood s sql)) (sym ready.table) is.plain) h,
)

pub one_found : (event : List ℕ) (old new : State) (rows : List Row) → IsReady old → Shown one_text (Blob event ∷ []) old new rows
    → IsSelected one_query (Blob event ∷ []) (old.now.trees 0) rows × ShowsSame old new
one_found event old new = selection_found one_text one_query.filter one_query.project one_query.order _ one_is (Blob event ∷ []) old new

pub between_found : (event from until : List ℕ) (old new : State) (rows : List Row) → IsReady old → Shown between_text (Blob event ∷ Blob from ∷ Blob until ∷ []) old new rows
    → IsSelected between_query (Blob event ∷ Blob from ∷ Blob until ∷ []) (old.now.trees 0) rows × ShowsSame old new
between_found event from until old new =
    selection_found between_text between_query.filter between_query.project between_query.order _ between_is (Blob event ∷ Blob from ∷ Blob until ∷ []) old new

pub next_found : (event from : List ℕ) (old new : State) (rows : List Row) → IsReady old → Shown next_text (Blob event ∷ Blob from ∷ []) old new rows
    → IsPaged next_query (Blob event ∷ Blob from ∷ []) (old.now.trees 0) rows × ShowsSame old new
next_found event from old new rows ready h =
    let params = Blob event ∷ Blob from ∷ [] in (
      paged (pos 2) next_query.filter next_query.project next_query.order old.now.trees params rows (answers next_text next_query _ next_is params old new rows ready.table h),
      shown_same next_text params old new rows (subst (λ s. IsPlain (understood s next_text)) (sym ready.table) next_is.plain) h,
    )

pub all_found : (old new : State) (rows : List Row) → IsReady old → Shown all_text [] old new rows → IsSelected all_query [] (old.now.trees 0) rows × ShowsSame old new
all_found old new = selection_found all_text all_query.filter all_query.project all_query.order _ all_is [] old new
