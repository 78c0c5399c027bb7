use Rattle.std.proofs.Common.{◌≡◌, ◌∙◌, refl, ap, sym, subst, arith, rules, true, IsTrue}
use Rattle.sqlite.specs.Held.{state}
use Rattle.sqlite.specs.State.{HasCleanDisk, Survives}
use Rattle.sqlite.proofs.StateLemmas.{clean_if_open}
use Rattle.sqlite_trees.specs.Tree.{Trees}
use Rattle.misp_outside.specs.Held.{with_batch}
use Rattle.misp_sqlite.specs.Standing.{HasBatch, ShowsSame, is_reporting, kept_of}
use Rattle.misp_sqlite.specs.Stored.{held_in}
use Rattle.misp_sqlite.proofs.Batches.{batch_committed, batch_put, batch_reported, begun_keeps, begun_survives, not_committed, on_err, survives_batch, undone}
use Rattle.misp_sqlite.proofs.Inside.{survives_same}
use Rattle.misp_sqlite.proofs.putting.put_batch.Goals as goal

pub returns-in-Ok-clause-done : goal.returns-in-Ok-clause-done
returns-in-Ok-clause-done g c clean =
    let old = c.args.connection.now in
    let ready = c.is_ready.ensures c.if-not-is_ready.false in
    let begun = c.transaction-transaction.ensures.begun in
    let last = state g.A.Store c.put_all.new.transaction.conn.now in
    let end = c.commit.new.self.0 in
    let same : end ≡ c.connection-2-1.given.0 = search rules in
    let late : HasCleanDisk (state g.A.Store end) = subst (λ h. HasCleanDisk (state g.A.Store h)) (sym same) clean in
    let put = batch_put g.A.Store old c.transaction-transaction.result.conn.now last c.args.batch.now begun ready (c.in_ok-put_all.ensures.done (omega (arith, c.commit.ensures.survives.clean))) in
    subst (λ h. HasBatch c.args.batch.now (state g.A.Store old) (state g.A.Store h)) same
    (batch_committed (state g.A.Store old) last (state g.A.Store end) c.args.batch.now put.inside put.held (c.in-Ok.ensures.ok late).1 (λ trees is_open may. g.met.A.Store.settled end.store trees is_open may))

pub returns-in-Err-clause-same : goal.returns-in-Err-clause-same
returns-in-Err-clause-same g c is_open =
    let old = c.args.connection.now in
    let ready = c.is_ready.ensures c.if-not-is_ready.false in
    let begun = c.transaction-transaction.ensures.begun in
    let last = state g.A.Store c.put_all.new.transaction.conn.now in
    let end = c.commit.new.self.0 in
    let same : end ≡ c.connection-2-1.given.0 = search rules in
    let still : IsTrue (state g.A.Store end).is_open = subst (λ h. IsTrue (state g.A.Store h).is_open) (sym same) is_open in
    let late : HasCleanDisk (state g.A.Store end) = clean_if_open (g.A.Store.view end.store) (g.met.A.Store.shut_if_dirty end.store) still in
    let earlier : HasCleanDisk last = omega (arith, c.commit.ensures.survives.clean) in
    let put = batch_put g.A.Store old c.transaction-transaction.result.conn.now last c.args.batch.now begun ready (c.in_ok-put_all.ensures.done earlier) in
    let back = not_committed last (state g.A.Store end) c.in-Err.error put.inside (c.in-Err.ensures.err late) in
    let kept = begun_keeps g.A.Store old c.transaction-transaction.result.conn.now last begun ready (c.put_all.ensures.steps.kept earlier) in
    subst (λ h. ShowsSame (state g.A.Store old) (state g.A.Store h)) same (undone g.A.Store old last (state g.A.Store end) ready kept back) is_open

pub returns-in_err-put_all-clause-same : goal.returns-in_err-put_all-clause-same
returns-in_err-put_all-clause-same g c = on_err c.from_residual.result (λ is_open.
    let old = c.args.connection.now in
    let ready = c.is_ready.ensures c.if-not-is_ready.false in
    let begun = c.transaction-transaction.ensures.begun in
    let last = state g.A.Store c.put_all.new.transaction.conn.now in
    let end = c.drop-transaction.new.self.0 in
    let same : end ≡ c.connection-1.given.0 = search rules in
    let still : IsTrue (state g.A.Store end).is_open = subst (λ h. IsTrue (state g.A.Store h).is_open) (sym same) is_open in
    let late : HasCleanDisk (state g.A.Store end) = clean_if_open (g.A.Store.view end.store) (g.met.A.Store.shut_if_dirty end.store) still in
    let earlier : HasCleanDisk last = omega (arith, c.drop-transaction.ensures.survives.clean) in
    let kept = begun_keeps g.A.Store old c.transaction-transaction.result.conn.now last begun ready (c.put_all.ensures.steps.kept earlier) in
    subst (λ h. ShowsSame (state g.A.Store old) (state g.A.Store h)) same (undone g.A.Store old last (state g.A.Store end) ready kept (c.drop-transaction.ensures.undone late)) is_open)

pub returns-in_err-put_all-clause-crash : goal.returns-in_err-put_all-clause-crash
returns-in_err-put_all-clause-crash g c =
    let old = c.args.connection.now in
    let last = state g.A.Store c.put_all.new.transaction.conn.now in
    let end = c.drop-transaction.new.self.0 in
    let same : end ≡ c.connection-1.given.0 = search rules in
    let P = λ (trees : Trees). held_in (trees 0) ≡ with_batch c.args.batch.now (kept_of (state g.A.Store old)) in
    let one = begun_survives g.A.Store old c.transaction-transaction.result.conn.now last c.transaction-transaction.ensures.begun c.put_all.ensures.steps.survives in
    subst (λ h. Survives (state g.A.Store old) (state g.A.Store h) P) same
    (survives_batch g.A.Store old last (state g.A.Store end) (λ _. ⊥) P (λ _ _ none. absurd none) one c.drop-transaction.ensures.survives)

pub returns-then-not-is_ready-clause-same : goal.returns-then-not-is_ready-clause-same
returns-then-not-is_ready-clause-same g c is_open = (is_open, refl)

pub returns-then-not-is_ready-clause-crash : goal.returns-then-not-is_ready-clause-crash
returns-then-not-is_ready-clause-crash g c =
    survives_same (state g.A.Store c.args.connection.now) (λ (trees : Trees). held_in (trees 0) ≡ with_batch c.args.batch.now (kept_of (state g.A.Store c.args.connection.now)))

pub returns-in-Ok-clause-crash : goal.returns-in-Ok-clause-crash
returns-in-Ok-clause-crash g c =
    let old = c.args.connection.now in
    let ready = c.is_ready.ensures c.if-not-is_ready.false in
    let begun = c.transaction-transaction.ensures.begun in
    let last = state g.A.Store c.put_all.new.transaction.conn.now in
    let end = c.commit.new.self.0 in
    let same : end ≡ c.connection-2-1.given.0 = search rules in
    let P = λ (trees : Trees). held_in (trees 0) ≡ with_batch c.args.batch.now (kept_of (state g.A.Store old)) in
    let one = begun_survives g.A.Store old c.transaction-transaction.result.conn.now last begun c.put_all.ensures.steps.survives in
    subst (λ h. Survives (state g.A.Store old) (state g.A.Store h) P) same
    (survives_batch g.A.Store old last (state g.A.Store end) (λ db. db ≡ last.now.trees) P
    (λ late db is. ap (λ (t : Trees). held_in (t 0)) is
    ∙ (batch_put g.A.Store old c.transaction-transaction.result.conn.now last c.args.batch.now begun ready (c.in_ok-put_all.ensures.done (omega (arith, c.commit.ensures.survives.clean)))).held)
    one c.commit.ensures.survives)

pub returns-in-Err-clause-crash : goal.returns-in-Err-clause-crash
returns-in-Err-clause-crash g c =
    let old = c.args.connection.now in
    let ready = c.is_ready.ensures c.if-not-is_ready.false in
    let begun = c.transaction-transaction.ensures.begun in
    let last = state g.A.Store c.put_all.new.transaction.conn.now in
    let end = c.commit.new.self.0 in
    let same : end ≡ c.connection-2-1.given.0 = search rules in
    let P = λ (trees : Trees). held_in (trees 0) ≡ with_batch c.args.batch.now (kept_of (state g.A.Store old)) in
    let one = begun_survives g.A.Store old c.transaction-transaction.result.conn.now last begun c.put_all.ensures.steps.survives in
    subst (λ h. Survives (state g.A.Store old) (state g.A.Store h) P) same
    (survives_batch g.A.Store old last (state g.A.Store end) (λ db. db ≡ last.now.trees) P
    (λ late db is. ap (λ (t : Trees). held_in (t 0)) is
    ∙ (batch_put g.A.Store old c.transaction-transaction.result.conn.now last c.args.batch.now begun ready (c.in_ok-put_all.ensures.done (omega (arith, c.commit.ensures.survives.clean)))).held)
    one c.commit.ensures.survives)

pub returns-in-Ok-clause-reported : goal.returns-in-Ok-clause-reported
returns-in-Ok-clause-reported g c is_open =
    let old = c.args.connection.now in
    let ready = c.is_ready.ensures c.if-not-is_ready.false in
    let begun = c.transaction-transaction.ensures.begun in
    let last = state g.A.Store c.put_all.new.transaction.conn.now in
    let end = c.commit.new.self.0 in
    let same : end ≡ c.connection-2-1.given.0 = search rules in
    let still : IsTrue (state g.A.Store end).is_open = subst (λ h. IsTrue (state g.A.Store h).is_open) (sym same) is_open in
    let late : HasCleanDisk (state g.A.Store end) = clean_if_open (g.A.Store.view end.store) (g.met.A.Store.shut_if_dirty end.store) still in
    let earlier : HasCleanDisk last = omega (arith, c.commit.ensures.survives.clean) in
    let put = batch_put g.A.Store old c.transaction-transaction.result.conn.now last c.args.batch.now begun ready (c.in_ok-put_all.ensures.done earlier) in
    let kept = begun_keeps g.A.Store old c.transaction-transaction.result.conn.now last begun ready (c.put_all.ensures.steps.kept earlier) in
    subst (λ h. is_reporting (state g.A.Store h) ≡ is_reporting (state g.A.Store old)) same
    (batch_reported (state g.A.Store (record old { in_transaction = true })) last (state g.A.Store end) (with_batch c.args.batch.now) put kept (c.in-Ok.ensures.ok late).1)
