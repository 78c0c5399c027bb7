use Rattle.std.proofs.Common.{[], ◌∷◌}
use Rattle.sqlite_value.specs.declared.value.Value.TheVariants.{Blob}
use Rattle.sqlite.specs.Held.{state}
use Rattle.sqlite.proofs.StateLemmas.{clean_if_open}
use Rattle.misp_sqlite.specs.Kept.{one_query}
use Rattle.misp_sqlite.specs.Texts.{one_text}
use Rattle.misp_sqlite.proofs.Meanings.{one_is}
use Rattle.misp_sqlite.proofs.Standing.{one_found, failed_same, selection_survives, survives_still}
use Rattle.misp_sqlite.proofs.loading.rows_under.Goals as goal

pub returns-in-Ok-clause-found : goal.returns-in-Ok-clause-found
returns-in-Ok-clause-found g c clean =
    (one_found c.args.event.now (state g.A.Store c.args.connection.now) (state g.A.Store c.query_all.new.self) c.in-Ok.rows.items (c.is_ready.ensures c.if-not-is_ready.false) (c.in-Ok.ensures.ok clean)).0

pub returns-in-Ok-clause-same : goal.returns-in-Ok-clause-same
returns-in-Ok-clause-same g c is_open =
    let clean = clean_if_open (g.A.Store.view c.query_all.new.self.store) (g.met.A.Store.shut_if_dirty c.query_all.new.self.store) is_open in
    (one_found c.args.event.now (state g.A.Store c.args.connection.now) (state g.A.Store c.query_all.new.self) c.in-Ok.rows.items (c.is_ready.ensures c.if-not-is_ready.false) (c.in-Ok.ensures.ok clean)).1 is_open

pub returns-in-Err-clause-same : goal.returns-in-Err-clause-same
returns-in-Err-clause-same g c is_open =
    let clean = clean_if_open (g.A.Store.view c.query_all.new.self.store) (g.met.A.Store.shut_if_dirty c.query_all.new.self.store) is_open in
    failed_same one_text _ (state g.A.Store c.args.connection.now) (state g.A.Store c.query_all.new.self) (c.is_ready.ensures c.if-not-is_ready.false).settled c.in-Err.error (c.in-Err.ensures.err clean) is_open

pub returns-in-Ok-clause-survives : goal.returns-in-Ok-clause-survives
returns-in-Ok-clause-survives g c =
    selection_survives one_text one_query _ one_is (Blob c.args.event.now ∷ []) (state g.A.Store c.args.connection.now) (state g.A.Store c.query_all.new.self)
    (c.is_ready.ensures c.if-not-is_ready.false) c.query_all.ensures.survives

pub returns-in-Err-clause-survives : goal.returns-in-Err-clause-survives
returns-in-Err-clause-survives g c =
    selection_survives one_text one_query _ one_is (Blob c.args.event.now ∷ []) (state g.A.Store c.args.connection.now) (state g.A.Store c.query_all.new.self)
    (c.is_ready.ensures c.if-not-is_ready.false) c.query_all.ensures.survives

pub returns-then-not-is_ready-clause-survives : goal.returns-then-not-is_ready-clause-survives
returns-then-not-is_ready-clause-survives g c = survives_still (state g.A.Store c.args.connection.now)
