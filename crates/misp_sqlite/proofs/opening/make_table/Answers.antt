use Rattle.std.proofs.Common.{◌≡◌, []}
use Rattle.sqlite.specs.Held.{state}
use Rattle.sqlite.specs.State.{CommitsBy}
use Rattle.sqlite.proofs.StateLemmas.{clean_if_open, survives_weaker}
use Rattle.sqlite_trees.specs.Tree.{Trees}
use Rattle.misp_outside.specs.Held.{nothing_held}
use Rattle.misp_sqlite.specs.Stored.{held_in}
use Rattle.misp_sqlite.specs.Texts.{create_text}
use Rattle.misp_sqlite.proofs.Inside.{survives_same}
use Rattle.misp_sqlite.proofs.Openings.{begins_none, begins_table, commits_none, created_now, finds_none, finds_table}
use Rattle.misp_sqlite.proofs.opening.make_table.Goals as goal

pub returns-then-is_ready-clause-found : goal.returns-then-is_ready-clause-found
returns-then-is_ready-clause-found g c clean = finds_table (state g.A.Store c.args.connection.now) (c.is_ready.ensures c.if-is_ready.true).table

pub returns-then-is_ready-clause-crash : goal.returns-then-is_ready-clause-crash
returns-then-is_ready-clause-crash g c = survives_same (state g.A.Store c.args.connection.now) (λ (trees : Trees). held_in (trees 0) ≡ nothing_held)

pub returns-then-not-is_bare-clause-crash : goal.returns-then-not-is_bare-clause-crash
returns-then-not-is_bare-clause-crash g c = survives_same (state g.A.Store c.args.connection.now) (λ (trees : Trees). held_in (trees 0) ≡ nothing_held)

pub returns-in-Ok-clause-found : goal.returns-in-Ok-clause-found
returns-in-Ok-clause-found g c clean =
    let old = state g.A.Store c.args.connection.now in
    let new = state g.A.Store c.execute.new.self in
    let bare = c.is_bare.ensures c.if-not-is_bare.false in
    finds_none old new bare (created_now old new c.in-Ok.field-0 bare (c.in-Ok.ensures.runs clean))

pub returns-in-Ok-clause-crash : goal.returns-in-Ok-clause-crash
returns-in-Ok-clause-crash g c =
    let old = state g.A.Store c.args.connection.now in
    survives_weaker old (state g.A.Store c.execute.new.self) (CommitsBy create_text [] old) (λ (trees : Trees). held_in (trees 0) ≡ nothing_held)
    (λ clean db commits. commits_none old db (c.is_bare.ensures c.if-not-is_bare.false) commits) c.execute.ensures.survives

pub returns-in-Err-clause-crash : goal.returns-in-Err-clause-crash
returns-in-Err-clause-crash g c =
    let old = state g.A.Store c.args.connection.now in
    survives_weaker old (state g.A.Store c.execute.new.self) (CommitsBy create_text [] old) (λ (trees : Trees). held_in (trees 0) ≡ nothing_held)
    (λ clean db commits. commits_none old db (c.is_bare.ensures c.if-not-is_bare.false) commits) c.execute.ensures.survives

pub returns-then-is_ready-clause-held : goal.returns-then-is_ready-clause-held
returns-then-is_ready-clause-held g c = begins_table (state g.A.Store c.args.connection.now) (c.is_ready.ensures c.if-is_ready.true).table

pub returns-in-Ok-clause-held : goal.returns-in-Ok-clause-held
returns-in-Ok-clause-held g c =
    let old = state g.A.Store c.args.connection.now in
    let new = state g.A.Store c.execute.new.self in
    let bare = c.is_bare.ensures c.if-not-is_bare.false in
    begins_none old new bare (λ is_open.
    let clean = clean_if_open (g.A.Store.view c.execute.new.self.store) (g.met.A.Store.shut_if_dirty c.execute.new.self.store) is_open in
    created_now old new c.in-Ok.field-0 bare (c.in-Ok.ensures.runs clean))
