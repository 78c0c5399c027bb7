use Rattle.std.proofs.Common.{◌≡◌, [], sym, subst, arith}
use Rattle.misp_outside.specs.Held.{with_batch}
use Rattle.misp_outside.specs.Reporting.{WhereReported}
use Rattle.misp_store.specs.Renewing.{rows_alone}
use Rattle.misp_store.proofs.Opened.{none_of}
use Rattle.misp_store.proofs.Renewed.{nothing_put}
use Rattle.misp_store.proofs.renewing.put_rows.Goals as goal

-- there are none
pub returns-else-count-gt0-clause-put : goal.returns-else-count-gt0-clause-put
returns-else-count-gt0-clause-put g c =
    let none : c.args.rows.items ≡ [] = none_of c.args.rows.items (λ some. omega (arith, some, c.if-count-gt0.false, c.len-count.ensures)) in
    let held = (g.K.Keeper.state c.args.keeper.now).held in
    subst (λ rows. WhereReported held held (λ old new. new ≡ with_batch (rows_alone rows) old)) (sym none) (nothing_put held)
