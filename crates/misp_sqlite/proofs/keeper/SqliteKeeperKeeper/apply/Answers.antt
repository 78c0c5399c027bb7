use Rattle.sqlite.specs.Held.{state}
use Rattle.misp_sqlite.proofs.Batches.{leaves_whole}
use Rattle.misp_sqlite.proofs.Reports.{clean_store}
use Rattle.misp_sqlite.proofs.keeper.SqliteKeeperKeeper.apply.Goals as goal

pub returns-clause-left : goal.returns-clause-left
returns-clause-left g c clean is_open =
    leaves_whole (state g.A.Store c.args.self.now.connection) (state g.A.Store c.put_batch-answer.new.connection) c.args.batch is_open
    (λ trees still may. g.met.A.Store.settled c.args.self.now.connection.store trees still may) clean c.put_batch-answer.ensures.crash

pub returns-clause-clean : goal.returns-clause-clean
returns-clause-clean g c = clean_store g.A.Store c.put_batch-answer.new.connection (g.met.A.Store.shut_if_dirty c.put_batch-answer.new.connection.store)
