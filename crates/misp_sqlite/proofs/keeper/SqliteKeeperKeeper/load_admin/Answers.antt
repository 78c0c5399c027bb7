use Rattle.misp_sqlite.proofs.Reports.{clean_store}
use Rattle.misp_sqlite.proofs.keeper.SqliteKeeperKeeper.load_admin.Goals as goal

pub returns-clause-clean : goal.returns-clause-clean
returns-clause-clean g c = clean_store g.A.Store c.admin_rows-answer.new.connection (g.met.A.Store.shut_if_dirty c.admin_rows-answer.new.connection.store)
