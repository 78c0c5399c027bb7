use Rattle.misp_store.proofs.TableRows.{told_table}
use Rattle.misp_store.proofs.loading.load.Goals as goal

pub returns-clause-table : goal.returns-clause-table
returns-clause-table g c =
    told_table _ c.in_ok-held.held.items c.in_ok-decode_rows.field-0.items c.in_ok-held.ensures.order (rw c.deref.ensures.value at c.in_ok-decode_rows.ensures.ok)
