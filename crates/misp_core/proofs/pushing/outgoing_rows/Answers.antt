use Rattle.std.proofs.Common.{subst, sym}
use Rattle.misp_core.specs.Pulling.{IsByEvent}
use Rattle.misp_core.proofs.pushing.outgoing_rows.Goals as goal

pub returns-clause-packed : goal.returns-clause-packed
returns-clause-packed c = λ table.
    c.outgoing_events.ensures.packed c.args.rows.items table (subst (λ l. IsByEvent l c.args.rows.items) (sym c.deref.ensures.value) c.in_ok-list.ensures)
