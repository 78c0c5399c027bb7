use Rattle.std.proofs.Common.{sym}
use Rattle.misp_model.specs.Prelude.{change_writes}
use Rattle.misp_model.specs.declared.change.Change.TheVariants.{AddEvent}
use Rattle.misp_model.specs.Machine.{event_changed}
use Rattle.misp_core.proofs.changing.add.Goals as goal

pub returns-in-Ok : goal.returns-in-Ok
unfolding event_changed change_writes
returns-in-Ok c =
    rw (← c.viewer-who.ensures.groups, ← c.viewer-who.ensures.here, ← c.viewer-who.ensures.org, ← c.in-Ok.ensures.name)
    (c.added.ensures _ _ (AddEvent c.args.submission) (sym c.event_in-event.ensures) (c.add_event-made.ensures.ok 0) c.add_event-made.ensures.are_rows (c.add_event-made.ensures.err 0))
