use Rattle.std.proofs.Common.{◌≡◌, ◌++◌, take}
use Rattle.misp_core.specs.EventList.{others_text}
use Rattle.misp_api.proofs.event_list.put_others.Given as goal

abbrev pub invariant-loop-event : goal.invariant-loop-event
invariant-loop-event l = l.out.items ≡ l.fn.out.items ++ others_text (take l.event-index l.events)
