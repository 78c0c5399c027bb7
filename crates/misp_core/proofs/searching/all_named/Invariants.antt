use Rattle.std.proofs.Common.{◌≡◌, ◌++◌, map}
use Rattle.misp_core.specs.Answers.{named_event}
use Rattle.misp_core.proofs.searching.all_named.Given as goal

-- the events so far, and those that are left
abbrev pub invariant-loop-event : goal.invariant-loop-event
invariant-loop-event l =
    l.all.items ++ map (named_event l.site.admin.now l.site.groups.now) l.event-iterator.rest.items
    ≡ map (named_event l.site.admin.now l.site.groups.now) l.fn.events.items
