use Rattle.std.proofs.Common.{List, OnOk}
use Rattle.misp_model.specs.Prelude.{VisibleEvent}
use Rattle.misp_search.specs.Window.{HaveCome}
use Rattle.misp_core.proofs.Windowed.{none_comes, where_seen, where_unseen}
use Rattle.misp_core.proofs.listing.put_seen.Goals as goal

pub returns-in-Some : goal.returns-in-Some
returns-in-Some c =
    where_seen (λ (events : List VisibleEvent). events) (λ events. OnOk c.put.result (HaveCome events c.args.events.now c.put.new.self)) c.args.seen c.in-Some.event c.in-Some.is c.put.ensures

pub returns-in-None : goal.returns-in-None
returns-in-None c =
    where_unseen (λ (events : List VisibleEvent). events) (λ events. HaveCome events c.args.events.now c.args.events.now) c.args.seen c.in-None.is (none_comes c.args.events.now)
