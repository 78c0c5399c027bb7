use Rattle.std.proofs.Common.{List, OnOk, subst, sym}
use Rattle.misp_model.specs.Prelude.{VisibleEvent}
use Rattle.misp_search.specs.Fitting.{whole_events}
use Rattle.misp_search.specs.Window.{HaveCome}
use Rattle.misp_core.proofs.Windowed.{none_comes, one_whole, where_seen, where_unseen, whole_piecewise}
use Rattle.misp_core.proofs.listing.put_with_hit.Goals as goal

pub returns-in-Some : goal.returns-in-Some
returns-in-Some c =
    where_seen (whole_events c.args.search.now) (λ found. OnOk c.put_if.result (HaveCome found c.args.found.now c.put_if.new.found)) c.args.seen c.in-Some.event c.in-Some.is
    (subst (λ found. OnOk c.put_if.result (HaveCome found c.args.found.now c.put_if.new.found)) (one_whole c.args.search.now c.in-Some.event c.has_hit-has_hit.result c.has_hit-has_hit.ensures) c.put_if.ensures)

pub returns-in-None : goal.returns-in-None
returns-in-None c =
    where_unseen (whole_events c.args.search.now) (λ found. HaveCome found c.args.found.now c.args.found.now) c.args.seen c.in-None.is
    (subst (λ (found : List VisibleEvent). HaveCome found c.args.found.now c.args.found.now) (sym (whole_piecewise c.args.search.now).none) (none_comes c.args.found.now))
