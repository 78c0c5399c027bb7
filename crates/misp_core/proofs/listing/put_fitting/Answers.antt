use Rattle.std.proofs.Common.{List, OnOk, subst, sym}
use Rattle.misp_model.specs.Prelude.{VisibleAttribute}
use Rattle.misp_search.specs.Fitting.{hits}
use Rattle.misp_search.specs.Window.{HaveCome}
use Rattle.misp_core.proofs.Windowed.{hits_piecewise, none_comes, one_hits, where_seen, where_unseen}
use Rattle.misp_core.proofs.listing.put_fitting.Goals as goal

pub returns-in-Some : goal.returns-in-Some
returns-in-Some c =
    where_seen (hits c.args.search.now) (λ found. OnOk c.put_hits.result (HaveCome found c.args.found.now c.put_hits.new.hits)) c.args.seen c.in-Some.event c.in-Some.is
    (subst (λ found. OnOk c.put_hits.result (HaveCome found c.args.found.now c.put_hits.new.hits)) (one_hits c.args.search.now c.in-Some.event) c.put_hits.ensures)

pub returns-in-None : goal.returns-in-None
returns-in-None c =
    where_unseen (hits c.args.search.now) (λ found. HaveCome found c.args.found.now c.args.found.now) c.args.seen c.in-None.is
    (subst (λ (found : List VisibleAttribute). HaveCome found c.args.found.now c.args.found.now) (sym (hits_piecewise c.args.search.now).none) (none_comes c.args.found.now))
