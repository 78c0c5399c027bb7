use Rattle.std.proofs.Common.{OnOk, Option, option_to_list, subst}
use Rattle.misp_model.specs.Prelude.{VisibleEvent}
use Rattle.misp_search.specs.Fitting.{hits}
use Rattle.misp_search.specs.Window.{HaveCome}
use Rattle.misp_core.specs.Listing.{seen_at}
use Rattle.misp_core.proofs.listing.put_hits.Goals as goal

pub returns-then-is_full : goal.returns-then-is_full
returns-then-is_full c = λ rows table by. c.is_full.ensures c.if-is_full.true (hits c.args.search.now (option_to_list (seen_at c.args.site.now rows c.args.number)))

pub returns : goal.returns
returns c = λ rows table by.
    subst (λ (there : Option VisibleEvent). OnOk c.put_fitting.result (HaveCome (hits c.args.search.now (option_to_list there)) c.args.found.now c.put_fitting.new.found)) (c.in_ok-seen.ensures rows table by) c.put_fitting.ensures
