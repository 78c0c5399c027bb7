use Rattle.std.proofs.Common.{OnOk, Option, option_to_list, subst}
use Rattle.misp_model.specs.Prelude.{VisibleEvent}
use Rattle.misp_search.specs.Window.{HaveCome}
use Rattle.misp_core.specs.Listing.{seen_at}
use Rattle.misp_core.proofs.listing.put_event.Goals as goal

pub returns-then-is_full : goal.returns-then-is_full
returns-then-is_full c = λ rows table by. c.is_full.ensures c.if-is_full.true (option_to_list (seen_at c.args.site.now rows c.args.number))

pub returns : goal.returns
returns c = λ rows table by.
    subst (λ (there : Option VisibleEvent). OnOk c.put_seen.result (HaveCome (option_to_list there) c.args.events.now c.put_seen.new.events)) (c.in_ok-seen.ensures rows table by) c.put_seen.ensures
