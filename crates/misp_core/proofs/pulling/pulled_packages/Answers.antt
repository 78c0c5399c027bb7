use Rattle.std.proofs.Common.{◌≡◌, IfOk, ap, length, map, option_map, subst, sym, ◌∙◌}
use Rattle.misp_model.specs.Packing.{packages}
use Rattle.misp_history.specs.Merging.{arriving_rows}
use Rattle.misp_package.specs.Packing.{AreNumberedFrom}
use Rattle.misp_core.specs.Handing.{pull_scene}
use Rattle.misp_core.specs.Partners.{partner_at}
use Rattle.misp_core.proofs.Pulled.{none_packed, pulled_by, pulled_none}
use Rattle.misp_core.proofs.pulling.pulled_packages.Goals as goal

pub returns-in-Some-clause-packed : goal.returns-in-Some-clause-packed
returns-in-Some-clause-packed c = λ table ours.
    subst (λ all. IfOk c.outgoing.result (λ ps. map (λ p. p.rows) ps.items ≡ all))
    (ap packages
    ((λ i. arriving_rows c.args.rows.now (c.via_to.ensures.groups i) (c.via_to.ensures.route i))
    ∙ sym (pulled_by (pull_scene c.args.site.now) (partner_at c.args.site.now.caller.now.internal c.in-Some.dest) (ap (option_map (partner_at c.args.site.now.caller.now.internal)) (sym c.partner.ensures ∙ c.in-Some.is)) c.args.rows.now)))
    (c.outgoing.ensures.packed table ours)

pub returns-in-None-clause-packed : goal.returns-in-None-clause-packed
returns-in-None-clause-packed c = λ table ours.
    ap (map (λ p. p.rows)) c.new.ensures.items ∙ sym (ap packages (pulled_none (pull_scene c.args.site.now) (ap (option_map (partner_at c.args.site.now.caller.now.internal)) (sym c.partner.ensures ∙ c.in-None.is)) c.args.rows.now) ∙ none_packed)

pub returns-in-None-clause-numbered : goal.returns-in-None-clause-numbered
unfolding AreNumberedFrom
returns-in-None-clause-numbered c = subst (λ ps. AreNumberedFrom 0 c.args.event.now (length ps) ps) (sym c.new.ensures.items) tt
