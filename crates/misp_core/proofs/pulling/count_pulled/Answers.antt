use Rattle.std.proofs.Common.{◌≡◌, IfOk, ap, length, option_map, subst, sym, ◌∙◌}
use Rattle.misp_model.specs.Packing.{packages}
use Rattle.misp_history.specs.Merging.{arriving_rows}
use Rattle.misp_core.specs.Handing.{pull_scene}
use Rattle.misp_core.specs.Partners.{partner_at}
use Rattle.misp_core.proofs.Pulled.{none_packed, pulled_by, pulled_none}
use Rattle.misp_core.proofs.pulling.count_pulled.Goals as goal

pub returns-in-Some : goal.returns-in-Some
returns-in-Some c = λ table ours.
    subst (λ all. IfOk c.count_outgoing.result (λ count. count ≡ length all))
    (ap packages
    ((λ i. arriving_rows c.args.rows.now (c.via_to.ensures.groups i) (c.via_to.ensures.route i))
    ∙ sym (pulled_by (pull_scene c.args.site.now) (partner_at c.args.site.now.caller.now.internal c.in-Some.dest) (ap (option_map (partner_at c.args.site.now.caller.now.internal)) (sym c.partner.ensures ∙ c.in-Some.is)) c.args.rows.now)))
    (c.count_outgoing.ensures table ours)

pub returns-in-None : goal.returns-in-None
returns-in-None c = λ table ours.
    ap length (sym (ap packages (pulled_none (pull_scene c.args.site.now) (ap (option_map (partner_at c.args.site.now.caller.now.internal)) (sym c.partner.ensures ∙ c.in-None.is)) c.args.rows.now) ∙ none_packed))
