use Rattle.std.proofs.Common.{◌≡◌, IfOk, ap, option_map, subst, sym, ◌∙◌}
use Rattle.misp_model.specs.Packing.{packages}
use Rattle.misp_history.specs.Merging.{arriving_rows}
use Rattle.misp_manifest.specs.Manifest.{manifest_event}
use Rattle.misp_core.specs.Handing.{pull_scene}
use Rattle.misp_core.specs.Partners.{partner_at}
use Rattle.misp_core.proofs.Pulled.{none_packed, pulled_by, pulled_none}
use Rattle.misp_core.proofs.manifest.event_said.Goals as goal

pub returns-in-Some-clause-said : goal.returns-in-Some-clause-said
returns-in-Some-clause-said c = λ table ours.
    subst (λ all. IfOk c.outgoing_keys.result (λ said. said ≡ manifest_event c.args.event.now all))
    (ap packages
    ((λ i. arriving_rows c.args.rows.now (c.via_to.ensures.groups i) (c.via_to.ensures.route i))
    ∙ sym (pulled_by (pull_scene c.args.site.now) (partner_at c.args.site.now.caller.now.internal c.in-Some.dest) (ap (option_map (partner_at c.args.site.now.caller.now.internal)) (sym c.partner.ensures ∙ c.in-Some.is)) c.args.rows.now)))
    (c.outgoing_keys.ensures.listed table ours)

pub returns-in-None-clause-said : goal.returns-in-None-clause-said
returns-in-None-clause-said c = λ table ours.
    ap (manifest_event c.args.event.now)
    (sym (ap packages (pulled_none (pull_scene c.args.site.now) (ap (option_map (partner_at c.args.site.now.caller.now.internal)) (sym c.partner.ensures ∙ c.in-None.is)) c.args.rows.now) ∙ none_packed))
