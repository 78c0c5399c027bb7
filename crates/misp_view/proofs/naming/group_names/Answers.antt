use Rattle.std.proofs.Common.{◌∙◌}
use Rattle.std.proofs.lemmas.Result.{IfOk-weaker}
use Rattle.misp_view.specs.Naming.{event_names, group_names}
use Rattle.misp_view.proofs.NamedGroups.{names_are}
use Rattle.misp_view.proofs.naming.group_names.Goals as goal

pub returns : goal.returns
unfolding group_names
returns c = IfOk-weaker c.names_of.result _ _ (λ names is. is ∙ names_are c.in_ok-ids.ids c.args.groups.now (λ id. event_names id c.args.event.now) c.in_ok-ids.ensures) c.names_of.ensures
