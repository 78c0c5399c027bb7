use Rattle.std.proofs.Common.{◌∙◌}
use Rattle.std.specs.List.{list_any}
use Rattle.std.proofs.lemmas.Result.{IfOk-weaker}
use Rattle.misp_view.specs.Naming.{attribute_names, hit_names}
use Rattle.misp_view.proofs.NamedGroups.{names_are}
use Rattle.misp_view.proofs.naming.hit_names.Goals as goal

pub returns : goal.returns
unfolding hit_names
returns c = IfOk-weaker c.names_of.result _ _ (λ names is. is ∙ names_are c.in_ok-ids.ids c.args.groups.now (λ id. list_any (attribute_names id) c.args.hits.now) c.in_ok-ids.ensures) c.names_of.ensures
