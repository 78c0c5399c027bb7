use Rattle.serde_json.specs.View.{view}
use Rattle.misp_api.proofs.ListedGroups.{read_listed}
use Rattle.misp_api.proofs.group_list.group_at.Goals as goal

pub returns-in-Ok : goal.returns-in-Ok
returns-in-Ok c = read_listed c.args.place (view c.args.value.now) c.in-Ok.group c.in-Ok.ensures
