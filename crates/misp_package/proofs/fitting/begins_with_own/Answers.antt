use Rattle.misp_package.proofs.Packages.{own_where}
use Rattle.misp_package.proofs.fitting.begins_with_own.Goals as goal

pub returns-in-len1-up : goal.returns-in-len1-up
returns-in-len1-up c = own_where c.args.event.now c.args.rows.now c.own-item.result c.is_itself.result c.in-len1-up.len_at_least c.own-item.is c.is_itself.ensures
