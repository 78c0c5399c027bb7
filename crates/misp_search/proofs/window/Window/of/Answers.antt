use Rattle.misp_search.proofs.Coming.{window_none}
use Rattle.misp_search.proofs.window.Window.of.Goals as goal

pub returns : goal.returns
returns g c = window_none c.args.page c.start.result c.new.result.items c.start.ensures c.new.ensures.items
