use Rattle.std.proofs.Common.{◌∙◌}
use Rattle.misp_format.proofs.Categories.{category_place}
use Rattle.misp_format.proofs.kinds.place_of.Goals as goal

pub returns : goal.returns
returns c = c.place_in.ensures ∙ category_place c.args.text.now
