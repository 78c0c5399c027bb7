use Rattle.misp_lists.specs.Order.{is_less}
use Rattle.misp_edit.proofs.TagPlaces.{some_place, none_place}
use Rattle.misp_edit.proofs.tags.count_before.Goals as goal

pub returns-in-Some : goal.returns-in-Some
returns-in-Some c = some_place (λ other. is_less c.args.tag.now.name other.name) c.args.tags.now c.in-Some.count c.in-Some.ensures

pub returns-in-None : goal.returns-in-None
returns-in-None c = none_place (λ other. is_less c.args.tag.now.name other.name) c.args.tags.now c.in-None.ensures
