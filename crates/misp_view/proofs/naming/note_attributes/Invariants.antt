use Rattle.std.proofs.Common.{◌≡◌, take, ◌||◌}
use Rattle.misp_groups.specs.Prelude.{GroupId, list_any}
use Rattle.misp_view.specs.Naming.{has_group, attribute_names}
use Rattle.misp_view.proofs.naming.note_attributes.Given as goal

abbrev pub invariant-loop-attribute : goal.invariant-loop-attribute
invariant-loop-attribute l = (id : GroupId) → has_group l.ids id ≡ (has_group l.fn.ids id || list_any (attribute_names id) (take l.attribute-index l.attributes))
