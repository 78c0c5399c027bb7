use Rattle.std.proofs.Common.{◌≡◌, take, ◌||◌}
use Rattle.misp_groups.specs.Prelude.{GroupId, list_any}
use Rattle.misp_view.specs.Naming.{has_group, object_names}
use Rattle.misp_view.proofs.naming.note_objects.Given as goal

abbrev pub invariant-loop-object : goal.invariant-loop-object
invariant-loop-object l = (id : GroupId) → has_group l.ids id ≡ (has_group l.fn.ids id || list_any (object_names id) (take l.object-index l.objects))
