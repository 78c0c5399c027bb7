use Rattle.std.proofs.Common.{refl}
use Rattle.misp_format.proofs.writing.element.put_object_lists.Goals as goal

pub returns : goal.returns
returns c = rw (← c.object.view_is, c.in_ok-put_sharing_group.ensures, c.in_ok-put_list-2.ensures, c.as_slice-2.ensures, c.in_ok-put_list.ensures, c.as_slice.ensures) refl
