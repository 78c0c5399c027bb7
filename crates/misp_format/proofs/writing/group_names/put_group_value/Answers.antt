use Rattle.std.proofs.Common.{refl}
use Rattle.misp_format.proofs.Texts.{object_put}
use Rattle.misp_format.proofs.writing.group_names.put_group_value.Goals as goal

pub returns : goal.returns
returns c = rw (object_put, c.in_ok-end_object.ensures, c.in_ok-uuid-2.ensures, c.in_ok-uuid.ensures, c.in_ok-text.ensures, c.name_of.ensures, c.in_ok-begin_object.ensures) refl
