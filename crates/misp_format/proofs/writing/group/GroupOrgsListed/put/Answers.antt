use Rattle.std.proofs.Common.{refl}
use Rattle.misp_format.specs.WholeGroup.{group_org_data}
use Rattle.misp_format.proofs.Texts.{object_put}
use Rattle.misp_format.proofs.writing.group.GroupOrgsListed.put.Goals as goal

pub returns : goal.returns
unfolding group_org_data
returns c = rw (object_put, c.in_ok-end_object.ensures, c.in_ok-flag.ensures, c.in_ok-org.ensures, c.as_str.ensures, c.in_ok-begin_object.ensures) refl
