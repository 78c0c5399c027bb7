use Rattle.std.proofs.Common.{refl}
use Rattle.misp_format.specs.Tokens.{put_member}
use Rattle.misp_format.specs.WholeGroup.{group_server_data}
use Rattle.misp_format.proofs.Texts.{object_put}
use Rattle.misp_format.proofs.writing.group.GroupServersListed.put.Goals as goal

pub returns : goal.returns
unfolding group_server_data put_member
returns c = rw (object_put, c.in_ok-end_object.ensures, c.in_ok-flag.ensures, c.in_ok-put_server.ensures, c.in_ok-name.ensures, c.in_ok-begin_object.ensures) refl
