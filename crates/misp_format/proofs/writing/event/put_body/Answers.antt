use Rattle.std.proofs.Common.{refl}
use Rattle.misp_format.specs.Tokens.{put_member}
use Rattle.misp_format.proofs.Texts.{object_put}
use Rattle.misp_format.proofs.writing.event.put_body.Goals as goal

-- the names are those that the event gives
pub returns : goal.returns
unfolding put_member
returns c = rw (object_put, c.in_ok-end_object.ensures, c.in_ok-put_content.ensures, c.requires, c.in_ok-name.ensures, c.in_ok-begin_object.ensures) refl
