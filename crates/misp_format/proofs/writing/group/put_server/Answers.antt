use Rattle.std.proofs.Common.{refl}
use Rattle.misp_format.proofs.Texts.{object_put}
use Rattle.misp_format.proofs.writing.group.put_server.Goals as goal

pub returns : goal.returns
returns c = rw (object_put, c.in_ok-end_object.ensures, c.in_ok-text-2.ensures, c.as_str.ensures.value, c.in_ok-server_url.ensures, c.text-3.ensures.spelling, c.in_ok-text.ensures, c.text.ensures.spelling, c.in_ok-begin_object.ensures) refl
