use Rattle.std.proofs.Common.{refl}
use Rattle.misp_format.proofs.Texts.{hit_texts_put}
use Rattle.misp_format.proofs.writing.found.put_hit_texts.Goals as goal

pub returns : goal.returns
returns c = rw (hit_texts_put, c.in_ok-put_attribute_rest.ensures, c.in_ok-put_seen_and_part.ensures, c.in_ok-uuid.ensures, c.event.ensures, c.in_ok-put_attribute_front.ensures, ← c.hit.view_is) refl
