use Rattle.std.proofs.Common.{refl}
use Rattle.misp_format.specs.Written.{tag_data}
use Rattle.misp_format.proofs.Texts.{object_put}
use Rattle.misp_format.proofs.writing.element.TagsListed.put.Goals as goal

pub returns : goal.returns
unfolding tag_data
returns c = rw (object_put, c.in_ok-end_object.ensures, c.in_ok-text-2.ensures, c.as_str-2.ensures, c.in_ok-flag.ensures, c.in_ok-text.ensures, c.as_str.ensures.value, c.in_ok-colour_text.ensures, c.in_ok-begin_object.ensures) refl
