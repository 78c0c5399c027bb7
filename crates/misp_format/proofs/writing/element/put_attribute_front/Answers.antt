use Rattle.std.proofs.Common.{refl}
use Rattle.misp_format.proofs.writing.element.put_attribute_front.Goals as goal

pub returns : goal.returns
returns c = rw (c.in_ok-number.ensures, c.label_number.ensures, c.in_ok-flag.ensures, c.in_ok-text-2.ensures, c.as_str.ensures, c.in_ok-text.ensures, c.category_name.ensures, ← c.attribute.view_is) refl
