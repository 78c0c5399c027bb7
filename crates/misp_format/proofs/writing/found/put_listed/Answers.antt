use Rattle.std.proofs.Common.{refl}
use Rattle.misp_format.specs.Found.{listed_with}
use Rattle.misp_format.proofs.Texts.{object_put}
use Rattle.misp_format.proofs.writing.found.put_listed.Goals as goal

pub returns : goal.returns
unfolding listed_with
returns c =
    rw (
      object_put,
      c.in_ok-end_object.ensures,
      c.in_ok-put_stamp_and_uuid.ensures,
      c.in_ok-flag.ensures,
      c.in_ok-text-2.ensures,
      c.as_str-3.ensures,
      c.in_ok-number-2.ensures,
      c.label_number.ensures,
      c.in_ok-text.ensures,
      c.as_str-2.ensures,
      c.in_ok-number.ensures,
      c.in_ok-attribute_count.ensures,
      c.in_ok-org.ensures,
      c.as_str.ensures,
      c.in_ok-begin_object.ensures,
      ← c.event.view_is,
    )
    refl
