use Rattle.std.proofs.Common.{refl}
use Rattle.misp_format.proofs.writing.element.put_object_texts.Goals as goal

pub returns : goal.returns
returns c =
    rw (
      c.in_ok-put_stamp_and_uuid.ensures,
      c.in_ok-number-2.ensures,
      c.in_ok-optional_uuid.ensures,
      c.in_ok-text-4.ensures,
      c.as_str-4.ensures,
      c.in_ok-text-3.ensures,
      c.as_str-3.ensures,
      c.in_ok-number.ensures,
      c.label_number.ensures,
      c.in_ok-text-2.ensures,
      c.as_str-2.ensures,
      c.in_ok-flag.ensures,
      c.in_ok-text.ensures,
      c.as_str.ensures,
      ← c.object.view_is,
    )
    refl
