use Rattle.std.proofs.Common.{refl}
use Rattle.misp_format.proofs.writing.event.put_texts.Goals as goal

pub returns : goal.returns
returns c =
    rw (
      c.in_ok-put_stamp_and_uuid.ensures,
      c.in_ok-number-5.ensures,
      c.from-2.ensures,
      c.in_ok-flag.ensures,
      c.in_ok-number-4.ensures,
      c.get.ensures.value,
      c.in_ok-text-2.ensures,
      c.as_str-2.ensures,
      c.in_ok-optional_uuid.ensures,
      c.in_ok-number-3.ensures,
      c.label_number.ensures,
      c.in_ok-text.ensures,
      c.as_str.ensures,
      c.in_ok-number-2.ensures,
      c.in_ok-attribute_count.ensures,
      c.in_ok-number.ensures,
      c.from.ensures,
      ← c.event.view_is,
    )
    refl
