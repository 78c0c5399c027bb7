use Rattle.std.proofs.Common.{refl}
use Rattle.misp_format.proofs.Texts.{object_put}
use Rattle.misp_format.proofs.writing.statement.put_reference.Goals as goal

pub returns : goal.returns
returns c =
    rw (
      object_put,
      c.in_ok-end_object.ensures,
      c.in_ok-uuid-2.ensures,
      c.in_ok-number.ensures,
      c.get.ensures.value,
      c.in_ok-text-2.ensures,
      c.as_str-2.ensures,
      c.in_ok-uuid.ensures,
      c.place_uuid.ensures,
      c.in_ok-flag.ensures,
      c.in_ok-text.ensures,
      c.as_str.ensures,
      c.in_ok-begin_object.ensures,
    )
    refl
