use Rattle.std.proofs.Common.{refl}
use Rattle.misp_format.specs.WholeGroup.{whole_group_data}
use Rattle.misp_format.proofs.Texts.{object_put}
use Rattle.misp_format.proofs.writing.group.put_group.Goals as goal

pub returns-clause-written : goal.returns-clause-written
unfolding whole_group_data
returns-clause-written c =
    rw (
      object_put,
      c.in_ok-end_object.ensures,
      c.in_ok-uuid-2.ensures,
      c.in_ok-flag-2.ensures,
      c.in_ok-text-3.ensures,
      c.as_str-3.ensures,
      c.in_ok-uuid.ensures,
      c.in_ok-text-2.ensures,
      c.as_str-2.ensures,
      c.in_ok-number.ensures,
      c.get.ensures.value,
      c.in_ok-text.ensures,
      c.as_str.ensures,
      c.in_ok-flag.ensures,
      c.in_ok-put_list-2.ensures,
      c.as_slice-2.ensures,
      c.in_ok-put_list.ensures,
      c.as_slice.ensures,
      c.in_ok-begin_object.ensures,
      ← c.group.view_is,
    )
    refl
