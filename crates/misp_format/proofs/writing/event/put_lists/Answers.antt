use Rattle.std.proofs.Common.{refl}
use Rattle.misp_format.proofs.writing.event.put_lists.Goals as goal

pub returns : goal.returns
returns c =
    rw (
      ← c.event.view_is,
      c.in_ok-put_list-4.ensures,
      c.as_slice-4.ensures,
      c.in_ok-put_sharing_group.ensures,
      c.in_ok-put_list-3.ensures,
      c.as_slice-3.ensures,
      c.in_ok-org-2.ensures,
      c.as_str-2.ensures,
      c.in_ok-org.ensures,
      c.as_str.ensures,
      c.in_ok-put_list-2.ensures,
      c.as_slice-2.ensures,
      c.in_ok-put_list.ensures,
      c.as_slice.ensures,
    )
    refl
