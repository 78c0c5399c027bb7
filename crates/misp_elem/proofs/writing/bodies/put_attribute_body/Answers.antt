use Rattle.std.proofs.Common.{◌-◌, length, append_assoc}
use Rattle.misp_elem.specs.Fields.{text_limit}
use Rattle.misp_elem.proofs.TagFields.{name_short}
use Rattle.misp_elem.proofs.writing.bodies.put_attribute_body.Goals as goal

pub put_tags-requires-clause-short : goal.put_tags-requires-clause-short
put_tags-requires-clause-short c =
    let body = c.args.body.now in
    rw c.as_slice.ensures (name_short (text_limit - length body.kind - length body.comment - length body.value) body.tags c.requires.1.1.1.1.1.1.0)

pub returns : goal.returns
returns c =
    rw (
      c.in_ok-put_optional_moment-2.ensures,
      c.in_ok-put_optional_moment.ensures,
      c.in_ok-put_text-4.ensures,
      c.in_ok-put_tags.ensures,
      c.as_slice.ensures,
      c.in_ok-put_text-3.ensures,
      c.in_ok-put_flag-2.ensures,
      c.in_ok-put_text-2.ensures,
      c.in_ok-put_flag.ensures,
      c.in_ok-put_byte.ensures,
      c.in_ok-put_text.ensures,
    )
    (simp append_assoc)
