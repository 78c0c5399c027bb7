use Rattle.std.proofs.Common.{◌-◌, length, append_assoc}
use Rattle.misp_elem.specs.Fields.{text_limit}
use Rattle.misp_elem.proofs.ShortTexts.{date_short}
use Rattle.misp_elem.proofs.TagFields.{name_short}
use Rattle.misp_elem.proofs.writing.bodies.put_event_body.Goals as goal

pub returns : goal.returns
returns c =
    rw (
      c.in_ok-put_tags.ensures,
      c.as_slice.ensures,
      c.in_ok-put_text-3.ensures,
      c.in_ok-put_uid.ensures,
      c.in_ok-put_optional_uid.ensures,
      c.in_ok-put_stamp.ensures,
      c.in_ok-put_byte-2.ensures,
      c.in_ok-put_byte.ensures,
      c.in_ok-put_text-2.ensures,
      c.in_ok-put_text.ensures,
    )
    (simp append_assoc)

pub put_tags-requires-clause-short : goal.put_tags-requires-clause-short
put_tags-requires-clause-short c =
    let body = c.args.body.now in
    rw c.as_slice.ensures (name_short (text_limit - length body.info) body.tags c.requires.1.1.1.1.1.1.1.1)

pub put_text-requires-2 : goal.put_text-requires-2
put_text-requires-2 c = date_short c.args.body.now.date c.requires.1.0
