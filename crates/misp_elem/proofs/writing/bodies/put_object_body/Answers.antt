use Rattle.std.proofs.Common.{append_assoc}
use Rattle.misp_elem.proofs.writing.bodies.put_object_body.Goals as goal

pub returns : goal.returns
returns c =
    rw (c.in_ok-put_flag.ensures, c.in_ok-put_u64.ensures, c.in_ok-put_optional_uid.ensures, c.in_ok-put_text-4.ensures, c.in_ok-put_text-3.ensures, c.in_ok-put_text-2.ensures, c.in_ok-put_text.ensures)
    (simp append_assoc)
