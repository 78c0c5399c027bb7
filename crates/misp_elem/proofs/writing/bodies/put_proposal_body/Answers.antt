use Rattle.std.proofs.Common.{append_assoc}
use Rattle.misp_elem.proofs.writing.bodies.put_proposal_body.Goals as goal

pub returns : goal.returns
returns c =
    rw (c.in_ok-put_text-4.ensures, c.in_ok-put_text-3.ensures, c.in_ok-put_flag-2.ensures, c.in_ok-put_byte.ensures, c.in_ok-put_text-2.ensures, c.in_ok-put_text.ensures, c.in_ok-put_flag.ensures)
    (simp append_assoc)
