use Rattle.std.proofs.Common.{append_assoc}
use Rattle.misp_generated.proofs.script.put_event_body.Goals as goal

pub returns : goal.returns
returns c = rw (c.in_ok-put-6.ensures, c.in_ok-put_number-3.ensures, c.in_ok-put-5.ensures, c.in_ok-put_uuid-2.ensures, c.in_ok-put-4.ensures, c.in_ok-put_number-2.ensures, c.in_ok-put-3.ensures, c.in_ok-put_number.ensures, c.in_ok-put-2.ensures, c.in_ok-put_uuid.ensures, c.in_ok-put.ensures, c.event_uuid.ensures, c.attribute_uuid.ensures, c.from.ensures, c.from-2.ensures, c.from-3.ensures) (simp append_assoc)
