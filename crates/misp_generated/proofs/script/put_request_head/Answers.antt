use Rattle.std.proofs.Common.{append_assoc}
use Rattle.misp_generated.proofs.script.put_request_head.Goals as goal

pub returns : goal.returns
returns c request = rw (c.in_ok-put-5.ensures, c.in_ok-put_key.ensures, c.in_ok-put-4.ensures, c.in_ok-put-3.ensures, c.in_ok-put-2.ensures, c.in_ok-put.ensures) (simp append_assoc)
