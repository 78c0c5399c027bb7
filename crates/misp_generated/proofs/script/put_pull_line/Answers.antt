use Rattle.std.proofs.Common.{append_assoc}
use Rattle.misp_generated.proofs.script.put_pull_line.Goals as goal

pub returns : goal.returns
returns c = rw (c.in_ok-put-4.ensures, c.in_ok-put-3.ensures, c.in_ok-put-2.ensures, c.in_ok-put.ensures) (simp append_assoc)
