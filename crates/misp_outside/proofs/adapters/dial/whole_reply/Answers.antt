use Rattle.std.proofs.Common.{arith}
use Rattle.misp_outside.proofs.Replies.{all_came}
use Rattle.misp_outside.proofs.adapters.dial.whole_reply.Goals as goal

pub returns-clause-whole : goal.returns-clause-whole
returns-clause-whole g c =
    let all = all_came _ _ _ _ c.read_to_end.new.buf.items c.in_ok-count.ensures.bytes c.take.ensures.limit c.new-reply.ensures.items
    (omega (arith, c.in_ok-count.ensures.ok, c.new-reply.ensures.len, c.if-count-gt-MOST_BYTES.false)) in
    rw (← c.take.ensures.inner) all
