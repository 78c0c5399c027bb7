use Rattle.std.proofs.Common.{◌+◌, string_bytes, arith}
use Rattle.misp_generated.specs.Script.{event_lines}
use Rattle.misp_generated.proofs.Texts.{one_more}
use Rattle.misp_generated.proofs.script.put_all_events.Goals as goal

pub loop-index-preserved : goal.loop-index-preserved
loop-index-preserved c =
    one_more event_lines (string_bytes c.args.out.now) 1 c.loop-index.index (c.loop-index.index + 1) (c.loop-index.index + 1) c.loop-index.invariant c.in_ok-put_event_lines.ensures (omega arith) (omega arith)
