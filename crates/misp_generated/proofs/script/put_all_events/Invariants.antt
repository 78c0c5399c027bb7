use Rattle.std.proofs.Common.{◌≡◌, ◌++◌, flat_map, string_bytes}
use Rattle.std.specs.List.{range_with_len}
use Rattle.misp_generated.specs.Script.{event_lines}
use Rattle.misp_generated.proofs.script.put_all_events.Given as goal

-- the events so far
abbrev pub invariant-loop-index : goal.invariant-loop-index
invariant-loop-index l = string_bytes l.out ≡ string_bytes l.fn.out ++ flat_map event_lines (range_with_len 1 l.index)
