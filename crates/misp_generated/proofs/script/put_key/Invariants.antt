use Rattle.std.proofs.Common.{◌≡◌, ◌++◌, replicate, string_bytes}
use Rattle.misp_generated.proofs.script.put_key.Given as goal

-- the letter as often as the loop has turned
abbrev pub invariant-loop : goal.invariant-loop
invariant-loop l = string_bytes l.out ≡ string_bytes l.fn.out ++ replicate l.counter l.letter
