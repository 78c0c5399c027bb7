use Rattle.std.proofs.Common.{◌≡◌, ◌+◌, ◌-◌, length, drop, take, sym, arith}
use Rattle.std.proofs.lemmas.Grind.{common_steps}
use Rattle.misp_script.proofs.Cutting.{lines_at}
use Rattle.misp_script.proofs.lines.split_line.Goals as goal

pub returns-in-Some-clause-lines : goal.returns-in-Some-clause-lines
returns-in-Some-clause-lines c =
    let after : take (length c.args.script.now - (c.in-Some.end + 1)) (drop (c.in-Some.end + 1) c.args.script.now) ≡ drop (c.in-Some.end + 1) c.args.script.now = grind (arith, common_steps) in
    rw after (lines_at c.args.script.now c.in-Some.end (sym c.in-Some.ensures))
