use Rattle.std.proofs.Common.{◌≡◌, [], drop, sym, ◌∙◌, arith}
use Rattle.std.proofs.lemmas.List.{drop_all}
use Rattle.misp_http.specs.Lines.{ends_head}
use Rattle.misp_http.proofs.Ends.{or_false}
use Rattle.misp_http.proofs.lines.LineScanner.scan.Goals as goal

pub returns : goal.returns
unfolding ends_head
returns c =
    let none : drop c.loop-byte.byte-index c.args.bytes.now ≡ [] = drop_all c.loop-byte.byte-index c.args.bytes.now (omega (arith, c.loop-byte-test.false)) in
    sym (or_false c.loop-byte.ended) ∙ (rw none at c.loop-byte.invariant)
