use Rattle.std.proofs.Common.{◌≡◌, ◌||◌, drop}
use Rattle.misp_http.specs.Lines.{ends_head}
use Rattle.misp_http.proofs.lines.LineScanner.scan.Given as goal

-- what is left decides, unless it has ended
abbrev pub invariant-loop-byte : goal.invariant-loop-byte
invariant-loop-byte l =
    (l.ended || ends_head l.self.begun l.self.empty (drop l.byte-index l.bytes)) ≡ ends_head l.fn.self.begun l.fn.self.empty l.bytes
