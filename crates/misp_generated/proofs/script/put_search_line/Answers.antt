use Rattle.std.specs.Prelude.{codes, string_bytes}
use Rattle.misp_generated.specs.Script.{request_line}
use Rattle.misp_generated.proofs.Texts.{asked}
use Rattle.misp_generated.proofs.script.put_search_line.Goals as goal

pub returns : goal.returns
returns c =
    asked (string_bytes c.args.out.now) (string_bytes c.put_request_head.new.out) (codes "\n") (request_line c.args.inst.now c.args.letter)
    c.in_ok-put_request_head.ensures (codes "POST /attributes/restSearch {\"value\":\"value 1\"}") c.in_ok-put.ensures
