use Rattle.std.proofs.Common.{◌≡◌, ℕ, List, ◌++◌, string_bytes}
use Rattle.std.specs.Prelude.{codes}
use Rattle.misp_ids.specs.Uid.{text_of}
use Rattle.misp_generated.specs.Script.{event_body, event_uuid, request_line}
use Rattle.misp_generated.proofs.Texts.{asked_for, further}
use Rattle.misp_generated.proofs.script.put_event_lines.Goals as goal

pub returns : goal.returns
returns c =
    let line : List ℕ → List ℕ = request_line (codes "a") 65 in
    let add : List ℕ = codes "POST /events/add " in
    let publish : List ℕ = codes "POST /events/publish/" in
    let body : List ℕ = event_body c.args.number in
    let id : List ℕ = text_of (event_uuid c.args.number) in
    let added : string_bytes c.put-2.new.out ≡ string_bytes c.args.out.now ++ line (add ++ body) =
    asked_for (string_bytes c.args.out.now) (string_bytes c.put_request_head.new.out) (codes "\n") line c.in_ok-put_request_head.ensures add body
    (string_bytes c.put.new.out) (string_bytes c.put_event_body.new.out) c.in_ok-put.ensures c.in_ok-put_event_body.ensures c.in_ok-put-2.ensures in
    further (string_bytes c.args.out.now) (line (add ++ body)) (line (publish ++ id)) added
    (asked_for (string_bytes c.put-2.new.out) (string_bytes c.put_request_head-2.new.out) (codes "\n") line c.in_ok-put_request_head-2.ensures publish id
    (string_bytes c.put-3.new.out) (string_bytes c.put_uuid.new.out) c.in_ok-put-3.ensures (rw c.event_uuid.ensures at c.in_ok-put_uuid.ensures) c.in_ok-put-4.ensures)
