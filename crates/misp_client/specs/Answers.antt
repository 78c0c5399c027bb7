-- What the reply to a call tells, by its status and its body, and what bytes tell.
use Rattle.std.specs.Prelude.{◌≡◌, ◌⊎◌, ◌==◌, ℕ, List, length, Option, Some, None, option_map, Result, Ok, Err, if◌then◌else◌}
use Rattle.misp_http.specs.Reply.{HasNoReplyHead, HasOtherBody, IsReply}
use Rattle.misp_protocol.specs.Parts.{parts_listed}
use Rattle.misp_protocol.specs.declared.cause.Body.{Body}
use Rattle.misp_protocol.specs.declared.cause.Cause.{Cause}
use Rattle.misp_protocol.specs.declared.request.Answer.{Answer}
use Rattle.misp_client.specs.Bodies.{groups_in, manifest_in, package_in, rule_told, taken_in}
use Rattle.misp_client.specs.declared.call.Call.{Call}

-- ---- a body of the status 200

-- what its body is to be
abbrev pub kind_of : Call → Body
kind_of Call.Groups = Body.Groups
kind_of Call.Manifest = Body.Manifest
kind_of (Call.Rows w) = Body.Package
kind_of (Call.TakeGroups groups) = Body.Taken
kind_of (Call.TakePart p) = Body.Taken

-- what is read of the body; no more is taken than was sent
abbrev pub read_of : Call → List ℕ → Option Answer
read_of Call.Groups body = option_map Answer.Groups (groups_in body)
read_of Call.Manifest body =
    option_map (λ events. Answer.Manifest (parts_listed events)) (manifest_in body)
read_of (Call.Rows w) body = option_map Answer.Part (package_in w body)
read_of (Call.TakeGroups groups) body = option_map Answer.Taken (taken_in (length groups) body)
read_of (Call.TakePart p) body = option_map Answer.Taken (taken_in (length p.rows) body)

-- what there is, or else that it has not the form
abbrev pub or_garbled : {A : Type 0} → Body → Option A → Result A Cause
or_garbled kind None = Err (Cause.Garbled kind)
or_garbled kind (Some x) = Ok x

-- ---- a reply

abbrev pub refused_by : ℕ → Option ℕ → Cause
refused_by status None = Cause.Garbled Body.Body
refused_by status (Some rule) = Cause.Refused status rule

-- what a body of another status than 200 says
abbrev pub refused_in : ℕ → List ℕ → Cause
refused_in status body = refused_by status (rule_told body)

-- what a reply of this status with this body tells
abbrev pub answered_in : Call → ℕ → List ℕ → Result Answer Cause
answered_in call status body =
    if status == 200 then or_garbled (kind_of call) (read_of call body)
    else Err (refused_in status body)

-- ---- bytes

-- This is told by the bytes: they are a reply that tells it, or no reply, and then the head or the
-- body is garbled.
abbrev pub IsToldBy : Call → List ℕ → Result Answer Cause → Type 0
IsToldBy call bytes told =
    ((status : ℕ) × (body : List ℕ) × IsReply bytes status body
    × (answered_in call status body ≡ told))
    ⊎ (HasNoReplyHead bytes × (told ≡ Err (Cause.Garbled Body.Head)))
    ⊎ (HasOtherBody bytes × (told ≡ Err (Cause.Garbled Body.Body)))
