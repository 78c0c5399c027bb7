-- What the bytes of a call are read as.
use Rattle.std.specs.Prelude.{ℕ, true, List, Some, if◌then◌else◌}
use Rattle.misp_http.specs.declared.fault.Fault.TheVariants.{BadHead}
use Rattle.misp_http.specs.declared.fault.HeadFault.TheVariants.{LongBody}
use Rattle.misp_http.specs.declared.request.Read.{Read}
use Rattle.misp_http.specs.declared.request.Read.TheVariants as reads
use Rattle.misp_http.specs.declared.request.Request.{Request}
use Rattle.misp_client.specs.Calling.{is_short}
use Rattle.misp_client.specs.Calls.{body_of, method_of, target_of}
use Rattle.misp_client.specs.declared.call.Call.{Call}

-- its request
abbrev pub request_of : List ℕ → Call → Request
request_of key call =
    record {
      method = method_of call;
      target = target_of call;
      key = Some key;
      body = body_of call;
      close = true;
    }

-- a request, or one that is refused where its body is too long
abbrev pub read_of_call : List ℕ → Call → Read
read_of_call key call =
    if is_short (body_of call) then reads.Request (request_of key call)
    else reads.Refused (BadHead LongBody)
