-- What a request is by its form, and what it is replied.
use Rattle.std.specs.Prelude.{◌≡◌, ℕ, true, List, Option, Some, None, Result, Ok, Err, if◌then◌else◌}
use Rattle.misp_ids.specs.Names.{is_api_key}
use Rattle.misp_orgs.specs.Admin.{who_of}
use Rattle.misp_core.specs.Prelude.{Admin, Caller, Did, Effect, Held, Host, RuleName, Seen, bare, refused, seen_in}
use Rattle.misp_core.specs.Managing.{managed_after}
use Rattle.misp_core.specs.declared.reply.Reply.{Reply}
use Rattle.misp_api.specs.declared.command.Command.{Command}
use Rattle.misp_api.specs.declared.route.Route.{Route}
use Rattle.misp_api.specs.Commands.{Commanded, barred, command_effect, is_allowed, is_pulling, is_syncing}
use Rattle.misp_api.specs.Route.{route_of}
use Rattle.misp_http.specs.declared.request.Request.{Request}
use Rattle.misp_api.specs.Request.{RequestData, Reading, command_of, request_data}

-- who asks with a text as key, which may be none that a key could be
abbrev pub caller_in : Admin → Option (List ℕ) → Option Caller
caller_in admin None = None
caller_in admin (Some text) = if is_api_key text then who_of admin text else None

abbrev pub by_body : Caller → Reading Command → Reading Commanded
by_body caller (Ok command) = Ok (caller, command)
by_body caller (Err refusal) = Err refusal

abbrev pub by_key : List ℕ → Option Caller → Route → List ℕ → ℕ → Reading Commanded
by_key here None route body word = Err (bare RuleName.NoKey)
by_key here (Some caller) route body word = by_body caller (command_of here route body word)

abbrev pub by_route :
    List ℕ → Result Route RuleName → Option Caller → List ℕ → ℕ → Reading Commanded
by_route here (Err rule) caller body word = Err (bare rule)
by_route here (Ok route) caller body word = by_key here caller route body word

-- the command that a request is, and whose it is: first its route must be one, then its key, then
-- its body
unfoldable pub read_of : Admin → RequestData → Reading Commanded
read_of admin request =
    by_route request.here (route_of request.method request.target)
    (caller_in admin request.key) request.body request.word

-- the command, where the role of the caller permits it
abbrev pub permitted : Reading Commanded → Reading Commanded
permitted (Ok it) = if is_allowed it then Ok it else Err (barred it.1)
permitted (Err refusal) = Err refusal

-- what a request is by its form and the role of its caller
abbrev pub form_of : Admin → RequestData → Reading Commanded
form_of admin request = permitted (read_of admin request)

-- the same of a request to an instance, of this word
abbrev pub form_at : Host → ℕ → Request → Reading Commanded
form_at host word request = form_of host.admin (request_data host.name word request)

-- it is what a pull asks, or is refused
abbrev pub IsPull : Reading Commanded → Type 0
IsPull (Ok it) = is_pulling it.1 ≡ true
IsPull (Err refusal) = Unit {0}

-- it is what a synchronisation asks, or is refused
abbrev pub IsSync : Reading Commanded → Type 0
IsSync (Ok it) = is_syncing it.1 ≡ true
IsSync (Err refusal) = Unit {0}

-- ---- a request of this form

-- what it comes to by what is seen
abbrev pub replied : Host → ℕ → Reading Commanded → Seen → Effect Reply
replied host now (Ok it) here = command_effect host now it.0 it.1 here
replied host now (Err refusal) here = refused refusal

-- the administration after a command was replied so
abbrev pub command_after : Command → Admin → Reply → Admin
command_after (Command.Manages ask) admin reply = managed_after ask admin reply
command_after command admin reply = admin

-- the same after a request of this form
abbrev pub admin_after : Reading Commanded → Admin → Reply → Admin
admin_after (Ok it) admin reply = command_after it.1 admin reply
admin_after (Err refusal) admin reply = admin

-- it was replied so, and left this
abbrev pub IsReplied : Host → ℕ → Reading Commanded → Held → Reply → Held → Type 0
IsReplied host now form held reply new =
    Did (replied host now form (seen_in held)) held reply new
