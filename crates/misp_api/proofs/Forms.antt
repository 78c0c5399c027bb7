-- What a request asks is built, its role permits it, and its caller is the one whose key it has.
use Rattle.std.proofs.Common.{◌≡◌, ℕ, Bool, true, false, List, refl, subst, Option, Some, None, Result, Ok, Err, if◌then◌else◌}
use Rattle.misp_api.specs.Commands.{AsksBuilt}
use Rattle.misp_api.specs.Prelude.{Admin, Caller, Command, Commanded, FormatFault, Reading, RequestData, Route, RuleName, barred, caller_in, command_of, form_of, formed, is_allowed, read_of}
use Rattle.misp_api.specs.Prelude.{route_of}
use Rattle.misp_api.specs.Answering.{by_body, by_route, permitted}
use Rattle.misp_api.proofs.Built.{command_is}

-- ---- what is asked

abbrev BuiltCommand : Reading Command → Type 0
BuiltCommand (Ok command) = AsksBuilt command
BuiltCommand (Err refusal) = Unit {0}

abbrev pub BuiltForm : Reading Commanded → Type 0
BuiltForm (Ok it) = AsksBuilt it.1
BuiltForm (Err refusal) = Unit {0}

read_built : (read : Result Command FormatFault) → ((command : Command) → read ≡ Ok command → AsksBuilt command) → BuiltCommand (formed read)
read_built (Ok command) built = built command refl
read_built (Err FormatFault.NoJson) built = tt
read_built (Err (FormatFault.BadField path need)) built = tt
read_built (Err (FormatFault.BinaryType path)) built = tt
read_built (Err FormatFault.NoMemory) built = tt

command_built : (here : List ℕ) (route : Route) (body : List ℕ) (word : ℕ) → BuiltCommand (command_of here route body word)
command_built = command_is BuiltCommand (λ ask built. built) read_built

-- what a request asks is built
pub asks_built : (here : List ℕ) (route : Route) (body : List ℕ) (word : ℕ) (command : Command) → command_of here route body word ≡ Ok command → AsksBuilt command
asks_built here route body word command is = subst BuiltCommand is (command_built here route body word)

body_built : (caller : Caller) (read : Reading Command) → BuiltCommand read → BuiltForm (by_body caller read)
body_built caller (Ok command) built = built
body_built caller (Err refusal) built = tt

route_built : (here : List ℕ) (route : Result Route RuleName) (caller : Option Caller) (body : List ℕ) (word : ℕ) → BuiltForm (by_route here route caller body word)
route_built here (Err rule) caller body word = tt
route_built here (Ok route) None body word = tt
route_built here (Ok route) (Some caller) body word = body_built caller (command_of here route body word) (command_built here route body word)

request_built : (admin : Admin) (request : RequestData) → BuiltForm (read_of admin request)
unfolding read_of
request_built admin request = route_built request.here (route_of request.method request.target) (caller_in admin request.key) request.body request.word

-- `permitted`, by whether the role permits it
abbrev pub allowed : Bool → Commanded → Reading Commanded
allowed may it = if may then Ok it else Err (barred it.1)

allowed_built : (may : Bool) (it : Commanded) → AsksBuilt it.1 → BuiltForm (allowed may it)
allowed_built true it built = built
allowed_built false it built = tt

permitted_built : (read : Reading Commanded) → BuiltForm read → BuiltForm (permitted read)
permitted_built (Ok it) built = allowed_built (is_allowed it) it built
permitted_built (Err refusal) built = tt

pub form_built : (admin : Admin) (request : RequestData) → BuiltForm (form_of admin request)
form_built admin request = permitted_built (read_of admin request) (request_built admin request)

-- ---- what is permitted

abbrev pub AllowedForm : Reading Commanded → Type 0
AllowedForm (Ok it) = is_allowed it ≡ true
AllowedForm (Err refusal) = Unit {0}

by_role : (may : Bool) (it : Commanded) → (may ≡ true → is_allowed it ≡ true) → AllowedForm (allowed may it)
by_role true it may = may refl
by_role false it may = tt

permitted_allowed : (read : Reading Commanded) → AllowedForm (permitted read)
permitted_allowed (Ok it) = by_role (is_allowed it) it (λ may. may)
permitted_allowed (Err refusal) = tt

pub form_allowed : (admin : Admin) (request : RequestData) → AllowedForm (form_of admin request)
form_allowed admin request = permitted_allowed (read_of admin request)

-- ---- who asks

abbrev pub AskedBy : Option Caller → Reading Commanded → Type 0
AskedBy caller (Ok it) = caller ≡ Some it.0
AskedBy caller (Err refusal) = Unit {0}

body_asked : (caller : Caller) (read : Reading Command) → AskedBy (Some caller) (by_body caller read)
body_asked caller (Ok command) = refl
body_asked caller (Err refusal) = tt

route_asked : (here : List ℕ) (route : Result Route RuleName) (caller : Option Caller) (body : List ℕ) (word : ℕ) → AskedBy caller (by_route here route caller body word)
route_asked here (Err rule) caller body word = tt
route_asked here (Ok route) None body word = tt
route_asked here (Ok route) (Some caller) body word = body_asked caller (command_of here route body word)

read_caller : (admin : Admin) (request : RequestData) → AskedBy (caller_in admin request.key) (read_of admin request)
unfolding read_of
read_caller admin request = route_asked request.here (route_of request.method request.target) (caller_in admin request.key) request.body request.word

allowed_asked : (caller : Option Caller) (may : Bool) (it : Commanded) → caller ≡ Some it.0 → AskedBy caller (allowed may it)
allowed_asked caller true it is = is
allowed_asked caller false it is = tt

permitted_asked : (caller : Option Caller) (read : Reading Commanded) → AskedBy caller read → AskedBy caller (permitted read)
permitted_asked caller (Ok it) is = allowed_asked caller (is_allowed it) it is
permitted_asked caller (Err refusal) is = tt

pub form_caller : (admin : Admin) (request : RequestData) → AskedBy (caller_in admin request.key) (form_of admin request)
form_caller admin request = permitted_asked (caller_in admin request.key) (read_of admin request) (read_caller admin request)
