-- The request of a call comes to what is stated of the call.
use Rattle.std.proofs.Common.{◌≡◌, ℕ, Bool, true, false, List, map, refl, sym, subst, ◌∙◌, ap, Option, Some, None, Ok, Err, if◌then◌else◌}
use Rattle.std.specs.List.{list_all}
use Rattle.misp_ids.specs.Refusal.{bare}
use Rattle.misp_orgs.specs.Admin.{who_of}
use Rattle.misp_format.specs.Rows as rows
use Rattle.misp_format.specs.WholeGroup.{groups_text, uncarried}
use Rattle.misp_http.specs.declared.fault.Fault.TheVariants.{BadHead}
use Rattle.misp_http.specs.declared.fault.HeadFault.TheVariants.{LongBody}
use Rattle.misp_http.specs.declared.request.Read.TheVariants as reads
use Rattle.misp_manifest.specs.declared.wanted.WantedFields.{WantedFields as Wanted}
use Rattle.misp_manifest.specs.Wanted.{IsWanted}
use Rattle.misp_model.specs.Machine.{pulls}
use Rattle.misp_model.specs.Package.{IsPackage}
use Rattle.misp_model.specs.declared.package.PackageFields.{PackageFields as Package}
use Rattle.misp_package.specs.Spelling.{spell_package}
use Rattle.misp_package.proofs.SpelledPackages.{package_of_bytes_again}
use Rattle.misp_store.specs.Prelude.{AllByRecursion}
use Rattle.misp_wanted.specs.ManifestSpelling.{spell_wanted}
use Rattle.misp_wanted.proofs.ManifestFields.{wanted_again}
use Rattle.misp_core.specs.Prelude.{Ask, Caller, Effect, Group, Host, IsGroup, RuleName, Seen, refused}
use Rattle.misp_core.specs.declared.reply.Reply.{Reply}
use Rattle.misp_client.specs.Calling.{IsCall, IsCallable, called, called_as, is_short, too_large}
use Rattle.misp_client.specs.Calls.{body_of, method_of, target_of}
use Rattle.misp_client.specs.Requests.{read_of_call, request_of}
use Rattle.misp_client.specs.declared.call.Call.{Call}
use Rattle.misp_client.proofs.GroupTexts.{groups_back}
use Rattle.misp_api.specs.Answering.{IsSync, by_key, permitted, read_of, replied}
use Rattle.misp_api.specs.Commands.{Commanded, barred, command_effect, commanded, is_allowed}
use Rattle.misp_api.specs.Path.{kind_of, paths}
use Rattle.misp_api.specs.Request.{Reading, ask_command, asked_rows, command_of, formed, groups_command, handed, is_byte, no_package, request_data}
use Rattle.misp_api.specs.Route.{path_route, route_of}
use Rattle.misp_api.specs.Sending.{read_form}
use Rattle.misp_api.specs.declared.command.Command.{Command}
use Rattle.misp_api.specs.declared.route.Route.{Route}
use Rattle.misp_api.proofs.CalledGroups.{groups_listed_in}

-- ---- its route

abbrev route_for : Call → Route
route_for Call.Groups = Route.SyncGroups
route_for Call.Manifest = Route.SyncManifest
route_for (Call.Rows w) = Route.SyncRows
route_for (Call.TakeGroups groups) = Route.TakeGroups
route_for (Call.TakePart p) = Route.TakePart

route_is : (call : Call) → route_of (method_of call) (target_of call) ≡ Ok (route_for call)
unfolding route_of path_route kind_of paths
route_is Call.Groups = refl
route_is Call.Manifest = refl
route_is (Call.Rows w) = refl
route_is (Call.TakeGroups groups) = refl
route_is (Call.TakePart p) = refl

-- ---- its command

abbrev command_for : Call → Command
command_for Call.Groups = Command.Asks Ask.SyncGroups
command_for Call.Manifest = Command.Asks Ask.SyncManifest
command_for (Call.Rows w) = Command.Asks (Ask.SyncRows w)
command_for (Call.TakeGroups groups) = Command.TakesGroups (map uncarried groups)
command_for (Call.TakePart p) = Command.Asks (Ask.TakePart p)

rows_read : (here : List ℕ) (w : Wanted) → IsWanted w → (word : ℕ) → command_of here Route.SyncRows (spell_wanted w) word ≡ Ok (Command.Asks (Ask.SyncRows w))
unfolding command_of
rows_read here w is word = ap (λ read. formed (ask_command (asked_rows read))) (wanted_again w is)

groups_read : (here : List ℕ) (groups : List Group) → AllByRecursion IsGroup groups → (word : ℕ) → command_of here Route.TakeGroups (groups_text groups) word ≡ Ok (Command.TakesGroups (map uncarried groups))
unfolding command_of
groups_read here groups are word =
    ap (λ (read : rows.Reading (List Group)). formed (groups_command read)) (groups_listed_in (groups_text groups) (map uncarried groups) (groups_back groups are))

part_read : (here : List ℕ) (p : Package) → IsPackage p → list_all is_byte (spell_package p) ≡ true → (word : ℕ) → command_of here Route.TakePart (spell_package p) word ≡ Ok (Command.Asks (Ask.TakePart p))
unfolding command_of
part_read here p is fits word =
    (λ i. formed (ask_command (if fits i then handed (package_of_bytes_again p is i) else Err no_package)))

command_is : (here : List ℕ) (call : Call) → IsCall call → list_all is_byte (body_of call) ≡ true → (word : ℕ) → command_of here (route_for call) (body_of call) word ≡ Ok (command_for call)
unfolding command_of
command_is here Call.Groups is fits word = refl
command_is here Call.Manifest is fits word = refl
command_is here (Call.Rows w) is fits word = rows_read here w is word
command_is here (Call.TakeGroups groups) is fits word = groups_read here groups is.0 word
command_is here (Call.TakePart p) is fits word = part_read here p is fits word

-- ---- its form

-- by who asks
abbrev form_by : Option Caller → Command → Reading Commanded
form_by None command = Err (bare RuleName.NoKey)
form_by (Some caller) command = Ok (caller, command)

by_key_is : (here : List ℕ) (caller : Option Caller) (route : Route) (body : List ℕ) (word : ℕ) (command : Command) → command_of here route body word ≡ Ok command
    → by_key here caller route body word ≡ form_by caller command
by_key_is here None route body word command is = refl
by_key_is here (Some caller) route body word command is = rw is refl

-- ---- what it comes to

-- a command, by who asks
abbrev commanded_by : Host → ℕ → Option Caller → Command → Seen → Effect Reply
commanded_by host now None command seen = refused (bare RuleName.NoKey)
commanded_by host now (Some caller) command seen = commanded host now (caller, command) seen

-- by whether the role of the caller permits it
abbrev by_role : Bool → Commanded → Reading Commanded
by_role may it = if may then Ok it else Err (barred it.1)

role_comes : (host : Host) (now : ℕ) (may : Bool) (it : Commanded) (seen : Seen)
    → replied host now (by_role may it) seen ≡ (if may then command_effect host now it.0 it.1 seen else refused (barred it.1))
role_comes host now true it seen = refl
role_comes host now false it seen = refl

comes : (host : Host) (now : ℕ) (caller : Option Caller) (command : Command) (seen : Seen)
    → replied host now (permitted (form_by caller command)) seen ≡ commanded_by host now caller command seen
comes host now None command seen = refl
comes host now (Some caller) command seen = role_comes host now (is_allowed (caller, command)) (caller, command) seen

commands : (host : Host) (now : ℕ) (caller : Option Caller) (call : Call) (seen : Seen) → commanded_by host now caller (command_for call) seen ≡ called_as host now caller call seen
commands host now None call seen = refl
commands host now (Some caller) Call.Groups seen = refl
commands host now (Some caller) Call.Manifest seen = refl
commands host now (Some caller) (Call.Rows w) seen = refl
commands host now (Some caller) (Call.TakeGroups groups) seen = refl
commands host now (Some caller) (Call.TakePart p) seen = refl

-- ---- it is what a synchronisation asks

role_syncs : (may : Bool) (caller : Caller) (call : Call) → IsSync (by_role may (caller, command_for call))
unfolding pulls
role_syncs true caller Call.Groups = refl
role_syncs true caller Call.Manifest = refl
role_syncs true caller (Call.Rows w) = refl
role_syncs true caller (Call.TakeGroups groups) = refl
role_syncs true caller (Call.TakePart p) = refl
role_syncs false caller call = tt

form_syncs : (caller : Option Caller) (call : Call) → IsSync (permitted (form_by caller (command_for call)))
form_syncs None call = tt
form_syncs (Some caller) call = role_syncs (is_allowed (caller, command_for call)) caller call

-- ---- THE LAW

module _ (host : Host) (word : ℕ) (key : List ℕ) (call : Call) (is : IsCallable key call) (fits : list_all is_byte (body_of call) ≡ true) where
  read_is : read_of host.admin (request_data host.name word (request_of key call)) ≡ form_by (who_of host.admin key) (command_for call)
  unfolding read_of
  read_is = rw (route_is call, is.key_is) (by_key_is host.name (who_of host.admin key) (route_for call) (body_of call) word (command_for call) (command_is host.name call is.call_is fits word))

  effect_as : (now : ℕ) (seen : Seen) (short : Bool)
      → replied host now (read_form host word (if short then reads.Request (request_of key call) else reads.Refused (BadHead LongBody))) seen
      ≡ (if short then called_as host now (who_of host.admin key) call seen else refused too_large)
  effect_as now seen true =
      ap (λ form. replied host now (permitted form) seen) read_is
      ∙ comes host now (who_of host.admin key) (command_for call) seen
      ∙ commands host now (who_of host.admin key) call seen
  effect_as now seen false = refl

  pub call_comes : (now : ℕ) (seen : Seen) → replied host now (read_form host word (read_of_call key call)) seen ≡ called host now key call seen
  call_comes now seen = effect_as now seen (is_short (body_of call))

  syncs_as : (short : Bool) → IsSync (read_form host word (if short then reads.Request (request_of key call) else reads.Refused (BadHead LongBody)))
  syncs_as true = subst (λ form. IsSync (permitted form)) (sym read_is) (form_syncs (who_of host.admin key) call)
  syncs_as false = tt

  pub call_syncs : IsSync (read_form host word (read_of_call key call))
  call_syncs = syncs_as (is_short (body_of call))
