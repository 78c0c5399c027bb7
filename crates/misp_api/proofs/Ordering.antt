-- The reply to a request refuses by the first rule that refuses it.
use Rattle.std.proofs.Common.{◌≡◌, ℕ, Bool, true, false, List, [], ◌∷◌, refl, ap, sym, subst, ◌∙◌, map, option_map, Option, Some, None, Result, Ok, Err, ◌==◌, not, is_some, bytes_eq, if◌then◌else◌}
use Rattle.misp_outside.specs.Reporting.{WhereReported}
use Rattle.misp_outside.proofs.Reporting.{reported_so}
use Rattle.misp_effects.specs.Effect.{under, stop_of}
use Rattle.misp_model.proofs.Prelude.{Rule, VisibleEvent, answer, first_rule, ok_answer, shown}
use Rattle.misp_model.specs.Machine.{event_changed}
use Rattle.misp_manifest.specs.declared.wanted.WantedFields.{WantedFields}
use Rattle.misp_model.specs.Manifests.{only_of, pulled_only}
use Rattle.misp_model.specs.Pulling.{pulled_part}
use Rattle.misp_model.specs.declared.package.PackageFields.{PackageFields}
use Rattle.misp_edit.specs.Refusals.{named}
use Rattle.misp_core.specs.Prelude.{Admin, Ask, Asked, Caller, Did, Effect, EventId, FormatFault, Group, Held, Host, IsBuilt, OrgId, Row, RuleName, Scene, Seen, Standing, View, ask_rules, asked_over, host_of}
use Rattle.misp_core.specs.Prelude.{option_map_or, read_where, refused, reply_in, rule_number, scene_at, seeing, seen_in, stop_in}
use Rattle.misp_core.specs.Answers.{reply_of}
use Rattle.misp_core.specs.Saving.{IsOfEvent}
use Rattle.misp_core.specs.Administering.{effect_by}
use Rattle.misp_ids.specs.Same.{same_org}
use Rattle.misp_ids.specs.Moments.{last_stamp}
use Rattle.misp_ids.specs.declared.uid.GroupId.{GroupId}
use Rattle.misp_groups.specs.Audience.{is_known_group, known_group}
use Rattle.misp_groups.specs.Groups.{why_kept, why_not}
use Rattle.misp_orgs.specs.declared.link.Link.{Link}
use Rattle.misp_orgs.specs.Admin.{link_of, record_of}
use Rattle.misp_orgs.specs.Keys.{KeyFields, caller_where}
use Rattle.misp_admins.specs.Asks.{Ground, first_ground, item_of, link_edited, revoked}
use Rattle.misp_admins.specs.declared.ask.AdminAsk.{AdminAsk}
use Rattle.misp_admins.specs.declared.ask.LinkEdit.{LinkEdit}
use Rattle.misp_admins.specs.declared.item.Item.{Item}
use Rattle.misp_core.specs.Managing.{managed_by}
use Rattle.misp_core.proofs.Decisions.{of_event}
use Rattle.misp_core.specs.Effects.{telling}
use Rattle.misp_api.specs.Commands.{AsksBuilt}
use Rattle.misp_api.specs.Prelude.{AskFault, Command, Commanded, Gives, Reading, Reply, RequestData, Route, barred, caller_in, command_effect, command_of, commanded, fault_reply, formed, is_allowed, read_of, route_of}
use Rattle.misp_api.specs.Route.{method_of, by_method}
use Rattle.misp_api.proofs.Built.{command_is}
use Rattle.misp_api.specs.Answering.{by_body, by_key, by_route}
use Rattle.misp_api.specs.Order.{rule_of, IsInOrder, command_grounds, sharing_grounds, is_carried, is_last, ground_of, row_grounds, grounds, route_asked, is_refused_by, asked_grounds, order}
use Rattle.misp_admins.specs.Asks as asks
use Rattle.misp_effects.specs.Effect as effects
use Rattle.misp_model.specs.Scene as asking
use Rattle.misp_model.specs.Answers as model

-- ---- what is asked

-- the first of the named rules is the name of the first
first_named : (rs : List (Bool × Rule)) → first_ground (map ground_of rs) ≡ option_map named (first_rule rs)
unfolding first_ground first_rule
first_named [] = refl
first_named ((true, r) ∷ rs) = refl
first_named ((false, r) ∷ rs) = first_named rs

by_seen : (admin : Admin) (s : Scene) (event : EventId) (owner : Option OrgId) (seen : Option VisibleEvent)
    → rule_of (reply_of admin s (View event owner) (elim (first_rule ((elim seen [ None ↦ true | Some x ↦ false ], asking.NotGranted) ∷ []))
    [ None ↦ elim seen [ None ↦ model.Other | Some x ↦ model.Seen x ] | Some r ↦ model.Refused r ]))
    ≡ first_ground (map ground_of ((elim seen [ None ↦ true | Some x ↦ false ], asking.NotGranted) ∷ []))
unfolding first_ground first_rule
by_seen admin s event owner None = refl
by_seen admin s event owner (Some v) = refl

by_part : (admin : Admin) (s : Scene) (event : EventId) (n : ℕ) (part : Option PackageFields)
    → rule_of (reply_of admin s (Ask.SyncPart event n) (elim (first_rule ((elim part [ None ↦ true | Some x ↦ false ], asking.NotGranted) ∷ []))
    [ None ↦ elim part [ None ↦ model.Other | Some x ↦ model.Packed x ] | Some r ↦ model.Refused r ]))
    ≡ first_ground (map ground_of ((elim part [ None ↦ true | Some x ↦ false ], asking.NotGranted) ∷ []))
unfolding first_ground first_rule
by_part admin s event n None = refl
by_part admin s event n (Some p) = refl

by_rows_of : (admin : Admin) (s : Scene) (w : WantedFields) (part : Option PackageFields)
    → rule_of (reply_of admin s (Ask.SyncRows w) (elim (first_rule ((elim part [ None ↦ true | Some x ↦ false ], asking.NotGranted) ∷ []))
    [ None ↦ elim (option_map (only_of w.keys) part) [ None ↦ model.Other | Some x ↦ model.Packed x ] | Some r ↦ model.Refused r ]))
    ≡ first_ground (map ground_of ((elim part [ None ↦ true | Some x ↦ false ], asking.NotGranted) ∷ []))
unfolding first_ground first_rule
by_rows_of admin s w None = refl
by_rows_of admin s w (Some p) = refl

by_rule : (admin : Admin) (s : Scene) (ask : Ask) (event : EventId) → IsOfEvent ask event → (rule : Option Rule)
    → rule_of (reply_of admin s ask (elim rule [ None ↦ ok_answer s ask | Some r ↦ model.Refused r ])) ≡ option_map named rule
by_rule admin s ask event of None = ap rule_of (of_event admin s ask event of)
by_rule admin s ask event of (Some r) = refl

-- of an ask that writes rows of an event
by_rules : (admin : Admin) (s : Scene) (ask : Ask) (event : EventId) → IsOfEvent ask event → rule_of (reply_in admin s ask) ≡ first_ground (map ground_of (ask_rules s ask))
unfolding reply_in answer
by_rules admin s ask event of = by_rule admin s ask event of (first_rule (ask_rules s ask)) ∙ sym (first_named (ask_rules s ask))

-- of an ask in its scene
in_scene : (admin : Admin) (s : Scene) (ask : Ask) → IsBuilt ask → rule_of (reply_in admin s ask) ≡ first_ground (map ground_of (ask_rules s ask))
unfolding reply_in answer ask_rules ok_answer first_ground first_rule pulled_only
in_scene admin s (View event owner) built = by_seen admin s event owner (shown s event owner)
in_scene admin s (Ask.Change c) built = by_rules admin s (Ask.Change c) (event_changed c) refl
in_scene admin s (Ask.Propose d) built = by_rules admin s (Ask.Propose d) d.event refl
in_scene admin s (Ask.Judge e n accept) built = by_rules admin s (Ask.Judge e n accept) e refl
in_scene admin s (Ask.Sight e t d) built = by_rules admin s (Ask.Sight e t d) e refl
in_scene admin s Ask.Groups built = refl
in_scene admin s Ask.SyncGroups built = refl
in_scene admin s Ask.SyncEvents built = refl
in_scene admin s (Ask.SyncPart event n) built = by_part admin s event n (pulled_part s event n)
in_scene admin s Ask.SyncManifest built = refl
in_scene admin s (Ask.SyncRows w) built = by_rows_of admin s w (pulled_part s w.event w.part)
in_scene admin s (Ask.TakePart p) built = refl
in_scene admin s (Ask.Index page) built = refl
in_scene admin s (Ask.Search filter true) built = refl
in_scene admin s (Ask.Search filter false) built = refl

-- over what is read for it
by_rows : (host : Host) (now : ℕ) (it : Asked) (groups : List Group) (rows : Result (List Row) (List ℕ)) → IsBuilt it.1
    → rule_of (asked_over host now it groups rows).reply ≡ first_ground (row_grounds host now it groups rows)
unfolding first_ground
by_rows host now it groups (Err name) built = refl
by_rows host now it groups (Ok rows) built = in_scene host.admin (seeing (scene_at host now it.0 groups) rows) it.1 built

-- of a group that is added, and of one that is edited
added_first : (mine known : Bool) → (if not mine then Some RuleName.NotCreator else if known then Some RuleName.GroupExists else None)
    ≡ first_ground ((not mine, RuleName.NotCreator) ∷ (known, RuleName.GroupExists) ∷ [])
unfolding first_ground
added_first false known = refl
added_first true true = refl
added_first true false = refl

kept_first : (carried last : Bool) → (if carried then Some RuleName.LockedGroup else if last then Some RuleName.TimeLimit else None)
    ≡ first_ground ((false, RuleName.NotCreator) ∷ (false, RuleName.NoGroup) ∷ (carried, RuleName.LockedGroup) ∷ (last, RuleName.TimeLimit) ∷ [])
unfolding first_ground
kept_first true last = refl
kept_first false true = refl
kept_first false false = refl

edited_first : (mine : Bool) (held : Option Group) → (if not mine then Some RuleName.NotCreator else why_kept held)
    ≡ first_ground ((not mine, RuleName.NotCreator) ∷ (not (is_some held), RuleName.NoGroup) ∷ (is_carried held, RuleName.LockedGroup) ∷ (is_last held, RuleName.TimeLimit) ∷ [])
unfolding first_ground
edited_first false held = refl
edited_first true None = refl
edited_first true (Some g) = kept_first g.carried (g.modified == last_stamp)

why_first : (add : Bool) (groups : List Group) (by : OrgId) (id : GroupId) → why_not add groups by id ≡ first_ground (sharing_grounds add groups by id)
why_first true groups by id = added_first (same_org by id.creator) (is_known_group groups id)
why_first false groups by id = edited_first (same_org by id.creator) (known_group groups id)

of_rule : (why : Option RuleName) (g : Group) → rule_of (effect_by why g).reply ≡ why
of_rule None g = refl
of_rule (Some rule) g = refl

-- of what a site administrator asks: what no rule refuses makes an item
by_item : (why : Option RuleName) (item : Option Item) → (why ≡ None → item ≡ None → ⊥) → rule_of (managed_by why item).reply ≡ why
by_item None (Some item) there = refl
by_item None None there = absurd (there refl refl)
by_item (Some rule) item there = refl

key_there : (found : Option KeyFields) → first_ground ((not (is_some (option_map_or (λ k. caller_where k k.revoked) found None)), RuleName.UnknownKey) ∷ []) ≡ None
    → option_map (λ k. Item.Key (revoked k)) found ≡ None → ⊥
unfolding first_ground
key_there None free none = absurd cc
key_there (Some k) free none = absurd cc

link_there : (e : LinkEdit) (found : Option Link) (rules : List Ground) → first_ground ((not (is_some found), RuleName.NoLink) ∷ rules) ≡ None
    → option_map (λ l. Item.Link (link_edited e l)) found ≡ None → ⊥
unfolding first_ground
link_there e None rules free none = absurd cc
link_there e (Some l) rules free none = absurd cc

item_there : (admin : Admin) (ask : AdminAsk) → asks.why_not admin ask ≡ None → item_of admin ask ≡ None → ⊥
unfolding item_of
item_there admin (AdminAsk.AddOrg o) free none = absurd cc
item_there admin (AdminAsk.AddKey k) free none = absurd cc
item_there admin (AdminAsk.RevokeKey key) free none = key_there (record_of admin.keys key) free none
item_there admin (AdminAsk.AddLink l) free none = absurd cc
item_there admin (AdminAsk.EditLink e) free none = link_there e (link_of admin.links e.name) _ free none

by_command : (host : Host) (now : ℕ) (caller : Caller) (command : Command) (seen : Seen) → AsksBuilt command
    → rule_of (command_effect host now caller command seen).reply ≡ first_ground (command_grounds host now caller command seen)
unfolding first_ground
by_command host now caller (Command.Asks ask) seen built = by_rows host now (caller, ask) seen.groups (read_where host now (caller, ask) seen) built
by_command host now caller (Command.TakesGroups groups) seen built = refl
by_command host now caller (Command.Shares add g) seen built = of_rule (why_not add seen.groups caller.org g.id) _ ∙ why_first add seen.groups caller.org g.id
by_command host now caller (Command.Manages ask) seen built = by_item (asks.why_not host.admin ask) (item_of host.admin ask) (item_there host.admin ask)

-- by whether the role permits it
by_role : (host : Host) (now : ℕ) (it : Commanded) (may : Bool) (seen : Seen) → AsksBuilt it.1
    → rule_of (if may then command_effect host now it.0 it.1 seen else refused (barred it.1)).reply
    ≡ first_ground ((not may, RuleName.NoPermission) ∷ command_grounds host now it.0 it.1 seen)
unfolding first_ground
by_role host now it false seen built = refl
by_role host now it true seen built = by_command host now it.0 it.1 seen built

-- where nothing stopped it, the reply is that of the effect
of_effect : (o : effects.Outcome) (e : Effect Reply) → stop_of o ≡ None → (under telling o e).reply ≡ e.reply
of_effect effects.Went e none = refl
of_effect (effects.Stopped stop k lost) e none = absurd cc

-- of a command, over what is held
in_order : (host : Host) (now : ℕ) (it : Commanded) (held : Held) (reply : Reply) (new : Held) → AsksBuilt it.1
    → Did (commanded host now it (seen_in held)) held reply new → IsInOrder (grounds host now it (seen_in held)) reply
in_order host now it held reply new built did went =
    ap rule_of (did.reply_is ∙ of_effect did.outcome (commanded host now it (seen_in held)) (did.agree ∙ went))
    ∙ by_role host now it (is_allowed it) (seen_in held) built

-- ---- a body is refused by one of three rules, unless memory ran out

abbrev by_name : RuleName → List Ground
by_name name =
    (rule_number name == rule_number RuleName.BadJson, RuleName.BadJson)
    ∷ (rule_number name == rule_number RuleName.BadField, RuleName.BadField)
    ∷ (rule_number name == rule_number RuleName.BinaryType, RuleName.BinaryType) ∷ []

abbrev IsNamed : {A : Type 0} → Reading A → Type 0
IsNamed (Ok x) = Unit {0}
IsNamed (Err refusal) = stop_in (Reply.Refused refusal) ≡ None → Some refusal.name ≡ first_ground (by_name refusal.name)

formed_named : {A : Type 0} (read : Result A FormatFault) → IsNamed (formed read)
unfolding first_ground
formed_named (Ok x) = tt
formed_named (Err FormatFault.NoJson) = λ went. refl
formed_named (Err (FormatFault.BadField path need)) = λ went. refl
formed_named (Err (FormatFault.BinaryType path)) = λ went. refl
formed_named (Err FormatFault.NoMemory) = λ went. absurd cc

command_named : (here : List ℕ) (route : Route) (body : List ℕ) (word : ℕ) → IsNamed (command_of here route body word)
command_named = command_is IsNamed (λ ask built. tt) (λ read built. formed_named read)

-- ---- from the path on

module _ (host : Host) (now : ℕ) (held : Held) where
  -- of what was read the first of these rules is the first of what is asked, and of what was not it is the refusal's
  abbrev IsFirst : Reading Commanded → Option RuleName → Type 0
  IsFirst (Ok it) first = first ≡ first_ground (grounds host now it (seen_in held))
  IsFirst (Err refusal) first = stop_in (Reply.Refused refusal) ≡ None → Some refusal.name ≡ first

  abbrev from_body : Reading Command → List Ground → List Ground
  from_body read rest =
      (is_refused_by RuleName.BadJson read, RuleName.BadJson)
      ∷ (is_refused_by RuleName.BadField read, RuleName.BadField)
      ∷ (is_refused_by RuleName.BinaryType read, RuleName.BinaryType) ∷ rest

  by_reading : (caller : Caller) (read : Reading Command) → IsNamed read → IsFirst (by_body caller read) (first_ground (from_body read (asked_grounds host now (by_body caller read) held)))
  unfolding first_ground
  by_reading caller (Ok command) named = refl
  by_reading caller (Err refusal) named = named

  by_caller : (here : List ℕ) (route : Route) (caller : Option Caller) (body : List ℕ) (word : ℕ)
      → IsFirst (by_key here caller route body word)
      (first_ground ((not (is_some caller), RuleName.NoKey) ∷ from_body (command_of here route body word) (asked_grounds host now (by_key here caller route body word) held)))
  unfolding first_ground
  by_caller here route None body word = λ went. refl
  by_caller here route (Some caller) body word = by_reading caller (command_of here route body word) (command_named here route body word)

  abbrev by_same : List ℕ → Bool → Route → Option Caller → List ℕ → ℕ → Reading Commanded
  by_same here same route caller body word = by_route here (if same then Ok route else Err RuleName.NoMethod) caller body word

  by_verb : (here : List ℕ) (same : Bool) (route : Route) (caller : Option Caller) (body : List ℕ) (word : ℕ)
      → IsFirst (by_same here same route caller body word)
      (first_ground ((not same, RuleName.NoMethod) ∷ (not (is_some caller), RuleName.NoKey)
      ∷ from_body (command_of here route body word) (asked_grounds host now (by_same here same route caller body word) held)))
  unfolding first_ground
  by_verb here true route caller body word = by_caller here route caller body word
  by_verb here false route caller body word = λ went. refl

  -- the rules of a request whose path is for this
  abbrev from_path : Option Route → RequestData → List Ground → List Ground
  from_path route request rest =
      (not (is_some route), RuleName.NoRoute)
      ∷ (option_map_or (λ r. not (bytes_eq request.method (method_of r))) route false, RuleName.NoMethod)
      ∷ (not (is_some (caller_in host.admin request.key)), RuleName.NoKey)
      ∷ (option_map_or (λ r. is_refused_by RuleName.BadJson (command_of request.here r request.body request.word)) route false, RuleName.BadJson)
      ∷ (option_map_or (λ r. is_refused_by RuleName.BadField (command_of request.here r request.body request.word)) route false, RuleName.BadField)
      ∷ (option_map_or (λ r. is_refused_by RuleName.BinaryType (command_of request.here r request.body request.word)) route false, RuleName.BinaryType)
      ∷ rest

  abbrev read_at : Option Route → RequestData → Reading Commanded
  read_at route request = by_route request.here (by_method request.method route) (caller_in host.admin request.key) request.body request.word

  by_path : (route : Option Route) (request : RequestData)
      → IsFirst (read_at route request) (first_ground (from_path route request (asked_grounds host now (read_at route request) held)))
  unfolding first_ground
  by_path None request = λ went. refl
  by_path (Some route) request =
      by_verb request.here (bytes_eq request.method (method_of route)) route (caller_in host.admin request.key) request.body request.word

  ordered : (request : RequestData) → IsFirst (read_of host.admin request) (first_ground (order host now request held))
  unfolding read_of route_of
  ordered request = by_path (route_asked request) request

-- ---- of a reply

-- what was read is answered by the instance in its order
pub order_by_step : (i : Standing) (now : ℕ) (request : RequestData) (it : Commanded) (reply : Reply) (old new : Option Held)
    → read_of i.admin request ≡ Ok it → AsksBuilt it.1 → WhereReported old new (λ held left. Did (commanded (host_of i) now it (seen_in held)) held reply left)
    → WhereReported old new (λ held _. IsInOrder (order (host_of i) now request held) reply)
order_by_step i now request it reply old new is built = reported_so old new _ _ (λ held left did went.
    in_order (host_of i) now it held reply left built did went
    ∙ sym (subst (λ read. IsFirst (host_of i) now held read (first_ground (order (host_of i) now request held))) is (ordered (host_of i) now held request)))

-- what was not read is refused by its first rule
pub order_by_fault : (i : Standing) (now : ℕ) (request : RequestData) (fault : AskFault) (old : Option Held)
    → Gives (Err fault) (read_of i.admin request)
    → WhereReported old old (λ held _. IsInOrder (order (host_of i) now request held) (fault_reply fault))
order_by_fault i now request fault None given = tt
order_by_fault i now request (AskFault.Refused refusal) (Some held) given = λ went.
    subst (λ read. IsFirst (host_of i) now held read (first_ground (order (host_of i) now request held))) given (ordered (host_of i) now held request) went
order_by_fault i now request AskFault.NoMemory (Some held) given = λ went. absurd cc
