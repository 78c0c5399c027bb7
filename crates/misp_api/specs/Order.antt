-- The one order of refusals: each rule in its place, with whether it refuses the request.
use Rattle.std.specs.Prelude.{◌≡◌, ℕ, ◌==◌, Bool, true, false, not, bytes_eq, is_some, List, [], ◌∷◌, map, Option, None, Some, Result, Ok, Err, if◌then◌else◌}
use Rattle.misp_ids.specs.Same.{same_org}
use Rattle.misp_ids.specs.Moments.{last_stamp}
use Rattle.misp_ids.specs.declared.uid.GroupId.{GroupId}
use Rattle.misp_ids.specs.declared.uid.OrgId.{OrgId}
use Rattle.misp_groups.specs.Audience.{is_known_group, known_group}
use Rattle.misp_admins.specs.Asks.{Ground, grounds_of, first_ground}
use Rattle.misp_model.specs.Scene.{Rule}
use Rattle.misp_edit.specs.Refusals.{named}
use Rattle.misp_core.specs.Prelude.{Asked, Group, Held, Host, Row, RuleName, Seen, ask_rules, option_map_or, read_where, rule_number, scene_at, seeing, seen_in, stop_in}
use Rattle.misp_api.specs.Commands.{Commanded, is_allowed}
use Rattle.misp_api.specs.Prelude.{Caller, Command, Reading, Reply, RequestData, Route, caller_in, command_of, read_of}
use Rattle.misp_api.specs.Route.{method_of, route_at}

-- the rule by which a reply refuses
abbrev pub rule_of : Reply → Option RuleName
rule_of (Reply.Ok answer) = None
rule_of (Reply.Refused refusal) = Some refusal.name

-- a reply that nothing stopped refuses by the first of these rules that refuses, and is an answer
-- where none does
abbrev pub IsInOrder : List Ground → Reply → Type 0
IsInOrder grounds reply = stop_in reply ≡ None → rule_of reply ≡ first_ground grounds

-- ---- the rules from the role of the caller on

abbrev pub ground_of : Bool × Rule → Ground
ground_of g = (g.0, named g.1)

-- the rule of a row that does not decode, or else the rules of the ask in their order
abbrev pub row_grounds :
    Host → ℕ → Asked → List Group → Result (List Row) (List ℕ) → List Ground
row_grounds host now it groups (Ok rows) =
    map ground_of (ask_rules (seeing (scene_at host now it.0 groups) rows) it.1)
row_grounds host now it groups (Err name) = (true, RuleName.BadRow) ∷ []

-- the rules against adding a group: the caller is not its creator, or its name is known
abbrev pub adding_grounds : List Group → OrgId → GroupId → List Ground
adding_grounds groups by id =
    (not (same_org by id.creator), RuleName.NotCreator)
    ∷ (is_known_group groups id, RuleName.GroupExists) ∷ []

-- a group came by a synchronisation
abbrev pub is_carried : Option Group → Bool
is_carried held = option_map_or (λ g. g.carried) held false

-- it has the last stamp
abbrev pub is_last : Option Group → Bool
is_last held = option_map_or (λ g. g.modified == last_stamp) held false

-- the rules against editing the group of a name: the caller is not its creator, or no group of the
-- name is known, or the one that is came by a synchronisation or has the last stamp
abbrev pub editing_grounds : List Group → OrgId → GroupId → List Ground
editing_grounds groups by id =
    (not (same_org by id.creator), RuleName.NotCreator)
    ∷ (not (is_some (known_group groups id)), RuleName.NoGroup)
    ∷ (is_carried (known_group groups id), RuleName.LockedGroup)
    ∷ (is_last (known_group groups id), RuleName.TimeLimit) ∷ []

abbrev pub sharing_grounds : Bool → List Group → OrgId → GroupId → List Ground
sharing_grounds add groups by id =
    if add then adding_grounds groups by id else editing_grounds groups by id

-- the same for what is asked, for a group that is added or edited, and for what a site
-- administrator asks; groups that are handed in are refused by none of these
abbrev pub command_grounds : Host → ℕ → Caller → Command → Seen → List Ground
command_grounds host now caller (Command.Asks ask) seen =
    row_grounds host now (caller, ask) seen.groups (read_where host now (caller, ask) seen)
command_grounds host now caller (Command.TakesGroups groups) seen = []
command_grounds host now caller (Command.Shares add g) seen =
    sharing_grounds add seen.groups caller.org g.id
command_grounds host now caller (Command.Manages ask) seen = grounds_of host.admin ask

-- of a command, where this is seen: first the role of the caller must permit it
abbrev pub grounds : Host → ℕ → Commanded → Seen → List Ground
grounds host now it seen =
    (not (is_allowed it), RuleName.NoPermission) ∷ command_grounds host now it.0 it.1 seen

-- ---- from the path on

-- what the path of a request is for, by its method where the path is for two things
abbrev pub route_asked : RequestData → Option Route
route_asked request = route_at request.method request.target

-- it is for something, and the method is another
abbrev pub has_other_method : RequestData → Bool
has_other_method request =
    option_map_or (λ route. not (bytes_eq request.method (method_of route)))
    (route_asked request) false

abbrev pub is_refused_by : {A : Type 0} → RuleName → Reading A → Bool
is_refused_by rule (Ok x) = false
is_refused_by rule (Err refusal) = rule_number refusal.name == rule_number rule

-- the body is not what the path needs, by this rule
abbrev pub body_breaks : RuleName → RequestData → Bool
body_breaks rule request =
    option_map_or
    (λ route. is_refused_by rule (command_of request.here route request.body request.word))
    (route_asked request) false

-- the rules of the command, where it was read
abbrev pub asked_grounds : Host → ℕ → Reading Commanded → Held → List Ground
asked_grounds host now (Ok it) held = grounds host now it (seen_in held)
asked_grounds host now (Err refusal) held = []

-- of a request, at this moment and over what is held
abbrev pub order : Host → ℕ → RequestData → Held → List Ground
order host now request held =
    (not (is_some (route_asked request)), RuleName.NoRoute)
    ∷ (has_other_method request, RuleName.NoMethod)
    ∷ (not (is_some (caller_in host.admin request.key)), RuleName.NoKey)
    ∷ (body_breaks RuleName.BadJson request, RuleName.BadJson)
    ∷ (body_breaks RuleName.BadField request, RuleName.BadField)
    ∷ (body_breaks RuleName.BinaryType request, RuleName.BinaryType)
    ∷ asked_grounds host now (read_of host.admin request) held
