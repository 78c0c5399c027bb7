-- What a call comes to at a peer.
use Rattle.std.specs.Prelude.{◌≡◌, ◌<◌, ◌^◌, ℕ, nat_le, Bool, true, List, codes, length, map, Option, Some, None, if◌then◌else◌}
use Rattle.misp_ids.specs.Names.{is_api_key}
use Rattle.misp_orgs.specs.Admin.{who_of}
use Rattle.misp_elem.specs.Prelude.{AllByRecursion}
use Rattle.misp_groups.specs.Group.{IsGroup}
use Rattle.misp_format.specs.WholeGroup.{uncarried}
use Rattle.misp_http.specs.Limits.{body_limit}
use Rattle.misp_manifest.specs.Wanted.{IsWanted}
use Rattle.misp_model.specs.Package.{IsPackage}
use Rattle.misp_core.specs.HandedGroups.{groups_handed}
use Rattle.misp_core.specs.Prelude.{Ask, Caller, Effect, Host, Refusal, RuleName, Seen, bare, refused, requested}
use Rattle.misp_core.specs.declared.reply.Reply.{Reply}
use Rattle.misp_client.specs.Calls.{body_of}
use Rattle.misp_client.specs.declared.call.Call.{Call}

-- ---- calls that can be made

-- as a value of its type
abbrev pub IsCall : Call → Type 0
IsCall Call.Groups = Unit {0}
IsCall Call.Manifest = Unit {0}
IsCall (Call.Rows w) = IsWanted w
IsCall (Call.TakeGroups groups) = AllByRecursion IsGroup groups × (length groups < 2 ^ 64)
IsCall (Call.TakePart p) = IsPackage p

-- the text is one that a key can be
pub record IsCallable (key : List ℕ) (call : Call) : Type 0 where
  pub key_is : is_api_key key ≡ true
  pub call_is : IsCall call

-- it has nothing to be taken
abbrev pub TakesNothing : Call → Type 0
TakesNothing (Call.TakeGroups groups) = ⊥
TakesNothing (Call.TakePart p) = ⊥
TakesNothing call = Unit {0}

-- ---- what it comes to

-- of a caller; a text does not keep of a group that it was carried
abbrev pub called_by : Host → ℕ → Caller → Call → Seen → Effect Reply
called_by peer now caller Call.Groups seen = requested peer now (caller, Ask.SyncGroups) seen
called_by peer now caller Call.Manifest seen = requested peer now (caller, Ask.SyncManifest) seen
called_by peer now caller (Call.Rows w) seen = requested peer now (caller, Ask.SyncRows w) seen
called_by peer now caller (Call.TakeGroups groups) seen =
    groups_handed caller (map uncarried groups) seen.groups
called_by peer now caller (Call.TakePart p) seen =
    requested peer now (caller, Ask.TakePart p) seen

-- of whom a key names, if it names one
abbrev pub called_as : Host → ℕ → Option Caller → Call → Seen → Effect Reply
called_as peer now None call seen = refused (bare RuleName.NoKey)
called_as peer now (Some caller) call seen = called_by peer now caller call seen

-- a body is no longer than that of a request may be
abbrev pub is_short : List ℕ → Bool
is_short body = nat_le (length body) body_limit

-- the refusal of a longer one
abbrev pub too_large : Refusal
too_large = record { name = RuleName.TooLarge; place = codes "body" }

-- with this key, where this is seen: first its body must not be too long
abbrev pub called : Host → ℕ → List ℕ → Call → Seen → Effect Reply
called peer now key call seen =
    if is_short (body_of call) then called_as peer now (who_of peer.admin key) call seen
    else refused too_large
