-- What is written for a synchronisation.
use Rattle.std.specs.Prelude.{ℕ, List, [], ◌∷◌, ◌++◌, codes, decimal}
use Rattle.serde_json.specs.Data.{Data, member, no_members, object, string}
use Rattle.serde_json.specs.Written.{compact_text}
use Rattle.misp_ids.specs.Refusal.{bare, rule_name, rule_number, rule_status}
use Rattle.misp_ids.specs.declared.refusal.Refusal.{Refusal}
use Rattle.misp_ids.specs.declared.refusal.RuleName.{RuleName}
use Rattle.misp_format.specs.Fields.{count_data}
use Rattle.misp_core.specs.Answers.{bad_row}
use Rattle.misp_protocol.specs.declared.cause.Body.{Body}
use Rattle.misp_protocol.specs.declared.cause.Cause.{Cause}
use Rattle.misp_protocol.specs.declared.count.SyncCount.{SyncCount}
use Rattle.misp_sync.specs.declared.reply.SyncReply.{SyncReply}

-- ---- words

-- what of a reply is not of the form
abbrev pub body_name : Body → List ℕ
body_name Body.Head = codes "head"
body_name Body.Body = codes "body"
body_name Body.Groups = codes "groups"
body_name Body.Manifest = codes "manifest"
body_name Body.Package = codes "package"
body_name Body.Taken = codes "taken"

-- why it ended before its end, as a refusal: the rule with what it says of the place
abbrev pub words_of : Cause → Refusal
words_of Cause.NoLink = bare RuleName.NoLink
words_of Cause.LinkOff = bare RuleName.LinkOff
words_of Cause.NoPeer = bare RuleName.NoPeer
words_of (Cause.Refused status rule) =
    record { name = RuleName.PeerRefused; place = decimal status ++ 32 ∷ decimal rule }
words_of (Cause.Garbled kind) =
    record { name = RuleName.PeerGarbled; place = body_name kind }
words_of Cause.Link = bare RuleName.LinkFault
words_of Cause.Keeper = bare RuleName.KeeperFault
words_of Cause.NoMemory = bare RuleName.NoMemory
words_of (Cause.BadRow name) = bad_row name

-- ---- what is written

-- what was taken
unfoldable pub counted_data : SyncCount → Data
counted_data c = object (
    member (codes "elements") (count_data c.elements) (
    member (codes "events") (count_data c.events) (
    member (codes "groups") (count_data c.groups) (
    member (codes "packages") (count_data c.packages)
    no_members))))

-- the rule that refused or stopped it, what it says of the place, and how many packages were taken
-- before that
unfoldable pub stopped_data : SyncCount → Refusal → Data
stopped_data c r = object (
    member (codes "name") (string (rule_name r.name)) (
    member (codes "packages") (count_data c.packages) (
    member (codes "place") (string r.place) (
    member (codes "rule") (count_data (rule_number r.name))
    no_members))))

-- the status, a space, and the refusal
abbrev pub stopped_text : SyncCount → Refusal → List ℕ
stopped_text count r =
    decimal (rule_status r.name) ++ 32 ∷ compact_text (stopped_data count r)

-- the status, a space, and what it comes to
abbrev pub sync_text : SyncReply → List ℕ
sync_text (SyncReply.Done count) = codes "200 " ++ compact_text (counted_data count)
sync_text (SyncReply.Stopped count cause) = stopped_text count (words_of cause)

-- the line of a synchronisation: its number, a space, what it was told and LF
abbrev pub synced_line : ℕ → SyncReply → List ℕ
synced_line number reply = decimal number ++ 32 ∷ sync_text reply ++ 10 ∷ []
