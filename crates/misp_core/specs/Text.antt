-- What is written for a reply.
use Rattle.std.specs.Prelude.{ℕ, Bool, true, false, List, ◌∷◌, ◌++◌, codes, decimal, if◌then◌else◌}
use Rattle.misp_ids.specs.Refusal.{rule_status}
use Rattle.misp_format.specs.Found.{events_text, hits_text, index_text}
use Rattle.misp_format.specs.Prelude.{body_data, compact_text}
use Rattle.misp_format.specs.Replies.{saved_data, taken_data, refusal_data}
use Rattle.misp_format.specs.WholeGroup.{groups_text}
use Rattle.misp_http.specs.declared.kind.BodyKind.{BodyKind}
use Rattle.misp_http.specs.declared.kind.BodyKind.TheVariants.{Json, Octets}
use Rattle.misp_package.specs.Spelling.{spell_package}
use Rattle.misp_wanted.specs.ManifestSpelling.{spell_manifest}
use Rattle.misp_core.specs.declared.reply.Answer.{Answer}
use Rattle.misp_core.specs.declared.reply.Reply.{Reply}
use Rattle.misp_core.specs.EventList.{event_list_text}
use Rattle.misp_http.specs.Texts as http

-- the body of an answer
abbrev pub answer_text : Answer → List ℕ
answer_text (Answer.Saved elements event stamp) = compact_text (saved_data elements event stamp)
answer_text (Answer.Event event) = compact_text (body_data event)
answer_text (Answer.Index events) = index_text events
answer_text (Answer.Hits hits) = hits_text hits.group_names hits.attributes
answer_text (Answer.Events events) = events_text events
answer_text (Answer.Groups groups) = groups_text groups
answer_text (Answer.Taken count) = compact_text (taken_data count)
answer_text (Answer.Parts events) = event_list_text events
answer_text (Answer.Part part) = spell_package part
answer_text (Answer.Manifest events) = spell_manifest events

-- the body of a reply
abbrev pub body_text : Reply → List ℕ
body_text (Reply.Ok answer) = answer_text answer
body_text (Reply.Refused refusal) = compact_text (refusal_data refusal)

-- whether the body of a reply is octets; else it is JSON
abbrev pub has_octets : Reply → Bool
has_octets (Reply.Ok (Answer.Part part)) = true
has_octets (Reply.Ok (Answer.Manifest events)) = true
has_octets reply = false

-- the status of a reply, a space and its body
abbrev pub reply_text : Reply → List ℕ
reply_text (Reply.Ok answer) = codes "200 " ++ body_text (Reply.Ok answer)
reply_text (Reply.Refused refusal) =
    decimal (rule_status refusal.name) ++ 32 ∷ body_text (Reply.Refused refusal)

-- ---- as HTTP has it

abbrev pub status_of : Reply → ℕ
status_of (Reply.Ok answer) = 200
status_of (Reply.Refused refusal) = rule_status refusal.name

-- what its body is
abbrev pub kind_of : Reply → BodyKind
kind_of reply = if has_octets reply then Octets else Json

-- where the connection is closed after it or not
abbrev pub http_text : Reply → Bool → List ℕ
http_text reply close = http.reply_text (status_of reply) (kind_of reply) (body_text reply) close
