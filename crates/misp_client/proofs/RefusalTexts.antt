-- The body of a refusal is read to its rule.
use Rattle.std.proofs.Common.{◌≡◌, ◌<◌, ◌^◌, ◌==◌, ◌&&◌, not, Bool, true, false, Ok, refl, ap, arith, lit<, ltb, option_and_then}
use Rattle.std.proofs.lemmas.Bool.{and_parts, ltb-true}
use Rattle.std.specs.Result.{result_ok}
use Rattle.serde_json.proofs.Numbers.{number_of-decimal}
use Rattle.serde_json.specs.Written.{compact_text}
use Rattle.misp_lists.proofs.Prelude.{IsUtf8-from_is_utf8, is_utf8}
use Rattle.misp_ids.specs.Refusal.{rule_name, rule_number, rule_status}
use Rattle.misp_ids.specs.declared.refusal.Refusal.{Refusal}
use Rattle.misp_ids.specs.declared.refusal.RuleName.{RuleName}
use Rattle.json.proofs.Printed.Utf8.{IsUtf8-are_ascii, are_ascii}
use Rattle.misp_format.specs.Json.{json_in}
use Rattle.misp_format.specs.Replies.{refusal_data}
use Rattle.misp_http.specs.Texts.{IsReplyStatus, is_reply_status}
use Rattle.misp_client.specs.Answers.{refused_by, refused_in}
use Rattle.misp_client.specs.Bodies.{rule_in, rule_told}
use Rattle.misp_client.specs.Telling.{refused_as}
use Rattle.misp_client.proofs.JsonTexts.{plain_read}

-- ---- rules

not_true : (b : Bool) → not b ≡ true → b ≡ false
not_true true h = absurd cc
not_true false h = refl

-- its number is small, its name is ASCII, its status is one of a reply and not that of a success
abbrev is_sound_rule : RuleName → Bool
is_sound_rule name = ltb (rule_number name) 64 && (are_ascii (rule_name name) && (is_reply_status (rule_status name) && not (rule_status name == 200)))

sound_rule : (name : RuleName) → is_sound_rule name ≡ true
unfolding rule_name
sound_rule RuleName.NoKey = refl
sound_rule RuleName.BadRequest = refl
sound_rule RuleName.TooLarge = refl
sound_rule RuleName.NoRoute = refl
sound_rule RuleName.NoMethod = refl
sound_rule RuleName.BadJson = refl
sound_rule RuleName.BadField = refl
sound_rule RuleName.NoPermission = refl
sound_rule RuleName.NotGranted = refl
sound_rule RuleName.NotOwner = refl
sound_rule RuleName.LockedCopy = refl
sound_rule RuleName.EventExists = refl
sound_rule RuleName.EventGone = refl
sound_rule RuleName.ElementExists = refl
sound_rule RuleName.GroupNotUsable = refl
sound_rule RuleName.OlderTime = refl
sound_rule RuleName.TimeLimit = refl
sound_rule RuleName.BinaryType = refl
sound_rule RuleName.ProposalExists = refl
sound_rule RuleName.ProposalClosed = refl
sound_rule RuleName.NoLink = refl
sound_rule RuleName.LinkOff = refl
sound_rule RuleName.PeerRefused = refl
sound_rule RuleName.PeerGarbled = refl
sound_rule RuleName.LinkFault = refl
sound_rule RuleName.KeeperFault = refl
sound_rule RuleName.NoMemory = refl
sound_rule RuleName.BadRow = refl
sound_rule RuleName.GroupExists = refl
sound_rule RuleName.NoGroup = refl
sound_rule RuleName.NotCreator = refl
sound_rule RuleName.LockedGroup = refl
sound_rule RuleName.OrgExists = refl
sound_rule RuleName.NoOrg = refl
sound_rule RuleName.KeyExists = refl
sound_rule RuleName.UnknownKey = refl
sound_rule RuleName.LinkExists = refl
sound_rule RuleName.NoPeer = refl
sound_rule RuleName.ElementFull = refl

abbrev of_reply : RuleName → Bool
of_reply name = is_reply_status (rule_status name) && not (rule_status name == 200)

small_rule : (name : RuleName) → rule_number name < 64
small_rule name = ltb-true (rule_number name) 64 (and_parts (ltb (rule_number name) 64) (are_ascii (rule_name name) && of_reply name) (sound_rule name)).0

ascii_reply : (name : RuleName) → (are_ascii (rule_name name) ≡ true) × (of_reply name ≡ true)
ascii_reply name = and_parts (are_ascii (rule_name name)) (of_reply name) (and_parts (ltb (rule_number name) 64) (are_ascii (rule_name name) && of_reply name) (sound_rule name)).1

reply_parts : (name : RuleName) → (is_reply_status (rule_status name) ≡ true) × (not (rule_status name == 200) ≡ true)
reply_parts name = and_parts (is_reply_status (rule_status name)) (not (rule_status name == 200)) (ascii_reply name).1

pub status_is : (name : RuleName) → IsReplyStatus (rule_status name)
status_is name = (reply_parts name).0

pub no_success : (name : RuleName) → (rule_status name == 200) ≡ false
no_success name = not_true (rule_status name == 200) (reply_parts name).1

-- ---- the text

pub refusal_read : (r : Refusal) → is_utf8 r.place ≡ true → json_in (compact_text (refusal_data r)) ≡ Ok (refusal_data r)
unfolding refusal_data
refusal_read r h =
    let n = rule_number r.name in
    let small = small_rule r.name in
    let large : 64 < 2 ^ 64 = lit< tt in
    let count : n < 2 ^ 64 = omega arith in
    let name = IsUtf8-are_ascii (rule_name r.name) (ascii_reply r.name).0 in
    let place = IsUtf8-from_is_utf8 r.place h in
    plain_read (refusal_data r) (refl, (name, (refl, (place, (refl, (count, tt)))))) (rw (number_of-decimal n count) refl) (omega arith)

-- what is read of it
pub refusal_told : (r : Refusal) → is_utf8 r.place ≡ true → refused_in (rule_status r.name) (compact_text (refusal_data r)) ≡ refused_as r
unfolding rule_told rule_in refusal_data
refusal_told r h = ap (λ x. refused_by (rule_status r.name) (option_and_then rule_in (result_ok x))) (refusal_read r h)
