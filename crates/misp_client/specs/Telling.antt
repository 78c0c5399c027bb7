-- What a reply of an instance tells of a call.
use Rattle.std.specs.Prelude.{◌≡◌, ◌<◌, ◌^◌, ℕ, List, length, map, Option, Some, None, option_map, Result, Err}
use Rattle.misp_ids.specs.Refusal.{rule_number, rule_status}
use Rattle.misp_ids.specs.declared.refusal.Refusal.{Refusal}
use Rattle.misp_format.specs.WholeGroup.{uncarried}
use Rattle.misp_groups.specs.declared.group.GroupFields.{GroupFields as Group}
use Rattle.misp_manifest.specs.declared.manifest.ManifestFields.{ManifestFields}
use Rattle.misp_model.specs.declared.package.PackageFields.{PackageFields as Package}
use Rattle.misp_core.specs.declared.reply.Answer.{Answer as Replied}
use Rattle.misp_core.specs.declared.reply.Reply.{Reply}
use Rattle.misp_protocol.specs.Parts.{parts_listed}
use Rattle.misp_protocol.specs.declared.cause.Cause.{Cause}
use Rattle.misp_protocol.specs.declared.request.Answer.{Answer}
use Rattle.misp_client.specs.Answers.{kind_of, or_garbled}
use Rattle.misp_client.specs.Bodies.{at_most, if_for}
use Rattle.misp_client.specs.declared.call.Call.{Call}

-- ---- what is told

-- A text does not keep of a group that it was carried. A package tells nothing where it is not that
-- of the wanted list, and a number where it is greater than what was sent.
abbrev pub told_in : Call → Replied → Option Answer
told_in Call.Groups (Replied.Groups groups) = Some (Answer.Groups (map uncarried groups))
told_in Call.Manifest (Replied.Manifest events) = Some (Answer.Manifest (parts_listed events))
told_in (Call.Rows w) (Replied.Part p) = option_map Answer.Part (if_for w p)
told_in (Call.TakeGroups groups) (Replied.Taken n) =
    option_map Answer.Taken (at_most (length groups) n)
told_in (Call.TakePart p) (Replied.Taken n) =
    option_map Answer.Taken (at_most (length p.rows) n)
told_in call answer = None

-- that a peer refused by this refusal
abbrev pub refused_as : Refusal → Cause
refused_as r = Cause.Refused (rule_status r.name) (rule_number r.name)

-- a refusal tells its status and its rule
abbrev pub told : Call → Reply → Result Answer Cause
told call (Reply.Ok answer) = or_garbled (kind_of call) (told_in call answer)
told call (Reply.Refused refusal) = Err (refused_as refusal)

-- ---- what suits a call

abbrev pub IsTaken : Replied → Type 0
IsTaken answer = (n : ℕ) × (n < 2 ^ 64) × (answer ≡ Replied.Taken n)

-- it answers what was asked
abbrev pub SuitsAnswer : Call → Replied → Type 0
SuitsAnswer Call.Groups answer = (groups : List Group) × (answer ≡ Replied.Groups groups)
SuitsAnswer Call.Manifest answer =
    (events : List ManifestFields) × (answer ≡ Replied.Manifest events)
SuitsAnswer (Call.Rows w) answer = (p : Package) × (answer ≡ Replied.Part p)
SuitsAnswer (Call.TakeGroups groups) answer = IsTaken answer
SuitsAnswer (Call.TakePart p) answer = IsTaken answer

-- it does so, or refuses
abbrev pub Suits : Call → Reply → Type 0
Suits call (Reply.Ok answer) = SuitsAnswer call answer
Suits call (Reply.Refused refusal) = Unit {0}
