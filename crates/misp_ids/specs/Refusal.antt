-- The rules by which requests are refused: the number, the status and the name of each, and the
-- refusal by one.
use Rattle.std.specs.Prelude.{ℕ, List, [], codes}
use Rattle.misp_ids.specs.declared.refusal.Refusal.{Refusal}
use Rattle.misp_ids.specs.declared.refusal.RuleName.{RuleName}
use Rattle.misp_ids.specs.declared.refusal.RuleName.TheVariants.{NoKey, BadRequest, TooLarge, NoRoute, NoMethod, BadJson, BadField, NoPermission, NotGranted, NotOwner, LockedCopy, EventExists, EventGone, ElementExists, GroupNotUsable}
use Rattle.misp_ids.specs.declared.refusal.RuleName.TheVariants.{OlderTime, TimeLimit, BinaryType, ProposalExists, ProposalClosed, NoLink, LinkOff, PeerRefused, PeerGarbled, LinkFault, KeeperFault, NoMemory, BadRow, GroupExists, NoGroup}
use Rattle.misp_ids.specs.declared.refusal.RuleName.TheVariants.{NotCreator, LockedGroup, OrgExists, NoOrg, KeyExists, UnknownKey, LinkExists, NoPeer, ElementFull}

-- the number of a rule
abbrev pub rule_number : RuleName → ℕ
rule_number NoKey = 1
rule_number BadRequest = 2
rule_number TooLarge = 3
rule_number NoRoute = 4
rule_number NoMethod = 5
rule_number BadJson = 6
rule_number BadField = 7
rule_number NoPermission = 8
rule_number NotGranted = 9
rule_number NotOwner = 10
rule_number LockedCopy = 11
rule_number EventExists = 12
rule_number EventGone = 13
rule_number ElementExists = 14
rule_number GroupNotUsable = 15
rule_number OlderTime = 16
rule_number TimeLimit = 17
rule_number BinaryType = 18
rule_number ProposalExists = 19
rule_number ProposalClosed = 20
rule_number NoLink = 21
rule_number LinkOff = 22
rule_number PeerRefused = 23
rule_number PeerGarbled = 24
rule_number LinkFault = 25
rule_number KeeperFault = 26
rule_number NoMemory = 27
rule_number BadRow = 28
rule_number GroupExists = 29
rule_number NoGroup = 30
rule_number NotCreator = 31
rule_number LockedGroup = 32
rule_number OrgExists = 33
rule_number NoOrg = 34
rule_number KeyExists = 35
rule_number UnknownKey = 36
rule_number LinkExists = 37
rule_number NoPeer = 38
rule_number ElementFull = 39

-- the status of a reply
abbrev pub rule_status : RuleName → ℕ
rule_status NoKey = 403
rule_status BadRequest = 400
rule_status TooLarge = 413
rule_status NoRoute = 404
rule_status NoMethod = 405
rule_status BadJson = 400
rule_status BadField = 400
rule_status NoPermission = 403
rule_status NotGranted = 404
rule_status NotOwner = 403
rule_status LockedCopy = 403
rule_status EventExists = 409
rule_status EventGone = 409
rule_status ElementExists = 409
rule_status GroupNotUsable = 403
rule_status OlderTime = 409
rule_status TimeLimit = 409
rule_status BinaryType = 400
rule_status ProposalExists = 409
rule_status ProposalClosed = 409
rule_status NoLink = 404
rule_status LinkOff = 403
rule_status PeerRefused = 502
rule_status PeerGarbled = 502
rule_status LinkFault = 502
rule_status KeeperFault = 503
rule_status NoMemory = 507
rule_status BadRow = 500
rule_status GroupExists = 409
rule_status NoGroup = 404
rule_status NotCreator = 403
rule_status LockedGroup = 403
rule_status OrgExists = 409
rule_status NoOrg = 404
rule_status KeyExists = 409
rule_status UnknownKey = 404
rule_status LinkExists = 409
rule_status NoPeer = 404
rule_status ElementFull = 409

-- the name that a reply shows
unfoldable pub rule_name : RuleName → List ℕ
rule_name NoKey = codes "NoKey"
rule_name BadRequest = codes "BadRequest"
rule_name TooLarge = codes "TooLarge"
rule_name NoRoute = codes "NoRoute"
rule_name NoMethod = codes "NoMethod"
rule_name BadJson = codes "BadJson"
rule_name BadField = codes "BadField"
rule_name NoPermission = codes "NoPermission"
rule_name NotGranted = codes "NotGranted"
rule_name NotOwner = codes "NotOwner"
rule_name LockedCopy = codes "LockedCopy"
rule_name EventExists = codes "EventExists"
rule_name EventGone = codes "EventGone"
rule_name ElementExists = codes "ElementExists"
rule_name GroupNotUsable = codes "GroupNotUsable"
rule_name OlderTime = codes "OlderTime"
rule_name TimeLimit = codes "TimeLimit"
rule_name BinaryType = codes "BinaryType"
rule_name ProposalExists = codes "ProposalExists"
rule_name ProposalClosed = codes "ProposalClosed"
rule_name NoLink = codes "NoLink"
rule_name LinkOff = codes "LinkOff"
rule_name PeerRefused = codes "PeerRefused"
rule_name PeerGarbled = codes "PeerGarbled"
rule_name LinkFault = codes "LinkFault"
rule_name KeeperFault = codes "KeeperFault"
rule_name NoMemory = codes "NoMemory"
rule_name BadRow = codes "BadRow"
rule_name GroupExists = codes "GroupExists"
rule_name NoGroup = codes "NoGroup"
rule_name NotCreator = codes "NotCreator"
rule_name LockedGroup = codes "LockedGroup"
rule_name OrgExists = codes "OrgExists"
rule_name NoOrg = codes "NoOrg"
rule_name KeyExists = codes "KeyExists"
rule_name UnknownKey = codes "UnknownKey"
rule_name LinkExists = codes "LinkExists"
rule_name NoPeer = codes "NoPeer"
rule_name ElementFull = codes "ElementFull"

-- the refusal by a rule that has no place
abbrev pub bare : RuleName → Refusal
bare name = record { name = name; place = [] }
