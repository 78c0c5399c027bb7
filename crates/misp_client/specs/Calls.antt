-- What is asked of a peer, as a request.
use Rattle.std.specs.Prelude.{ℕ, List, [], codes, true, Some}
use Rattle.misp_format.specs.WholeGroup.{groups_text}
use Rattle.misp_http.specs.Texts.{request_text}
use Rattle.misp_package.specs.Spelling.{spell_package}
use Rattle.misp_wanted.specs.ManifestSpelling.{spell_wanted}
use Rattle.misp_client.specs.declared.call.Call.{Call}

-- ---- its parts

abbrev pub method_of : Call → List ℕ
method_of Call.Groups = codes "GET"
method_of Call.Manifest = codes "GET"
method_of (Call.Rows w) = codes "POST"
method_of (Call.TakeGroups groups) = codes "POST"
method_of (Call.TakePart p) = codes "POST"

abbrev pub target_of : Call → List ℕ
target_of Call.Groups = codes "/sync/groups"
target_of Call.Manifest = codes "/sync/manifest"
target_of (Call.Rows w) = codes "/sync/rows"
target_of (Call.TakeGroups groups) = codes "/sync/groups"
target_of (Call.TakePart p) = codes "/sync/part"

abbrev pub body_of : Call → List ℕ
body_of Call.Groups = []
body_of Call.Manifest = []
body_of (Call.Rows w) = spell_wanted w
body_of (Call.TakeGroups groups) = groups_text groups
body_of (Call.TakePart p) = spell_package p

-- ---- the whole

-- the bytes of the request with this key, after which the connection is closed
abbrev pub call_text : List ℕ → Call → List ℕ
call_text key call = request_text (method_of call) (target_of call) (Some key) (body_of call) true
