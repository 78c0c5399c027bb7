-- Where a reader is in a body.
use Rattle.std.specs.Prelude.{ℕ, List}
use Rattle.serde_json.specs.View.{view}
use Rattle.misp_format.specs.declared.reading.path.Path.{Path, Body, Member', Item'}
use Rattle.misp_format.specs.declared.reading.members.Members.{Members}
use Rattle.misp_format.specs.Path.{member_path, item_path}
use Rattle.misp_format.specs.Body.{Body as Read}

-- the text of a path
abbrev pub path_text : Path → List ℕ
path_text (Body name) = name.now
path_text (Member' p of name) = member_path (path_text of) name.now
path_text (Item' p of n) = item_path (path_text of) n

-- the object that is read
abbrev pub body_of : Members → Read
body_of m = record { path = path_text m.path.now; value = view m.value.now }
