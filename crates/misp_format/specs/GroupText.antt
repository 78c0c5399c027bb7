-- What a text is that shall be a sharing group.
use Rattle.std.specs.Prelude.{ℕ, List}
use Rattle.misp_groups.specs.declared.group.GroupFields.{GroupFields as Group}
use Rattle.misp_format.specs.Groups.{group_body_at}
use Rattle.misp_format.specs.Json.{json_in}
use Rattle.misp_format.specs.Rows.{Reading, ◌>>=◌}

-- GROUP TEXT: the group that a text is, or the first thing that is wrong with it
unfoldable pub group_in_text : List ℕ → Reading Group
group_in_text text = json_in text >>= group_body_at
