-- Adding or editing a sharing group: what it is by its text, and what it is replied.
use Rattle.std.specs.Prelude.{ℕ, ◌≤◌, Bool, List, Ok, Err}
use Rattle.misp_format.specs.Prelude.{LAST_SECOND, group_in_text}
use Rattle.misp_core.specs.Prelude.{Did, Effect, Group, Held, IsGroup, OrgId, administered, groups_of, refused}
use Rattle.misp_core.specs.declared.reply.Reply.{Reply}
use Rattle.misp_api.specs.Request.{Reading, formed}

-- the group that a text is, or the rule that it breaks
unfoldable pub group_form : List ℕ → Reading Group
group_form text = formed (group_in_text text)

-- a group that is read is one, and the moment has a stamp
abbrev pub FormFits : ℕ → Reading Group → Type 0
FormFits now (Ok g) = IsGroup g × (now ≤ LAST_SECOND)
FormFits now (Err refusal) = Unit {0}

-- what it comes to where its group is read so, and these groups are
abbrev pub grouped : ℕ → OrgId → Bool → Reading Group → List Group → Effect Reply
grouped now by add (Ok g) groups = administered now by add g groups
grouped now by add (Err refusal) groups = refused refusal

-- it was replied so, and left this
abbrev pub IsDone :
    ℕ → OrgId → Bool → Reading Group → Held → Reply → Held → Type 0
IsDone now by add form held reply new =
    Did (grouped now by add form (groups_of held)) held reply new
