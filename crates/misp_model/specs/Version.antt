-- A version: what an act writes of a key, as it counts at an instance.
use Rattle.std.specs.Prelude.{ℕ, List, Bool, true, false, [], ◌∷◌, ◌&&◌}
use Rattle.misp_ids.specs.declared.label.Way.{Way}
use Rattle.misp_levels.specs.Levels.{down, lowering}
use Rattle.misp_elem.specs.Prelude.{EventId, Inst, Label, OrgId, Stamp, event_key, same_key, same_org}
use Rattle.misp_elem.specs.declared.key.KeyForm.{KeyForm as Key}
use Rattle.misp_elem.specs.declared.content.Content.{Content}

-- how a version first came: written by a request, written by a publishing, or handed in as a
-- package
pub data Came : Type 0 where
  Written : Came
  Published : Came
  Handed_in : Came

-- a version: where it is, whose it is, what it says of which key, and how it came there.
-- label and content are those at its origin; path has the ways of the synchronisations by which it
-- came since
pub record Version : Type 0 where
  pub at : Inst
  pub owner : OrgId
  pub key : Key
  pub stamp : Stamp
  pub label : Label
  pub content : Content
  pub came : Came
  pub act : ℕ
  pub path : List Way

-- the version came by a synchronisation
unfoldable pub has_path : Version → Bool
has_path v = elim v.path [ [] ↦ false | way ∷ ways ↦ true ]

unfoldable pub is_published : Came → Bool
is_published Published = true
is_published Written = false
is_published Handed_in = false

unfoldable pub is_handed_in : Came → Bool
is_handed_in Handed_in = true
is_handed_in Written = false
is_handed_in Published = false

-- the label that it has now: that of its origin, after those hops of its path that lower one
unfoldable pub label_now : Version → Label
label_now v = down v.label (lowering v.path)

-- the version is the owner's of the event itself
unfoldable pub is_event_of : OrgId → EventId → Version → Bool
is_event_of w e v = same_org v.owner w && same_key v.key (event_key e)
