-- A request's surroundings, what its caller has there and can see, and what its own rows become.
use Rattle.std.specs.Prelude.{ℕ, List, Bool, true, false, [], ◌∷◌, Option, Some, None, ◌&&◌, ltb, eqb, map, option_to_list, not, ◌||◌, find}
use Rattle.misp_ids.specs.Moments.{next_stamp}
use Rattle.misp_ids.specs.declared.label.Way.{Way}
use Rattle.misp_groups.specs.declared.group.GroupFields.{GroupFields as Group}
use Rattle.misp_groups.specs.Audience.{group_passes, allows}
use Rattle.misp_elem.specs.Prelude.{EventId, Inst, Label, OrgId, Stamp, event_key, last_stamp, list_any, same_key, text_size}
use Rattle.misp_elem.specs.declared.row.RowFields.{RowFields as Row}
use Rattle.misp_elem.specs.declared.key.KeyForm.{KeyForm as Key}
use Rattle.misp_elem.specs.declared.content.Content.{Content}
use Rattle.misp_model.specs.View.{has_home, has_copy, has_gone, granted_somewhere, element_granted, is_live, is_row_of}
use Rattle.misp_model.specs.Version.{Version, Written}

-- the instance that a key is for, and the way on which rows go there
pub record Partner : Type 0 where
  pub inst : Inst
  pub way : Way

-- a request's surroundings: its number, where and by whom, the instance that the caller's key is
-- for, the moment and its date, and the rows and groups that it can look at
pub record Scene : Type 0 where
  pub act : ℕ
  pub at : Inst
  pub by : OrgId
  pub by_name : List ℕ
  pub partner : Option Partner
  pub now : Stamp
  pub today : List ℕ
  pub rows : List Row
  pub groups : List Group

pub data Rule : Type 0 where
  NotGranted NotOwner LockedCopy EventExists EventGone ElementExists GroupNotUsable OlderTime
      TimeLimit ProposalExists ProposalClosed ElementFull : Rule

-- the first of these rules whose test holds
unfoldable pub first_rule : List (Bool × Rule) → Option Rule
first_rule [] = None
first_rule (r ∷ rs) = elim r.0 [ true ↦ Some r.1 | false ↦ first_rule rs ]

-- the caller holds the event as Home; as Home or Carried; as a tombstone
unfoldable pub holds_home : Scene → EventId → Bool
holds_home s e = has_home s.rows s.by e

unfoldable pub holds_copy : Scene → EventId → Bool
holds_copy s e = has_copy s.rows s.by e

unfoldable pub holds_tombstone : Scene → EventId → Bool
holds_tombstone s e = has_gone s.rows s.by e

-- the key is granted to the caller in some copy
unfoldable pub sees : Scene → Key → Bool
sees s k = granted_somewhere s.rows s.groups s.at s.by k

-- the key is granted to the caller in some copy, and live there
unfoldable pub sees_live : Scene → Key → Bool
sees_live s k =
    list_any (λ row.
    same_key row.key k
    && (element_granted s.rows s.groups s.at s.by row && is_live s.rows row)) s.rows

-- the caller's own row of the key
unfoldable pub own_row : Scene → Key → Option Row
own_row s k = find (is_row_of s.by k) s.rows

-- the caller's own row of the key is there and live
unfoldable pub own_live : Scene → Key → Bool
own_live s k = list_any (λ row. is_row_of s.by k row && is_live s.rows row) s.rows

-- the label is no group's, or that of a group that allows the caller here
unfoldable pub is_usable : Scene → Label → Bool
is_usable s (Label.Group g) = group_passes s.groups g (λ group. allows group s.by s.at)
is_usable s Label.Own = true
is_usable s Label.Community = true
is_usable s Label.Connected = true
is_usable s Label.All = true
is_usable s Label.Inherit = true

-- a version that the caller writes
unfoldable pub written : Scene → Key → Stamp → Label → Content → Version
written s k stamp l c =
    record {
      at = s.at;
      owner = s.by;
      key = k;
      stamp = stamp;
      label = l;
      content = c;
      came = Written;
      act = s.act;
      path = [];
    }

-- a row of the caller, as a change of it: later, and with another content
unfoldable pub changed : Scene → Row → Label → Content → Version
changed s row l c = written s row.key (next_stamp s.now row.stamp) l c

-- the element is longer than one may be
unfoldable pub is_too_long : Content → Bool
is_too_long c = ltb 16384 (text_size c)

-- a test of the own row of a key, false where there is none
unfoldable pub own_row_is : Scene → Key → (Row → Bool) → Bool
own_row_is s k test = elim (own_row s k) [ None ↦ false | Some row ↦ test row ]

-- the own row of a key has the last stamp
unfoldable pub is_at_limit : Scene → Key → Bool
is_at_limit s k = own_row_is s k (λ row. eqb row.stamp last_stamp)

-- the own row of a key, changed
unfoldable pub changed_row : Scene → Key → (Row → Label) → (Content → Content) → List Version
changed_row s k l c =
    map (λ row. changed s row (l row) (c row.content)) (option_to_list (own_row s k))

-- the edit gives a label that is not usable
unfoldable pub wants_unusable : Scene → Option Label → Bool
wants_unusable s None = false
wants_unusable s (Some l) = not (is_usable s l)

-- the row is newer than the stamp that an edit gives
unfoldable pub is_newer_than : Option Stamp → Row → Bool
is_newer_than None row = false
is_newer_than (Some t) row = ltb t row.stamp

-- who may not change an event
unfoldable pub bars : Scene → EventId → Bool → List (Bool × Rule)
bars s e fits =
    (not (holds_copy s e) && not (sees s (event_key e)) || holds_home s e && not fits, NotGranted)
    ∷ (not (holds_copy s e) && sees s (event_key e), NotOwner)
    ∷ (holds_copy s e && not (holds_home s e), LockedCopy) ∷ []
