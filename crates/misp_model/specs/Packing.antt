-- As what rows arrive, and how they are packed.
use Rattle.std.specs.Prelude.{ℕ, zero, suc, Bool, true, false, not, ◌&&◌, List, [], ◌∷◌, filter, flat_map, map}
use Rattle.misp_levels.specs.Levels.{landed}
use Rattle.misp_lists.specs.Order.{in_order}
use Rattle.misp_elem.specs.declared.content.Content.{Content}
use Rattle.misp_elem.specs.declared.content.Tag.{Tag}
use Rattle.misp_elem.specs.declared.row.RowFields.{RowFields as Row}
use Rattle.misp_elem.specs.Prelude.{EventId, event_key, event_of, same_event, same_key}
use Rattle.misp_model.specs.RowOrder.{stands_before}
use Rattle.misp_model.specs.Passing.{Route}

-- the rows of one event
abbrev pub event_rows : EventId → List Row → List Row
event_rows e rows = filter (λ row. same_event (event_of row.key) e) rows

-- ---- as what a row arrives

-- the exportable of these tags
unfoldable pub exportable : List Tag → List Tag
exportable tags = filter (λ t. t.exportable) tags

-- the content without the tags that are not exportable
unfoldable pub without_local_tags : Content → Content
without_local_tags (Content.Event b) = Content.Event (record b { tags = exportable b.tags })
without_local_tags (Content.Attribute b) = Content.Attribute (record b { tags = exportable b.tags })
without_local_tags (Content.Object b) = Content.Object b
without_local_tags (Content.Reference b) = Content.Reference b
without_local_tags (Content.Proposal b) = Content.Proposal b
without_local_tags (Content.Verdict b) = Content.Verdict b
without_local_tags (Content.Sighting b) = Content.Sighting b
without_local_tags Content.Gone = Content.Gone

-- a row as it arrives at the end of a route: the holder's, carried and not held, its label as the
-- way leaves it, without the tags that are not exportable
unfoldable pub arrived : Route → Row → Row
arrived route row =
    record {
      owner = route.holder;
      key = row.key;
      stamp = row.stamp;
      label = landed route.way row.label;
      held = false;
      carried = true;
      content = without_local_tags row.content;
    }

-- ---- how what arrives is packed

-- the row is of the event itself
unfoldable pub is_own : Row → Bool
is_own row = same_key row.key (event_key (event_of row.key))

-- one more in front of the first
abbrev pub onto : {A : Type 0} → A → List (List A) → List (List A)
onto x [] = (x ∷ []) ∷ []
onto x (c ∷ cs) = (x ∷ c) ∷ cs

-- a list cut into parts of 64, where there is room for so many in the first; there is one part at
-- least
unfoldable pub cut : {A : Type 0} → ℕ → List A → List (List A)
cut room [] = [] ∷ []
cut zero (x ∷ xs) = [] ∷ onto x (cut 63 xs)
cut (suc room) (x ∷ xs) = onto x (cut room xs)

-- of these the rows of its event but the event's own
unfoldable pub others_with : List Row → Row → List Row
others_with rows row =
    filter (λ r. same_event (event_of r.key) (event_of row.key) && not (is_own r)) rows

-- the packages of rows of one owner: for each event its own row with at most 64 others in each, in
-- the order of events and keys
unfoldable pub packages : List Row → List (List Row)
packages rows =
    flat_map (λ x. map (λ c. x ∷ c) (cut 64 (others_with (in_order stands_before rows) x)))
    (filter is_own (in_order stands_before rows))
