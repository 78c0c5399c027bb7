-- The history: every version that ever counted, the tables as its newest, and what is released.
use Rattle.std.specs.Prelude.{List, cond, Bool, ◌&&◌, not, ltb, ◌||◌, false, leb, [], ◌∷◌, map}
use Rattle.misp_model.specs.Prelude.{Content, Inst, Row, Version, event_key, event_of, in_order, is_gone, is_statement, list_any, same_inst, same_key, same_org, stands_before}
use Rattle.misp_model.specs.Version.{has_path, is_published, is_handed_in, label_now}
unfoldable pub use Rattle.misp_model.specs.Packing.{exportable, without_local_tags}

-- the content that it has now: that of its origin, without local tags once it has moved
unfoldable pub content_now : Version → Content
content_now v = cond (has_path v) (without_local_tags v.content) v.content

-- of one owner and key at one instance
unfoldable pub same_cell : Version → Version → Bool
same_cell a b = same_inst a.at b.at && same_org a.owner b.owner && same_key a.key b.key

-- the owner published the version's event there after the act that wrote it
unfoldable pub published_after : List Version → Version → Bool
published_after log v = list_any (λ p.
    same_inst p.at v.at && same_org p.owner v.owner
    && same_key p.key (event_key (event_of v.key))
    && (is_published p.came && (not (has_path p) && ltb v.act p.act))) log

-- the version may pass on: it moved, was handed in, is a statement or a tombstone, or was published
unfoldable pub released : List Version → Version → Bool
released log v =
    has_path v || is_handed_in v.came || is_statement v.key || is_gone v.content
    || is_published v.came || published_after log v

-- the version as a row
unfoldable pub row_of : List Version → Version → Row
row_of log v =
    record {
      owner = v.owner;
      key = v.key;
      stamp = v.stamp;
      label = label_now v;
      held = not (released log v);
      carried = is_handed_in v.came || has_path v;
      content = content_now v;
    }

-- a version that was just written where it is, as a row
unfoldable pub fresh_row : Version → Row
fresh_row v =
    record {
      owner = v.owner;
      key = v.key;
      stamp = v.stamp;
      label = v.label;
      held = not (is_statement v.key || is_gone v.content || is_published v.came);
      carried = false;
      content = v.content;
    }

-- no version before it is as new, and none after it is newer
unfoldable pub is_newest : List Version → Version → List Version → Bool
is_newest before v after =
    not (list_any (λ a. same_cell a v && leb v.stamp a.stamp) before)
    && not (list_any (λ a. same_cell a v && ltb v.stamp a.stamp) after)

-- the versions at the instance that are the newest of their owner and key: of the greatest stamp,
-- of equals the first
unfoldable pub newest_from : Inst → List Version → List Version → List Version
newest_from i before [] = []
newest_from i before (v ∷ after) =
    cond (same_inst v.at i && is_newest before v after)
    (v ∷ newest_from i (v ∷ before) after)
    (newest_from i (v ∷ before) after)

unfoldable pub newest : List Version → Inst → List Version
newest log i = newest_from i [] log

-- the version was handed in or came by a synchronisation
unfoldable pub has_come : Version → Bool
has_come v = is_handed_in v.came || has_path v

-- the tables of the instance, in the order in which a keeper tells its rows
unfoldable pub tables : List Version → Inst → List Row
tables log i = in_order stands_before (map (row_of log) (newest log i))
