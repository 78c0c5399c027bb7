-- What a request looks at is the same over the rows that are kept, where it looks at kept keys.
use Rattle.std.proofs.Common.{Bool, ◌≡◌, List, true, refl, ap, ℕ, [], false, ◌∙◌, arith, map, cond, ◌&&◌, Option, Some, None, option_to_list, filter, find}
use Rattle.std.proofs.lemmas.Bool.{and_parts}
use Rattle.misp_lists.proofs.Lists.{any_none_cut, find_passes}
use Rattle.misp_elem.proofs.Same.{same_key-sound}
use Rattle.misp_model.specs.Prelude.{Content, Element, EventId, IsClosed, Key, Label, OrgId, Place, Row, Scene, Stamp, Version, bars, changed, changed_row, cut, cut_rows, edit_rules, event_key, event_of, holds_copy, holds_home}
use Rattle.misp_model.specs.Prelude.{holds_tombstone, is_at_limit, is_live, is_row_of, is_taken, is_usable, list_all, list_any, own_live, own_row, own_row_is, parents, same_event, same_org, sees, takes_uuid, written}
use Rattle.misp_model.specs.Scene.{sees_live}
use Rattle.misp_model.specs.Statements.{sees_target}
use Rattle.misp_model.proofs.Knowing.{by_key}
use Rattle.misp_model.proofs.LookedRows.{IsClosedFor, is_live_looked, looked_rows}
use Rattle.misp_model.proofs.LookedScenes.{HasEvent, bars_looked, changed_row_looked, edit_rules_looked, holds_copy_looked, holds_home_looked, holds_tombstone_looked, is_at_limit_looked, is_usable_looked, looked_scene, own_any_looked}
use Rattle.misp_model.proofs.LookedScenes.{own_live_looked, own_row_is_looked, sees_live_looked, sees_looked, sees_target_looked}

-- the same surroundings with the kept rows alone
unfoldable pub cut_scene : (Key → Bool) → Scene → Scene
cut_scene keep s = record s { rows = cut_rows keep s.rows }

module _ (keep : Key → Bool) (c : IsClosed keep) where
  pub is_live_cut : (rows : List Row) (row : Row) → keep row.key ≡ true → is_live (cut_rows keep rows) row ≡ is_live rows row
  unfolding cut_rows looked_rows
  is_live_cut rows row h = is_live_looked (λ w. keep) rows row (h, c.above row.key h)

module _ (keep : Key → Bool) (c : IsClosed keep) (s : Scene) where
  abbrev kept : OrgId → Key → Bool
  kept w = keep

  closed : IsClosedFor s.by (λ w. keep)
  closed = by_key keep c s.by

  with_parents : (k : Key) → keep k ≡ true → (keep k ≡ true) × (list_all keep (parents k) ≡ true)
  with_parents k h = (h, c.above k h)

  event_there : (e : EventId) → keep (event_key e) ≡ true → HasEvent (λ w. keep) s e
  event_there e h = record { own = h; others = λ n w. h }

  pub holds_home_cut : (e : EventId) → keep (event_key e) ≡ true → holds_home (cut_scene keep s) e ≡ holds_home s e
  unfolding cut_scene cut_rows looked_scene looked_rows
  holds_home_cut e h = holds_home_looked kept s closed e h

  pub holds_copy_cut : (e : EventId) → keep (event_key e) ≡ true → holds_copy (cut_scene keep s) e ≡ holds_copy s e
  unfolding cut_scene cut_rows looked_scene looked_rows
  holds_copy_cut e h = holds_copy_looked kept s closed e h

  pub holds_tombstone_cut : (e : EventId) → keep (event_key e) ≡ true → holds_tombstone (cut_scene keep s) e ≡ holds_tombstone s e
  unfolding cut_scene cut_rows looked_scene looked_rows
  holds_tombstone_cut e h = holds_tombstone_looked kept s closed e h

  pub sees_cut : (k : Key) → keep k ≡ true → sees (cut_scene keep s) k ≡ sees s k
  unfolding cut_scene cut_rows looked_scene looked_rows
  sees_cut k h = sees_looked kept s closed k (λ w. with_parents k h)

  pub sees_live_cut : (k : Key) → keep k ≡ true → sees_live (cut_scene keep s) k ≡ sees_live s k
  unfolding cut_scene cut_rows looked_scene looked_rows
  sees_live_cut k h = sees_live_looked kept s closed k (λ w. with_parents k h)

  pub own_live_cut : (k : Key) → keep k ≡ true → own_live (cut_scene keep s) k ≡ own_live s k
  unfolding cut_scene cut_rows looked_scene looked_rows
  own_live_cut k h = own_live_looked kept s closed k (with_parents k h)

  -- the caller has a row of a kept key
  pub own_any_cut : (k : Key) → keep k ≡ true → list_any (is_row_of s.by k) (cut_rows keep s.rows) ≡ list_any (is_row_of s.by k) s.rows
  unfolding cut_scene cut_rows looked_scene looked_rows
  own_any_cut k h = own_any_looked kept s closed k h

  pub own_row_is_cut : (k : Key) (test : Row → Bool) → keep k ≡ true → own_row_is (cut_scene keep s) k test ≡ own_row_is s k test
  unfolding cut_scene cut_rows looked_scene looked_rows
  own_row_is_cut k test h = own_row_is_looked kept s closed k test h

  pub is_at_limit_cut : (k : Key) → keep k ≡ true → is_at_limit (cut_scene keep s) k ≡ is_at_limit s k
  unfolding cut_scene cut_rows looked_scene looked_rows
  is_at_limit_cut k h = is_at_limit_looked kept s closed k h

  pub changed_row_cut : (k : Key) (l : Row → Label) (f : Content → Content) → keep k ≡ true → changed_row (cut_scene keep s) k l f ≡ changed_row s k l f
  unfolding cut_scene cut_rows looked_scene looked_rows
  changed_row_cut k l f h = changed_row_looked kept s closed k l f h

  -- a change writes a version of its key alone
  pub changed_row_kept : (k : Key) (l : Row → Label) (f : Content → Content) (b : Bool) → keep k ≡ b → cut keep (changed_row s k l f) ≡ cond b (changed_row s k l f) []
  unfolding changed_row changed written cut own_row is_row_of
  changed_row_kept k l f b h = one (find (is_row_of s.by k) s.rows) refl b h
    where
      one : (o : Option Row) → find (is_row_of s.by k) s.rows ≡ o → (b : Bool) → keep k ≡ b →
          filter (λ (v : Version). keep v.key) (map (λ row. changed s row (l row) (f row.content)) (option_to_list o)) ≡ cond b (map (λ row. changed s row (l row) (f row.content)) (option_to_list o)) []
      one None e true g = refl
      one None e false g = refl
      one (Some row) e true g =
          let kept : keep row.key ≡ true = ap keep (same_key-sound row.key k (and_parts _ _ (find_passes (is_row_of s.by k) s.rows row e)).1) ∙ g in
          rw kept refl
      one (Some row) e false g =
          let kept : keep row.key ≡ false = ap keep (same_key-sound row.key k (and_parts _ _ (find_passes (is_row_of s.by k) s.rows row e)).1) ∙ g in
          rw kept refl

  -- a uuid that is free is free over the kept rows
  pub is_taken_cut : (e : EventId) (u : ℕ) → is_taken s e u ≡ false → is_taken (cut_scene keep s) e u ≡ false
  unfolding is_taken cut_scene cut_rows
  is_taken_cut e u h = grind (arith, any_none_cut (λ (row : Row). same_org row.owner s.by && (same_event (event_of row.key) e && takes_uuid u row.key)) (λ row. keep row.key) s.rows)

  pub bars_cut : (e : EventId) (f g : Bool) → keep (event_key e) ≡ true → f ≡ g → bars (cut_scene keep s) e f ≡ bars s e g
  unfolding cut_scene cut_rows looked_scene looked_rows
  bars_cut e f g h k = bars_looked kept s closed e f g (event_there e h) k

  pub sees_target_cut : (e : EventId) (p : Place) → keep (Element e p) ≡ true → sees_target (cut_scene keep s) e p ≡ sees_target s e p
  unfolding cut_scene cut_rows looked_scene looked_rows
  sees_target_cut e p h = sees_target_looked kept s closed e p (λ w. h)

  -- labels are usable by the groups alone
  pub is_usable_cut : (l : Label) → is_usable (cut_scene keep s) l ≡ is_usable s l
  unfolding cut_scene cut_rows looked_scene looked_rows
  is_usable_cut l = is_usable_looked kept s closed l

  -- the rules of an edit of a kept row
  pub edit_rules_cut : (e : EventId) (k : Key) (fits here : Bool) (l : Option Label) (t : Option Stamp) (f : Content → Content) →
      keep k ≡ true → keep (event_key e) ≡ true → here ≡ fits → edit_rules (cut_scene keep s) e k here l t f ≡ edit_rules s e k fits l t f
  unfolding cut_scene cut_rows looked_scene looked_rows
  edit_rules_cut e k fits here l t f h g fit = edit_rules_looked kept s closed e k fits here l t f h (event_there e g) fit
