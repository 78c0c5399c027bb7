-- What a request looks at in its surroundings is the same over the rows that are looked at.
use Rattle.std.proofs.Common.{Bool, ◌≡◌, ◌∙◌, [], ◌∷◌, true, refl, ap, false, map, not, ◌&&◌, ◌||◌, Option, Some, None, option_to_list}
use Rattle.std.proofs.lemmas.Bool.{and_parts, not-true}
use Rattle.misp_lists.proofs.Lists.{and_where, any_cut, any_within, find_cut}
use Rattle.misp_model.specs.Prelude.{Content, Element, EventId, Key, Label, NotGranted, NotOwner, OrgId, Place, Row, Scene, Stamp, bars, changed, changed_row, edit_rules, element_granted, event_key, holds_copy, holds_home, holds_tombstone, is_at_limit, is_live}
use Rattle.misp_model.specs.Prelude.{is_newer_than, is_row_of, is_too_long, is_usable, list_any, own_live, own_row, own_row_is, same_key, sees, wants_unusable, written}
use Rattle.misp_model.specs.Scene.{LockedCopy, sees_live}
use Rattle.misp_model.specs.Statements.{sees_target}
use Rattle.misp_model.proofs.LookedRows.{IsClosedFor, IsLooked, cell_looked, element_granted_looked, element_looked, granted_somewhere_looked, has_copy_looked, has_gone_looked, has_home_looked, is_live_looked, key_looked, looked_rows, row_looked}

-- the same surroundings with the rows alone that are looked at
unfoldable pub looked_scene : (OrgId → Key → Bool) → Scene → Scene
looked_scene keep s = record s { rows = looked_rows keep s.rows }

-- the event's row is looked at in the own copy, and where the caller has none, in each
pub record HasEvent (keep : OrgId → Key → Bool) (s : Scene) (e : EventId) : Type 0 where
  pub own : keep s.by (event_key e) ≡ true
  pub others : holds_copy s e ≡ false → (w : OrgId) → keep w (event_key e) ≡ true

module _ (keep : OrgId → Key → Bool) (s : Scene) (c : IsClosedFor s.by keep) where
  abbrev near : Scene
  near = looked_scene keep s

  -- ---- copies, and what is seen of others

  pub holds_home_looked : (e : EventId) → keep s.by (event_key e) ≡ true → holds_home near e ≡ holds_home s e
  unfolding holds_home looked_scene
  holds_home_looked e h = has_home_looked keep s.by e s.rows h

  pub holds_copy_looked : (e : EventId) → keep s.by (event_key e) ≡ true → holds_copy near e ≡ holds_copy s e
  unfolding holds_copy looked_scene
  holds_copy_looked e h = has_copy_looked keep s.by e s.rows h

  pub holds_tombstone_looked : (e : EventId) → keep s.by (event_key e) ≡ true → holds_tombstone near e ≡ holds_tombstone s e
  unfolding holds_tombstone looked_scene
  holds_tombstone_looked e h = has_gone_looked keep s.by e s.rows h

  pub sees_looked : (k : Key) → ((w : OrgId) → IsLooked keep w k) → sees near k ≡ sees s k
  unfolding sees looked_scene
  sees_looked k h = granted_somewhere_looked keep s.rows s.groups s.at s.by k h

  pub sees_live_looked : (k : Key) → ((w : OrgId) → IsLooked keep w k) → sees_live near k ≡ sees_live s k
  unfolding sees_live looked_scene looked_rows
  sees_live_looked k h =
      any_within (λ row. same_key row.key k && (element_granted (looked_rows keep s.rows) s.groups s.at s.by row && is_live (looked_rows keep s.rows) row))
      (λ row. same_key row.key k && (element_granted s.rows s.groups s.at s.by row && is_live s.rows row)) (λ row. keep row.owner row.key)
      (λ row e. and_where (same_key row.key k) _ _
      (λ same. rw (element_granted_looked keep s.rows s.groups s.at s.by row (as_key row same), is_live_looked keep s.rows row (as_key row same)) refl))
      (λ row e. (as_key row (and_parts _ _ e).0).0) s.rows
    where
      as_key : (row : Row) → same_key row.key k ≡ true → IsLooked keep row.owner row.key
      as_key row e = key_looked keep row.owner row.key k e (h row.owner)

  pub sees_target_looked : (e : EventId) (p : Place) → ((w : OrgId) → keep w (Element e p) ≡ true) → sees_target near e p ≡ sees_target s e p
  unfolding sees_target event_key
  sees_target_looked e Place.Event h = sees_looked _ (λ w. element_looked s.by keep c w e _ (h w))
  sees_target_looked e (Place.Object x) h = sees_live_looked _ (λ w. element_looked s.by keep c w e _ (h w))
  sees_target_looked e (Place.Attribute x) h = sees_live_looked _ (λ w. element_looked s.by keep c w e _ (h w))
  sees_target_looked e (Place.ObjectAttribute x a) h = sees_live_looked _ (λ w. element_looked s.by keep c w e _ (h w))

  -- ---- who may change an event

  -- what is seen of others' copies, where there is none of the caller
  pub without_copy : (e : EventId) (test : Bool → Bool) → HasEvent keep s e →
      (not (holds_copy near e) && test (sees near (event_key e))) ≡ (not (holds_copy s e) && test (sees s (event_key e)))
  unfolding event_key
  without_copy e test h =
      ap (λ b. not b && test (sees near (event_key e))) (holds_copy_looked e h.own)
      ∙ and_where (not (holds_copy s e)) _ _ (λ n. ap test (sees_looked (event_key e) (λ w. element_looked s.by keep c w e Place.Event (h.others (not-true _ n) w))))

  pub bars_looked : (e : EventId) (f g : Bool) → HasEvent keep s e → f ≡ g → bars near e f ≡ bars s e g
  unfolding bars
  bars_looked e f g h k = λ i.
      (without_copy e not h i || holds_home_looked e h.own i && not (k i), NotGranted) ∷ (without_copy e (λ b. b) h i, NotOwner)
      ∷ (holds_copy_looked e h.own i && not (holds_home_looked e h.own i), LockedCopy) ∷ []

  -- ---- own rows

  pub own_row_looked : (k : Key) → keep s.by k ≡ true → own_row near k ≡ own_row s k
  unfolding own_row looked_scene looked_rows
  own_row_looked k h = find_cut (is_row_of s.by k) (λ row. keep row.owner row.key) (λ row e. cell_looked keep s.by k row e h) s.rows

  pub own_any_looked : (k : Key) → keep s.by k ≡ true → list_any (is_row_of s.by k) (looked_rows keep s.rows) ≡ list_any (is_row_of s.by k) s.rows
  unfolding looked_rows
  own_any_looked k h = any_cut (is_row_of s.by k) (λ row. keep row.owner row.key) (λ row e. cell_looked keep s.by k row e h) s.rows

  pub own_live_looked : (k : Key) → IsLooked keep s.by k → own_live near k ≡ own_live s k
  unfolding own_live looked_scene looked_rows
  own_live_looked k h =
      any_within (λ row. is_row_of s.by k row && is_live (looked_rows keep s.rows) row) (λ row. is_row_of s.by k row && is_live s.rows row) (λ row. keep row.owner row.key)
      (λ row e. and_where (is_row_of s.by k row) _ _ (λ is. is_live_looked keep s.rows row (row_looked keep s.by k row is h)))
      (λ row e. (row_looked keep s.by k row (and_parts _ _ e).0 h).0) s.rows

  pub own_row_is_looked : (k : Key) (test : Row → Bool) → keep s.by k ≡ true → own_row_is near k test ≡ own_row_is s k test
  unfolding own_row_is
  own_row_is_looked k test h = ap (λ (o : Option Row). elim o [ None ↦ false | Some row ↦ test row ]) (own_row_looked k h)

  pub is_at_limit_looked : (k : Key) → keep s.by k ≡ true → is_at_limit near k ≡ is_at_limit s k
  unfolding is_at_limit
  is_at_limit_looked k h = own_row_is_looked k _ h

  pub changed_row_looked : (k : Key) (l : Row → Label) (f : Content → Content) → keep s.by k ≡ true → changed_row near k l f ≡ changed_row s k l f
  unfolding changed_row changed written looked_scene
  changed_row_looked k l f h = ap (λ o. map (λ row. changed s row (l row) (f row.content)) (option_to_list o)) (own_row_looked k h)

  -- ---- labels, which are usable by the groups alone

  pub is_usable_looked : (l : Label) → is_usable near l ≡ is_usable s l
  unfolding is_usable looked_scene
  is_usable_looked Label.Own = refl
  is_usable_looked Label.Community = refl
  is_usable_looked Label.Connected = refl
  is_usable_looked Label.All = refl
  is_usable_looked (Label.Group g) = refl
  is_usable_looked Label.Inherit = refl

  pub wants_unusable_looked : (l : Option Label) → wants_unusable near l ≡ wants_unusable s l
  unfolding wants_unusable
  wants_unusable_looked None = refl
  wants_unusable_looked (Some l) = ap not (is_usable_looked l)

  -- the rules of an edit of an own row
  pub edit_rules_looked : (e : EventId) (k : Key) (fits here : Bool) (l : Option Label) (t : Option Stamp) (f : Content → Content) →
      keep s.by k ≡ true → HasEvent keep s e → here ≡ fits → edit_rules near e k here l t f ≡ edit_rules s e k fits l t f
  unfolding edit_rules
  edit_rules_looked e k fits here l t f h g fit =
      rw (
        bars_looked e here fits g fit,
        is_at_limit_looked k h,
        wants_unusable_looked l,
        own_row_is_looked k (is_newer_than t) h,
        own_row_is_looked k (λ row. is_too_long (f row.content)) h,
      ) refl
