-- When a row of the event itself is granted.
use Rattle.std.proofs.Common.{◌≡◌, Bool, true, false, refl, sym, ◌∙◌, List, ◌&&◌, not, Contains}
use Rattle.std.proofs.lemmas.Bool.{not_from_false}
use Rattle.misp_model.proofs.Prelude.{EventId, Group, Inst, Key, OrgId, Row, above, and_from, any_has, element_granted, event_key, event_of, granted, granted_by, has_copy, has_open, is_row_of, is_tombstone, list_all, parents, row_is_open}
use Rattle.misp_model.proofs.Prelude.{same_key, same_key-sound, same_org, same_org-refl}
use Rattle.misp_view.specs.View.{is_granted_itself}

-- a row of the event itself is granted where its copy is there and it is open
granted_itself : (rows : List Row) (groups : List Group) (i : Inst) (o w : OrgId) (e : EventId) (opened : Bool) (above_it : Key → Bool) (k : Key) → k ≡ event_key e →
    granted_by rows groups i o w (has_copy rows w (event_of k) && opened && list_all above_it (parents k)) k ≡ (has_copy rows w e && opened)
unfolding granted_by event_of event_key parents above
granted_itself rows groups i o w e opened above_it k h = rw h (one (has_copy rows w e) opened)
  where
    one : (x y : Bool) → (x && y && true) ≡ (x && y)
    one true true = refl
    one true false = refl
    one false y = refl

pub granted_at : (rows : List Row) (groups : List Group) (i : Inst) (o : OrgId) (row : Row) (e : EventId) → same_key row.key (event_key e) ≡ true →
    granted rows groups i o row ≡ (has_copy rows row.owner e && row_is_open groups i o row)
unfolding granted element_granted
granted_at rows groups i o row e h = granted_itself rows groups i o row.owner e (row_is_open groups i o row) (has_open rows groups i o row.owner) row.key (same_key-sound row.key (event_key e) h)

-- what is no tombstone is a copy
pub is_copy : (rows : List Row) (row : Row) (e : EventId) → Contains rows row → same_key row.key (event_key e) ≡ true → is_tombstone row ≡ false → true ≡ has_copy rows row.owner e
unfolding has_copy is_row_of
is_copy rows row e h k m =
    let t : Row → Bool = λ r. same_org r.owner row.owner && same_key r.key (event_key e) && not (is_tombstone r) in
    let here : t row ≡ true = and_from _ _ (and_from _ _ (same_org-refl row.owner) k) (not_from_false _ m) in
    sym (any_has t rows row h here)

-- it is no row of the event itself; it is not open; there is a copy or none
pub other_key : (rows : List Row) (groups : List Group) (i : Inst) (o : OrgId) (row : Row) (e : EventId) → same_key row.key (event_key e) ≡ false → false ≡ is_granted_itself groups i o e rows row
unfolding is_granted_itself
other_key rows groups i o row e h = rw h refl

pub not_open : (rows : List Row) (groups : List Group) (i : Inst) (o : OrgId) (row : Row) (e : EventId) → same_key row.key (event_key e) ≡ true → row_is_open groups i o row ≡ false → false ≡ is_granted_itself groups i o e rows row
unfolding is_granted_itself
not_open rows groups i o row e h k = rw (h, granted_at rows groups i o row e h, k) (one (has_copy rows row.owner e))
  where
    one : (x : Bool) → false ≡ (true && (x && false))
    one true = refl
    one false = refl

pub by_copy : (rows : List Row) (groups : List Group) (i : Inst) (o : OrgId) (row : Row) (e : EventId) (copied : Bool) → same_key row.key (event_key e) ≡ true → row_is_open groups i o row ≡ true →
    copied ≡ has_copy rows row.owner e → copied ≡ is_granted_itself groups i o e rows row
unfolding is_granted_itself
by_copy rows groups i o row e copied h k g = rw (h, granted_at rows groups i o row e h, k) (g ∙ one (has_copy rows row.owner e))
  where
    one : (x : Bool) → x ≡ (true && (x && true))
    one true = refl
    one false = refl
