-- The tables of a history that was cut are the cut tables.
use Rattle.std.proofs.Common.{◌≡◌, List, Bool, true, ltb, refl, leb, ◌∷◌, false, cond, sym, ◌∙◌, [], ap, map, ◌&&◌, not, filter, ◌++◌, append-nil, append_assoc, subst}
use Rattle.misp_lists.proofs.Lists.{map_same}
use Rattle.misp_lists.proofs.Ordering.{in_order_cut}
use Rattle.misp_lists.proofs.Orders.{less_on, less_past}
use Rattle.misp_model.proofs.Prelude.{Inst, IsClosed, Key, Row, Version, and_parts, any_cut, cut_rows, event_kept, event_key, event_of, filter-map, has_path, in_order, is_published, list_all, list_any, same_inst, same_key, same_key-keeps}
use Rattle.misp_model.proofs.Prelude.{same_org, stands_before}
use Rattle.misp_model.specs.Closed.{cut}
use Rattle.misp_history.specs.History.{published_after, released, row_of, same_cell, is_newest, newest_from, newest, tables}

pub published_after_cut : (keep : Key → Bool) → IsClosed keep → (log : List Version) (v : Version) → keep v.key ≡ true → published_after (cut keep log) v ≡ published_after log v
unfolding published_after cut
published_after_cut keep c log v h =
    any_cut (λ p. same_inst p.at v.at && same_org p.owner v.owner && same_key p.key (event_key (event_of v.key)) && (is_published p.came && (not (has_path p) && ltb v.act p.act))) (λ p. keep p.key)
    (λ p e. same_key-keeps keep p.key _ (and_parts _ _ (and_parts _ _ e).0).1 (event_kept keep c v.key h)) log

pub row_of_cut : (keep : Key → Bool) → IsClosed keep → (log : List Version) (v : Version) → keep v.key ≡ true → row_of (cut keep log) v ≡ row_of log v
unfolding row_of released
row_of_cut keep c log v h = rw (published_after_cut keep c log v h) refl

cell_cut : (keep : Key → Bool) (v : Version) → keep v.key ≡ true → (test : Version → Bool) (vs : List Version) → list_any (λ a. same_cell a v && test a) (cut keep vs) ≡ list_any (λ a. same_cell a v && test a) vs
unfolding same_cell cut
cell_cut keep v h test vs = any_cut (λ a. same_cell a v && test a) (λ a. keep a.key) (λ a e. same_key-keeps keep a.key v.key (and_parts _ _ (and_parts _ _ e).0).1 h) vs

is_newest_cut : (keep : Key → Bool) (before : List Version) (v : Version) (after : List Version) → keep v.key ≡ true → is_newest (cut keep before) v (cut keep after) ≡ is_newest before v after
unfolding is_newest
is_newest_cut keep before v after h = rw (cell_cut keep v h (λ a. leb v.stamp a.stamp) before, cell_cut keep v h (λ a. ltb v.stamp a.stamp) after) refl

filter_cond : {X : Type 0} (q : X → Bool) (v : X) (xs : List X) (t : Bool) → filter q (cond t (v ∷ xs) xs) ≡ cond t (filter q (v ∷ xs)) (filter q xs)
filter_cond q v xs true = refl
filter_cond q v xs false = refl

cond_same : {X : Type 0} (t : Bool) (x : X) → x ≡ cond t x x
cond_same true x = refl
cond_same false x = refl

newest_from_cut : (keep : Key → Bool) (i : Inst) (before after : List Version) → newest_from i (cut keep before) (cut keep after) ≡ cut keep (newest_from i before after)
unfolding newest_from cut
newest_from_cut keep i before [] = refl
newest_from_cut keep i before (v ∷ after) = one (keep v.key) refl (newest_from_cut keep i (v ∷ before) after) ∙ sym (filter_cond (λ (u : Version). keep u.key) v (newest_from i (v ∷ before) after) is_new)
  where
    is_new : Bool
    is_new = same_inst v.at i && is_newest before v after

    rest : List Version
    rest = cut keep (newest_from i (v ∷ before) after)

    one : (b : Bool) → keep v.key ≡ b → newest_from i (cond b (v ∷ cut keep before) (cut keep before)) (cut keep after) ≡ rest →
        newest_from i (cut keep before) (cond b (v ∷ cut keep after) (cut keep after)) ≡ cond is_new (cond b (v ∷ rest) rest) rest
    one true e ih = rw (is_newest_cut keep before v after e, ih) refl
    one false e ih = ih ∙ cond_same is_new rest

pub newest_cut : (keep : Key → Bool) (log : List Version) (i : Inst) → newest (cut keep log) i ≡ cut keep (newest log i)
unfolding newest cut
newest_cut keep log i = newest_from_cut keep i [] log

pub in_order_rows : (q : Row → Bool) (rows : List Row) → filter q (in_order stands_before rows) ≡ in_order stands_before (filter q rows)
unfolding stands_before
in_order_rows q rows = in_order_cut stands_before (λ a b d h k. less_on _ _ _ h k) (λ w x y h k. less_past _ _ _ h k) q rows

pub tables_cut : (keep : Key → Bool) → IsClosed keep → (log : List Version) (i : Inst) → tables (cut keep log) i ≡ cut_rows keep (tables log i)
unfolding tables cut_rows cut row_of
tables_cut keep c log i =
    ap (in_order stands_before)
    (ap (map (row_of (cut keep log))) (newest_cut keep log i)
    ∙ map_same (row_of (cut keep log)) (row_of log) (λ v. keep v.key) (λ v e. row_of_cut keep c log v e) (newest log i)
    ∙ sym (filter-map (row_of log) (λ row. keep row.key) (newest log i)))
    ∙ sym (in_order_rows (λ row. keep row.key) (map (row_of log) (newest log i)))

-- ---- what holds of a list and stays so with one more at its end
module _ {X : Type 0} (P : List X → Type 0) where
  pub grown : ((pre : List X) (x : X) → P pre → P (pre ++ x ∷ [])) → (xs pre : List X) → P pre → P (pre ++ xs)
  grown step [] pre h = subst P (sym (append-nil pre)) h
  grown step (x ∷ xs) pre h = subst P (append_assoc pre (x ∷ []) xs) (grown step xs (pre ++ x ∷ []) (step pre x h))

  pub grown_where : (q : X → Bool) → ((pre : List X) (x : X) → q x ≡ true → P pre → P (pre ++ x ∷ [])) → (xs pre : List X) → list_all q xs ≡ true → P pre → P (pre ++ xs)
  grown_where q step [] pre a h = subst P (sym (append-nil pre)) h
  grown_where q step (x ∷ xs) pre a h =
      let two = and_parts (q x) (list_all q xs) a in subst P (append_assoc pre (x ∷ []) xs) (grown_where q step xs (pre ++ x ∷ []) two.1 (step pre x two.0 h))
