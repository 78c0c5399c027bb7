-- What a batch of one row does to the tables: an arrival that is newer is put in its place, and one that is not changes nothing.
use Rattle.std.proofs.Common.{◌≡◌, List, ◌∷◌, Bool, true, false, ap, cond, ltb, append-nil, append_assoc, refl, sym, arith, [], ◌++◌, ◌∙◌, inl, inr, leb, map, ◌&&◌, not, ◌||◌, ◌⊎◌, filter}
use Rattle.std.proofs.lemmas.Bool.{cases_Bool, cond_both}
use Rattle.std.proofs.lemmas.List.{map_push}
use Rattle.misp_lists.proofs.Orders.{less_on, less_one_way}
use Rattle.misp_lists.proofs.Ordering.{Apart, in_order_more}
use Rattle.misp_model.proofs.Prelude.{AllByRecursion, Inst, IsDistinct, Row, Version, and_from, and_left, and_parts, and_right, event_key, event_of, false≢true, filter-map, filter_agree, has_path, head_of, in_one_cell, in_order}
use Rattle.misp_model.proofs.Prelude.{is_published, less_or, list_all, list_any, list_any-append, one_cell, put, put_all, put_row, same_inst, same_inst-sound, same_key, same_org, spell, spells, stands_before, tail_of}
use Rattle.misp_history.specs.History.{published_after, released, row_of, is_newest, newest_from, newest, same_cell, tables}
use Rattle.misp_history.proofs.Growing.{newest_more}
use Rattle.misp_history.proofs.Tables.{in_order_rows}

pub before_on : (a b d : Row) → stands_before a b ≡ true → stands_before b d ≡ true → stands_before a d ≡ true
unfolding stands_before
before_on a b d h k = less_on _ _ _ h k

pub before_one_way : (a b : Row) → stands_before a b ≡ true → stands_before b a ≡ false
unfolding stands_before
before_one_way a b h = less_one_way _ _ h

-- of two rows of different names one stands before the other
pub names_apart : (a b : Row) → in_one_cell a b ≡ false → (stands_before a b ≡ true) ⊎ (stands_before b a ≡ true)
unfolding stands_before
names_apart a b h = elim (less_or ((event_of a.key).0.0 ∷ a.owner.0.0 ∷ spell a.key) ((event_of b.key).0.0 ∷ b.owner.0.0 ∷ spell b.key)) [
  | inr x ↦ x
  | inl e ↦ absurd (false≢true (sym h ∙ one_cell a b (λ i. record { 0 = record { 0 = head_of (tail_of (e i)) } }) (spells a.key b.key (ap (λ ns. tail_of (tail_of ns)) e))))
]

-- the row is not of the version's owner and key
abbrev pub is_other : Version → Row → Bool
is_other v row = not (same_org row.owner v.owner && same_key row.key v.key)

-- p is a publishing that lets u out
abbrev pub lets_out : Version → Version → Bool
lets_out p u = same_inst p.at u.at && same_org p.owner u.owner && same_key p.key (event_key (event_of u.key)) && (is_published p.came && (not (has_path p) && ltb u.act p.act))

later_not : (a b c : Bool) → (a && b) ≡ false → (a && (b && c)) ≡ false
later_not a b c h = grind arith

pub or_none : (b t : Bool) → t ≡ false → (b || (t || false)) ≡ b
or_none b t h = grind arith

-- an arrival that does not let it out changes no other row
pub row_of_more : (log : List Version) (v u : Version) → lets_out v u ≡ false → row_of (log ++ v ∷ []) u ≡ row_of log u
unfolding row_of released published_after
row_of_more log v u h = rw (list_any-append (λ p. lets_out p u) log (v ∷ []), or_none (list_any (λ p. lets_out p u) log) (lets_out v u) h) refl

-- the newest at an instance are there
newest_here : (i : Inst) (before after : List Version) → list_all (λ u. same_inst u.at i) (newest_from i before after) ≡ true
unfolding newest_from
newest_here i before [] = refl
newest_here i before (u ∷ after) = let later = newest_here i (u ∷ before) after in
    cond_both (same_inst u.at i && is_newest before u after) _ _ (λ us. list_all (λ (x : Version). same_inst x.at i) us ≡ true) (λ e. and_from _ _ (and_parts _ _ e).0 later) (λ e. later)

pub here : (log : List Version) (i : Inst) → list_all (λ u. same_inst u.at i) (newest log i) ≡ true
unfolding newest
here log i = newest_here i [] log

pub others_agree : (v : Version) (log : List Version) (i : Inst) → same_inst v.at i ≡ true → (us : List Version) → list_all (λ u. same_inst u.at i) us ≡ true →
    map (row_of log) (filter (λ u. not (same_cell u v)) us) ≡ filter (is_other v) (map (row_of log) us)
unfolding same_cell row_of
others_agree v log i h us a =
    ap (map (row_of log)) (filter_agree (λ u. not (same_cell u v)) (λ u. is_other v (row_of log u)) (λ u. same_inst u.at i)
    (λ u e. ap (λ t. not (t && same_org u.owner v.owner && same_key u.key v.key)) (ap (same_inst u.at) (same_inst-sound v.at i h) ∙ e)) us a)
    ∙ sym (filter-map (row_of log) (is_other v) us)

-- a row stands before or after each of another owner or key
pub apart_rows : (r : Row) (rows : List Row) → Apart stands_before before_on before_one_way r (filter (λ row. not (in_one_cell row r)) rows)
apart_rows r [] = tt
apart_rows r (row ∷ rows) = elim (cases_Bool (in_one_cell row r)) [ inl e ↦ rw e (apart_rows r rows) | inr e ↦ rw e (names_apart row r e, apart_rows r rows) ]

-- the tables with one arrival more that is no publishing of this instance: it is put in the place of its owner's row of that key where it is newer, and else nothing changes
pub tables_more_by : (log : List Version) (v : Version) (i : Inst) → (is_published v.came && not (has_path v)) ≡ false →
    tables (log ++ v ∷ []) i
    ≡ cond (same_inst v.at i && not (list_any (λ a. same_cell a v && leb v.stamp a.stamp) log)) (put stands_before (row_of log v) (filter (is_other v) (tables log i))) (tables log i)
unfolding tables in_one_cell row_of
tables_more_by log v i h =
    (λ j. in_order stands_before (map (λ u. row_of_more log v u (and_right _ _ (later_not (is_published v.came) (not (has_path v)) (ltb u.act v.act) h)) j) (newest (log ++ v ∷ []) i)))
    ∙ ap (λ us. in_order stands_before (map (row_of log) us)) (newest_more v log i)
    ∙ placed (same_inst v.at i && not (list_any (λ a. same_cell a v && leb v.stamp a.stamp) log)) refl
  where
    rows : List Row
    rows = map (row_of log) (newest log i)

    placed : (b : Bool) → (same_inst v.at i && not (list_any (λ a. same_cell a v && leb v.stamp a.stamp) log)) ≡ b →
        in_order stands_before (map (row_of log) (cond b (filter (λ u. not (same_cell u v)) (newest log i) ++ v ∷ []) (newest log i)))
        ≡ cond b (put stands_before (row_of log v) (filter (is_other v) (in_order stands_before rows))) (in_order stands_before rows)
    placed false e = refl
    placed true e =
        ap (in_order stands_before)
        (map_push (row_of log) (filter (λ u. not (same_cell u v)) (newest log i)) v
        ∙ ap (λ rs. rs ++ row_of log v ∷ []) (others_agree v log i (and_parts (same_inst v.at i) (not (list_any (λ a. same_cell a v && leb v.stamp a.stamp) log)) e).0 (newest log i) (here log i)))
        ∙ in_order_more stands_before before_on before_one_way (filter (is_other v) rows) (row_of log v) (apart_rows (row_of log v) rows)
        ∙ ap (put stands_before (row_of log v)) (sym (in_order_rows (is_other v) rows))

-- and where it was not written by a publishing at all
pub tables_more : (log : List Version) (v : Version) (i : Inst) → is_published v.came ≡ false →
    tables (log ++ v ∷ []) i
    ≡ cond (same_inst v.at i && not (list_any (λ a. same_cell a v && leb v.stamp a.stamp) log)) (put stands_before (row_of log v) (filter (is_other v) (tables log i))) (tables log i)
tables_more log v i h = tables_more_by log v i (and_left _ _ h)

-- ---- one arrival after another

-- no version of its cell is as new
abbrev pub is_new_to : List Version → Version → Bool
is_new_to log v = not (list_any (λ a. same_cell a v && leb v.stamp a.stamp) log)

-- one of another cell bars none
new_agree : (v : Version) (log vs : List Version) → AllByRecursion (λ u. same_cell v u ≡ false) vs → filter (is_new_to (log ++ v ∷ [])) vs ≡ filter (is_new_to log) vs
new_agree v log [] a = refl
new_agree v log (u ∷ vs) a =
    let same : is_new_to (log ++ v ∷ []) u ≡ is_new_to log u =
    ap not (list_any-append (λ a. same_cell a u && leb u.stamp a.stamp) log (v ∷ []) ∙ or_none (list_any (λ a. same_cell a u && leb u.stamp a.stamp) log) _ (and_left _ _ a.0)) in
    λ j. cond (same j) (u ∷ new_agree v log vs a.1 j) (new_agree v log vs a.1 j)

-- versions of different cells of which each is put where it is newer: those that are newer are put in their places
pub put_many : (i : Inst) (as_row : Version → Row) (Good : List Version → Type 0) (Fits : Version → Type 0)
    → ((log : List Version) (v : Version) → Good log → Fits v → (tables (log ++ v ∷ []) i ≡ cond (is_new_to log v) (put_row (as_row v) (tables log i)) (tables log i)) × Good (log ++ v ∷ []))
    → (vs log : List Version) → AllByRecursion Fits vs → IsDistinct same_cell vs → Good log → tables (log ++ vs) i ≡ put_all (map as_row (filter (is_new_to log) vs)) (tables log i)
unfolding put_all IsDistinct
put_many i as_row Good Fits step [] log a d g = ap (λ l. tables l i) (append-nil log)
put_many i as_row Good Fits step (v ∷ vs) log a d g =
    let one = step log v g a.0 in
    ap (λ l. tables l i) (sym (append_assoc log (v ∷ []) vs)) ∙ put_many i as_row Good Fits step vs (log ++ v ∷ []) a.1 d.1 one.1
    ∙ (λ j. put_all (map as_row (new_agree v log vs d.0 j)) (one.0 j))
    ∙ elim (cases_Bool (is_new_to log v)) [ inl e ↦ rw e refl | inr e ↦ rw e refl ]
