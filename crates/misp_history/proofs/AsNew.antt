-- What the tables tell of the history: they have one row for each owner and key, and where an owner has a version that is as new, it has a row that is as new, and the other way round.
use Rattle.std.proofs.Common.{◌≡◌, List, [], ◌∷◌, Bool, true, false, cond, ◌++◌, ℕ, refl, ap, sym, ◌∙◌, arith, map, leb, ltb, ◌&&◌, ◌||◌, not, filter, subst, Contains, le-leb}
use Rattle.misp_history.proofs.Prelude.{Group, Inst, IsTable, Key, OrgId, Row, Version, Written, alike, and_from, and_left, and_parts, any_agree, any_cut, any_has, any_implies, any_in_order, any_map, any_never, any_of_kept, any_weaker}
use Rattle.misp_history.proofs.Prelude.{apart_in_order, cond_both, distinct_last, distinct_none, false_from_ne_true, false≢true, found, in_one_cell, is_known, is_row_of, known, list_any, list_any-append, nat_tests, newest, newest_from}
use Rattle.misp_history.proofs.Prelude.{not-false, not-true, one_cell, or_left, part_is_table, row_cell_back, row_of, same_cell, same_inst, same_inst-refl, same_inst-sound, same_key, same_org, stands_before, tables, true_from_ne_false}
use Rattle.std.proofs.lemmas.List.{map_push}
use Rattle.misp_history.proofs.Tables.{grown}
use Rattle.misp_history.proofs.Growing.{cell, cell_back, cell_on, newest_more}
use Rattle.misp_history.proofs.Putting.{here, is_other, others_agree}
use Rattle.misp_history.proofs.Sorted.{IsSorted, in_order_sorted, one_of_name}

-- ---- one row for each owner and key

-- one version more takes the place of the one of its name
one_name : (l : List Version) (i : Inst) (pre : List Version) (v : Version) → IsTable (map (row_of l) (newest pre i)) → IsTable (map (row_of l) (newest (pre ++ v ∷ []) i))
unfolding in_one_cell row_of
one_name l i pre v d = subst (λ us. IsTable (map (row_of l) us)) (sym (newest_more v pre i)) (cond_both _ _ _ (λ us. IsTable (map (row_of l) us)) more (λ e. d))
  where
    rows : List Row
    rows = map (row_of l) (newest pre i)

    more : (same_inst v.at i && not (list_any (λ a. same_cell a v && leb v.stamp a.stamp) pre)) ≡ true → IsTable (map (row_of l) (filter (λ u. not (same_cell u v)) (newest pre i) ++ v ∷ []))
    more e =
        subst IsTable (sym (map_push (row_of l) (filter (λ u. not (same_cell u v)) (newest pre i)) v ∙ ap (λ rs. rs ++ row_of l v ∷ []) (others_agree v l i (and_parts _ _ e).0 (newest pre i) (here pre i))))
        (distinct_last in_one_cell (filter (is_other v) rows) (row_of l v) (part_is_table (is_other v) rows d)
        (any_of_kept (λ r. in_one_cell r (row_of l v)) (is_other v) rows ∙ any_never (λ r. in_one_cell r (row_of l v) && is_other v r) (λ r. grind arith) rows))

pub newest_apart : (log : List Version) (i : Inst) → IsTable (map (row_of log) (newest log i))
unfolding newest newest_from
newest_apart log i = grown (λ l. IsTable (map (row_of log) (newest l i))) (one_name log i) log [] (distinct_none in_one_cell)

pub tables_are_tables : (log : List Version) (i : Inst) → IsTable (tables log i)
unfolding tables
tables_are_tables log i = apart_in_order in_one_cell row_cell_back stands_before (map (row_of log) (newest log i)) (newest_apart log i)

pub tables_sorted : (log : List Version) (i : Inst) → IsSorted (tables log i)
unfolding tables
tables_sorted log i = in_order_sorted (map (row_of log) (newest log i)) (newest_apart log i)

-- ---- rows that are as new

-- as new as a later number is as new as an earlier one
sooner : (c : Bool) (l m n : ℕ) → leb l m ≡ true → (c && leb m n) ≡ true → (c && leb l n) ≡ true
sooner c l m n e h = grind (arith, nat_tests)

older : (c : Bool) (l m n : ℕ) → leb l m ≡ false → (c && leb l n) ≡ true → (c && leb m n) ≡ true
older c l m n e h = grind (arith, nat_tests)

same_or : (p q : Bool) → (q ≡ true → p ≡ true) → p ≡ (p || (q || false))
same_or p q h = grind arith

last_or : (p q : Bool) → (p ≡ true → q ≡ true) → (false || (q || false)) ≡ (p || (q || false))
last_or p q h = grind arith

module _ (v : Version) (i : Inst) (at : same_inst v.at i ≡ true) where
  -- of v's owner and key at its instance, and as new
  abbrev as_new : Version → Bool
  as_new a = same_cell a v && leb v.stamp a.stamp

  module _ (pre : List Version) (x : Version) where
    -- as new as x in its cell
    abbrev bars : Version → Bool
    bars a = same_cell a x && leb x.stamp a.stamp

    abbrev rest : List Version
    rest = newest pre i

    -- the version that is new in its cell or not
    abbrev is_put : Bool
    is_put = same_inst x.at i && not (list_any bars pre)

    abbrev others : List Version
    others = filter (λ u. not (same_cell u x)) rest

    same_as : same_cell x v ≡ true → (a : Version) → same_cell a x ≡ same_cell a v
    same_as e a = alike _ _ (λ k. cell_on a x v k e) (λ k. cell_on a v x k (cell_back x v e))

    step : list_any as_new rest ≡ list_any as_new pre → list_any as_new (newest (pre ++ x ∷ []) i) ≡ list_any as_new (pre ++ x ∷ [])
    step ih = ap (list_any as_new) (newest_more x pre i) ∙ one (same_cell x v) refl is_put refl ∙ sym (list_any-append as_new pre (x ∷ []))
      where
        -- x is older than what bars it
        barred : same_cell x v ≡ true → is_put ≡ false → as_new x ≡ true → list_any as_new pre ≡ true
        barred e f k =
            any_implies bars as_new (λ a g. sooner (same_cell a v) v.stamp x.stamp a.stamp (and_parts (same_cell x v) (leb v.stamp x.stamp) k).1 (ap (λ b. b && leb x.stamp a.stamp) (sym (same_as e a)) ∙ g)) pre
            (not-false (list_any bars pre) (sym (ap (λ t. t && not (list_any bars pre)) (ap (λ a. same_inst a i) (cell x v e).0 ∙ at)) ∙ f))

        -- x is as new as what it takes the place of
        newer : same_cell x v ≡ true → is_put ≡ true → list_any as_new pre ≡ true → as_new x ≡ true
        newer e f k = and_from (same_cell x v) (leb v.stamp x.stamp) e (true_from_ne_false (leb v.stamp x.stamp) (λ g. false≢true
            (sym (not-true (list_any bars pre) (and_parts (same_inst x.at i) (not (list_any bars pre)) f).1)
            ∙ any_implies as_new bars (λ a h. ap (λ b. b && leb x.stamp a.stamp) (same_as e a) ∙ older (same_cell a v) v.stamp x.stamp a.stamp g h) pre k)))

        none : same_cell x v ≡ true → list_any as_new others ≡ false
        none e =
            any_of_kept as_new (λ u. not (same_cell u x)) rest
            ∙ any_never (λ u. as_new u && not (same_cell u x)) (λ u. (λ j. (same_cell u v && leb v.stamp u.stamp) && not (same_as e u j)) ∙ never (same_cell u v) (leb v.stamp u.stamp)) rest
          where
            never : (c b : Bool) → ((c && b) && not c) ≡ false
            never c b = grind arith

        apart : same_cell x v ≡ false → (u : Version) → as_new u ≡ true → not (same_cell u x) ≡ true
        apart e u g = ap not (false_from_ne_true (same_cell u x) (λ k. false≢true (sym e ∙ cell_on x u v (cell_back u x k) (and_parts (same_cell u v) (leb v.stamp u.stamp) g).0)))

        one : (m : Bool) → same_cell x v ≡ m → (b : Bool) → is_put ≡ b → list_any as_new (cond b (others ++ x ∷ []) rest) ≡ (list_any as_new pre || (as_new x || false))
        one true e true f = list_any-append as_new others (x ∷ []) ∙ ap (λ t. t || (as_new x || false)) (none e) ∙ last_or (list_any as_new pre) (as_new x) (newer e f)
        one true e false f = ih ∙ same_or (list_any as_new pre) (as_new x) (barred e f)
        one false e true f = list_any-append as_new others (x ∷ []) ∙ ap (λ t. t || (as_new x || false)) (any_cut as_new (λ u. not (same_cell u x)) (apart e) rest ∙ ih)
        one false e false f = ih ∙ same_or (list_any as_new pre) (as_new x) (λ k. absurd (false≢true (sym e ∙ (and_parts (same_cell x v) (leb v.stamp x.stamp) k).0)))

  newest_as_new : (log : List Version) → list_any as_new (newest log i) ≡ list_any as_new log
  unfolding newest newest_from
  newest_as_new log = grown (λ l. list_any as_new (newest l i) ≡ list_any as_new l) step log [] refl

  -- what is as new is told by the tables
  pub told_as_new : (log : List Version) → list_any as_new log ≡ list_any (λ r. is_row_of v.owner v.key r && leb v.stamp r.stamp) (tables log i)
  unfolding tables same_cell is_row_of row_of
  told_as_new log =
      sym (any_in_order stands_before (λ r. is_row_of v.owner v.key r && leb v.stamp r.stamp) (map (row_of log) (newest log i))
      ∙ any_map (row_of log) (λ r. is_row_of v.owner v.key r && leb v.stamp r.stamp) (newest log i)
      ∙ any_agree (λ u. is_row_of v.owner v.key (row_of log u) && leb v.stamp (row_of log u).stamp) as_new (λ u. same_inst u.at i) one (newest log i) (here log i)
      ∙ newest_as_new log)
    where
      one : (u : Version) → same_inst u.at i ≡ true → (is_row_of v.owner v.key (row_of log u) && leb v.stamp (row_of log u).stamp) ≡ as_new u
      one u k = sym (ap (λ t. t && same_org u.owner v.owner && same_key u.key v.key && leb v.stamp u.stamp) (ap (same_inst u.at) (same_inst-sound v.at i at) ∙ k))

-- ---- what an organisation knows has all its own rows
pub own_known : (rows : List Row) (groups : List Group) (i : Inst) (o : OrgId) (k : Key) (test : Row → Bool) → list_any (λ r. is_row_of o k r && test r) (known rows groups i o) ≡ list_any (λ r. is_row_of o k r && test r) rows
unfolding known is_known is_row_of
own_known rows groups i o k test = any_cut (λ r. is_row_of o k r && test r) (is_known rows groups i o) (λ r h. or_left _ _ (and_parts (same_org r.owner o) (same_key r.key k) (and_parts (is_row_of o k r) (test r) h).0).0) rows

-- of what it has no row, no version is as new as anything
pub none_as_new : (log : List Version) (groups : List Group) (v : Version) → list_any (is_row_of v.owner v.key) (known (tables log v.at) groups v.at v.owner) ≡ false → list_any (λ a. same_cell a v && leb v.stamp a.stamp) log ≡ false
none_as_new log groups v h =
    told_as_new v v.at (same_inst-refl v.at) log ∙ sym (own_known (tables log v.at) groups v.at v.owner v.key (λ r. leb v.stamp r.stamp))
    ∙ any_weaker (is_row_of v.owner v.key) (λ r. is_row_of v.owner v.key r && leb v.stamp r.stamp) (λ r e. and_left _ _ e) (known (tables log v.at) groups v.at v.owner) h

-- ---- a row of the tables has the greatest stamp of its owner's versions of its key
module _ (log : List Version) (i : Inst) (row : Row) (there : Contains (tables log i) row) where
  -- of the row's owner and key at the instance, and as new as the number
  abbrev pub named : ℕ → Version → Bool
  named n a = (same_inst a.at i && same_org a.owner row.owner && same_key a.key row.key) && leb n a.stamp

  told_of_row : (n : ℕ) → list_any (named n) log ≡ list_any (λ r. is_row_of row.owner row.key r && leb n r.stamp) (tables log i)
  unfolding same_cell
  told_of_row n = told_as_new (record { at = i; owner = row.owner; key = row.key; stamp = n; label = row.label; content = row.content; came = Written; act = 0; path = [] }) i (same_inst-refl i) log

  pub none_newer : (n : ℕ) → ltb row.stamp n ≡ true → list_any (named n) log ≡ false
  unfolding is_row_of in_one_cell
  none_newer n h = told_of_row n ∙ false_from_ne_true _ (λ g.
      let f = found (λ r. is_row_of row.owner row.key r && leb n r.stamp) (tables log i) g in
      let same : f.0 ≡ row = one_of_name (tables log i) f.0 row (tables_are_tables log i) f.1.0 there (and_parts _ _ f.1.1).0 in
      let late : leb n row.stamp ≡ true = ap (λ (r : Row). leb n r.stamp) (sym same) ∙ (and_parts _ _ f.1.1).1 in
      grind (arith, nat_tests))

  -- and is a version's
  pub backed : list_any (named row.stamp) log ≡ true
  unfolding is_row_of in_one_cell
  backed = told_of_row row.stamp ∙ any_has (λ r. is_row_of row.owner row.key r && leb row.stamp r.stamp) (tables log i) row there (and_from _ _ (one_cell row row refl refl) (le-leb row.stamp row.stamp (omega arith)))
