-- What a publishing does to the tables: the event's row is put in its place, and the hold of each held row of the copy is cleared.
use Rattle.std.proofs.Common.{◌≡◌, ℕ, [], refl, List, ◌∷◌, ◌++◌, Bool, true, false, ap, sym, ◌∙◌, map, cond, ltb, arith, leb, ◌&&◌, ◌||◌, not, filter, le-leb}
use Rattle.std.proofs.lemmas.List.{map_push}
use Rattle.misp_history.proofs.Prelude.{EventId, Inst, OrgId, Published, Row, Version, alike, all-filter, and_from, and_parts, before_on, before_one_way, event_key, event_of, filter-map, fresh_row, has_path, in_one_cell, in_order}
use Rattle.misp_history.proofs.Prelude.{in_order_map, in_order_more, in_order_rows, is_gone, is_handed_in, is_of_copy, is_published, is_statement, let_go, list_all, list_all-append, list_any, list_any-append, newest, newest_more, or_left}
use Rattle.misp_history.proofs.Prelude.{or_right, published_after, put, put_map, put_row, released, row_of, same_cell, same_event, same_event-refl, same_event-sound, same_inst, same_inst-refl, same_inst-sound, same_key, same_key-refl}
use Rattle.misp_history.proofs.Prelude.{same_key-sound, same_org, same_org-refl, same_org-sound, stands_before, tables, unheld}
use Rattle.misp_history.proofs.Putting.{lets_out, row_of_more, is_other, others_agree, here, apart_rows}
use Rattle.misp_history.proofs.Numbered.{newest_within}
use Rattle.misp_history.proofs.Adding.{not_above, row_of_fresh}

-- the n-th act published the event at the instance for this organisation
pub record IsPublishing (n : ℕ) (i : Inst) (o : OrgId) (e : EventId) (p : Version) : Type 0 where
  pub at : p.at ≡ i
  pub owner : p.owner ≡ o
  pub key : p.key ≡ event_key e
  pub came : p.came ≡ Published
  pub path : p.path ≡ []
  pub act : p.act ≡ n

and_true : (b : Bool) → (b && true) ≡ b
and_true b = grind arith

module _ (n : ℕ) (i : Inst) (o : OrgId) (e : EventId) (p : Version) (is : IsPublishing n i o e p) (log : List Version) where
  -- of what is there and older, the copy's is let out
  lets_out_copy : (u : Version) → same_inst u.at i ≡ true → ltb u.act n ≡ true → lets_out p u ≡ is_of_copy o e (row_of log u)
  unfolding row_of is_of_copy is_published has_path event_of event_key
  lets_out_copy u there old =
      rw (is.at, is.owner, is.key, is.came, is.path, is.act, old, same_inst-sound u.at i there, same_inst-refl i)
      (and_true (same_org o u.owner && same_key (event_key e) (event_key (event_of u.key))) ∙ alike _ _ from to)
    where
      from : (same_org o u.owner && same_key (event_key e) (event_key (event_of u.key))) ≡ true → (same_org u.owner o && same_event (event_of u.key) e) ≡ true
      from h =
          let two = and_parts (same_org o u.owner) (same_key (event_key e) (event_key (event_of u.key))) h in
          and_from (same_org u.owner o) (same_event (event_of u.key) e) (ap (λ x. same_org x o) (sym (same_org-sound o u.owner two.0)) ∙ same_org-refl o)
          (ap (λ k. same_event (event_of k) e) (sym (same_key-sound (event_key e) (event_key (event_of u.key)) two.1)) ∙ same_event-refl e)

      to : (same_org u.owner o && same_event (event_of u.key) e) ≡ true → (same_org o u.owner && same_key (event_key e) (event_key (event_of u.key))) ≡ true
      to h =
          let two = and_parts (same_org u.owner o) (same_event (event_of u.key) e) h in
          and_from (same_org o u.owner) (same_key (event_key e) (event_key (event_of u.key))) (ap (same_org o) (same_org-sound u.owner o two.0) ∙ same_org-refl o)
          (ap (λ f. same_key (event_key e) (event_key f)) (same_event-sound (event_of u.key) e two.1) ∙ same_key-refl (event_key e))

  -- a row of before, after the publishing
  row_let_go_by : (u : Version) (b : Bool) → lets_out p u ≡ b → row_of (log ++ p ∷ []) u ≡ cond b (unheld (row_of log u)) (row_of log u)
  unfolding row_of released published_after
  row_let_go_by u false h = row_of_more log p u h
  row_let_go_by u true h =
      let out : list_any (λ q. lets_out q u) (log ++ p ∷ []) ≡ true = list_any-append (λ q. lets_out q u) log (p ∷ []) ∙ or_right (list_any (λ q. lets_out q u) log) (lets_out p u || false) (or_left (lets_out p u) false h) in
      λ j. record (row_of log u) { held = not (or_right (has_path u || is_handed_in u.came || is_statement u.key || is_gone u.content || is_published u.came) (list_any (λ q. lets_out q u) (log ++ p ∷ [])) out j) }

  row_let_go : (u : Version) → same_inst u.at i ≡ true → ltb u.act n ≡ true → row_of (log ++ p ∷ []) u ≡ let_go o e (row_of log u)
  unfolding let_go
  row_let_go u there old = row_let_go_by u (is_of_copy o e (row_of log u)) (lets_out_copy u there old)

  rows_let_go : (us : List Version) → list_all (λ u. same_inst u.at i) us ≡ true → list_all (λ u. ltb u.act n) us ≡ true → map (row_of (log ++ p ∷ [])) us ≡ map (let_go o e) (map (row_of log) us)
  rows_let_go [] h k = refl
  rows_let_go (u ∷ us) h k =
      let at = and_parts (same_inst u.at i) (list_all (λ (v : Version). same_inst v.at i) us) h in
      let old = and_parts (ltb u.act n) (list_all (λ (v : Version). ltb v.act n) us) k in
      λ j. row_let_go u at.0 old.0 j ∷ rows_let_go us at.1 old.1 j

-- ---- rows of which some lose their hold keep their places
kept_before : (a b : Bool) (r s : Row) → stands_before (cond a (unheld r) r) (cond b (unheld s) s) ≡ stands_before r s
unfolding stands_before
kept_before true true r s = refl
kept_before false true r s = refl
kept_before _ _ r s = refl

kept_other : (p : Version) (b : Bool) (r : Row) → is_other p (cond b (unheld r) r) ≡ is_other p r
kept_other p true r = refl
kept_other p false r = refl

module _ (loses : Row → Bool) where
  abbrev kept : Row → Row
  kept r = cond (loses r) (unheld r) r

  pub put_kept : (x : Row) (ys : List Row) → map kept (put stands_before x ys) ≡ put stands_before (kept x) (map kept ys)
  put_kept x ys = sym (λ j. map kept (put (λ r s. kept_before (loses r) (loses s) r s j) x ys)) ∙ put_map kept stands_before x ys

  in_order_kept : (xs : List Row) → in_order stands_before (map kept xs) ≡ map kept (in_order stands_before xs)
  in_order_kept xs = sym (in_order_map kept stands_before xs) ∙ (λ j. map kept (in_order (λ r s. kept_before (loses r) (loses s) r s j) xs))

  -- those that are not of a version's owner and key
  pub others_kept : (p : Version) (rows : List Row) → filter (is_other p) (map kept rows) ≡ map kept (filter (is_other p) rows)
  others_kept p rows = filter-map kept (is_other p) rows ∙ (λ j. map kept (filter (λ r. kept_other p (loses r) r j) rows))

-- ---- the publishing
module _ (n : ℕ) (i : Inst) (o : OrgId) (e : EventId) (p : Version) (is : IsPublishing n i o e p) (log : List Version)
    (older : list_all (λ u. ltb u.act n) log ≡ true) (newer : list_any (λ a. same_cell a p && leb p.stamp a.stamp) log ≡ false) where
  fresh : row_of (log ++ p ∷ []) p ≡ fresh_row p
  unfolding is_handed_in
  fresh =
      row_of_fresh (log ++ p ∷ []) p is.path (ap is_handed_in is.came)
      ((λ j. list_all (λ u. leb u.act (is.act j)) (log ++ p ∷ []))
      ∙ list_all-append (λ u. leb u.act n) log (p ∷ []) ∙ and_from _ _ (not_above n log older) (and_from _ _ (ap (λ a. leb a n) is.act ∙ le-leb n n (omega arith)) refl))

  at_i : same_inst p.at i ≡ true
  at_i = ap (λ x. same_inst x i) is.at ∙ same_inst-refl i

  -- the newest of the others
  abbrev others : List Version
  others = filter (λ u. not (same_cell u p)) (newest log i)

  newest_is : newest (log ++ p ∷ []) i ≡ others ++ p ∷ []
  newest_is = newest_more p log i ∙ ap (λ b. cond b (others ++ p ∷ []) (newest log i)) (and_from _ _ at_i (ap not newer))

  abbrev rows : List Row
  rows = map (row_of log) (newest log i)

  abbrev go : Row → Row
  go = let_go o e

  rows_are : map (row_of (log ++ p ∷ [])) (others ++ p ∷ []) ≡ filter (is_other p) (map go rows) ++ fresh_row p ∷ []
  unfolding newest let_go
  rows_are =
      map_push (row_of (log ++ p ∷ [])) others p
      ∙ (λ j. before j ++ fresh j ∷ [])
    where
      before : map (row_of (log ++ p ∷ [])) others ≡ filter (is_other p) (map go rows)
      before =
          rows_let_go n i o e p is log others
          (all-filter (λ u. same_inst u.at i) (λ u. not (same_cell u p)) (newest log i) (here log i))
          (all-filter (λ u. ltb u.act n) (λ u. not (same_cell u p)) (newest log i) (newest_within (λ u. ltb u.act n) i [] log older))
          ∙ ap (map go) (others_agree p log i at_i (newest log i) (here log i))
          ∙ sym (others_kept (is_of_copy o e) p rows)

  -- the event's row is put, and each row of the copy is let go
  pub published_tables : tables (log ++ p ∷ []) i ≡ put_row (fresh_row p) (map go (tables log i))
  unfolding tables put_row fresh_row let_go in_one_cell
  published_tables =
      ap (λ us. in_order stands_before (map (row_of (log ++ p ∷ [])) us)) newest_is
      ∙ ap (in_order stands_before) rows_are
      ∙ in_order_more stands_before before_on before_one_way (filter (is_other p) (map go rows)) (fresh_row p) (apart_rows (fresh_row p) (map go rows))
      ∙ ap (put stands_before (fresh_row p))
      (sym (in_order_rows (is_other p) (map go rows))
      ∙ ap (filter (is_other p)) (in_order_kept (is_of_copy o e) rows))
