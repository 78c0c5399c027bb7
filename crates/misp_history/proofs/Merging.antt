-- What a synchronisation does to the tables: what passes of the sender's rows and counts is merged into the receiver's, and no other instance changes.
use Rattle.std.proofs.Common.{◌≡◌, List, Bool, false, ap, sym, ◌∙◌, map, ℕ, [], cond, ◌&&◌, ◌||◌, filter, Contains, ◌∷◌, ◌++◌, true, subst, take, zero, suc, refl}
use Rattle.misp_groups.specs.Changes.{count_taken, take_groups}
use Rattle.misp_groups.specs.Audience.{carries}
use Rattle.misp_history.proofs.Prelude.{AllByRecursion, AreRows, Group, Inst, IsDistinct, IsPackageOf, IsTable, Route, Row, Version, World, alike, all-filter, all_has, all_take, and_parts, any_has, apart_part, arrives, arriving_rows}
use Rattle.misp_history.proofs.Prelude.{bringing, brought, count_bringing, counted, counts_row, distinct_from_map, distinct_map, event_key, event_of, false_from_ne_true, false≢true, found, fresh, has_copy, has_event_row, in_one_cell}
use Rattle.misp_history.proofs.Prelude.{is_newer_row, is_row_of, is_statement, is_welcome_row, kept_has, list_all, list_any, map_from, map_has, merged, merged_by, more_where, moved, of_part, one_cell, packages, passing, put_all}
use Rattle.misp_history.proofs.Prelude.{row_cell_back, rows_taken, same_cell, same_inst, same_inst-refl, same_inst-sound, same_key, same_org, synced, synced_groups, tables, with_groups}
use Rattle.misp_history.specs.Merging.{is_taken}
use Rattle.misp_history.proofs.AsNew.{tables_are_tables, tables_sorted}
use Rattle.misp_history.proofs.Sorted.{IsSorted, one_of_name, put_same}
use Rattle.misp_history.proofs.Arriving.{apart_cells, come_merged, comes, many_come, newer_told, none_come, settled}
use Rattle.misp_history.proofs.Sent.{all_come, arriving_table, came_back, came_so, moved_apart, settled_table}
use Rattle.misp_history.proofs.Again.{AreTaken, merged_again, none_again, taken_are, taken_has}
use Rattle.misp_history.proofs.GroupsAgain.{taken_again}
use Rattle.misp_history.proofs.Putting.{is_new_to}
use Rattle.misp_history.proofs.ByPackages.{all_taken, merged_packages, merged_whole, none_so}
use Rattle.misp_history.proofs.Packing.{packages_are, packages_cover}
use Rattle.misp_history.proofs.Passed.{all_arrive, with_own}
use Rattle.misp_history.specs.Outcomes.{arriving, first_brought, synced_partly, takes}
use Rattle.misp_history.specs.Outcomes as outcomes

-- rows of different names that are the same rows are merged alike
module _ (i : Inst) (rows : List Row) (groups : List Group) (sorted : IsSorted rows) (xs ys : List Row) (d : IsTable xs) (e : IsTable ys)
    (forth : (z : Row) → Contains xs z → Contains ys z) (back : (z : Row) → Contains ys z → Contains xs z) where
  counts_alike : (row : Row) → counts_row i rows groups xs row ≡ counts_row i rows groups ys row
  unfolding counts_row has_event_row
  counts_alike row = λ j.
      is_welcome_row i rows groups row && (is_statement row.key || (has_copy rows row.owner (event_of row.key) || any_same (λ r. same_key r.key (event_key (event_of row.key)) && is_welcome_row i rows groups r) j))
    where
      any_same : (p : Row → Bool) → list_any p xs ≡ list_any p ys
      any_same p = alike _ _ (λ h. let f = found p xs h in any_has p ys f.0 (forth f.0 f.1.0) f.1.1) (λ h. let f = found p ys h in any_has p xs f.0 (back f.0 f.1.0) f.1.1)

  merged_alike : merged i rows groups xs ≡ merged i rows groups ys
  unfolding merged is_taken
  merged_alike =
      put_same (rows_taken i rows groups xs) (rows_taken i rows groups ys) rows sorted (taken_are i rows groups xs d).apart (taken_are i rows groups ys e).apart
      (λ z m. let a = (taken_are i rows groups xs d).are z m in taken_has i rows groups ys z (forth z a.1) (ap (λ b. b && is_newer_row rows z) (sym (counts_alike z)) ∙ a.0))
      (λ z m. let a = (taken_are i rows groups ys e).are z m in taken_has i rows groups xs z (back z a.1) (ap (λ b. b && is_newer_row rows z) (counts_alike z) ∙ a.0))

-- the receiver's tables after a synchronisation
pub synced_here : (w : World) (route : Route) →
    tables (synced w route).log route.into
    ≡ merged route.into (tables w.log route.into) (synced_groups w.groups route route.into) (arriving_rows (tables w.log route.from) (w.groups route.from) route)
unfolding synced
synced_here w route =
    come_merged route.into w.log coming (synced_groups w.groups route route.into) (all_come w.log (w.groups route.from) route (passing w.log (w.groups route.from) route)) (moved_apart w.log (w.groups route.from) route)
    ∙ merged_alike route.into (tables w.log route.into) (synced_groups w.groups route route.into) (tables_sorted w.log route.into) (map settled coming) (arriving_rows (tables w.log route.from) (w.groups route.from) route)
    (settled_table w.log (w.groups route.from) route) (arriving_table w.log (w.groups route.from) route) (came_back w.log (w.groups route.from) route) (came_so w.log (w.groups route.from) route)
  where
    coming : List Version
    coming = map (moved route) (passing w.log (w.groups route.from) route)

-- and those of another instance
pub synced_elsewhere : (w : World) (route : Route) (j : Inst) → same_inst route.into j ≡ false → tables (synced w route).log j ≡ tables w.log j
unfolding synced counted
synced_elsewhere w route j apart =
    none_come route.into j (filter _ (map (moved route) (passing w.log (w.groups route.from) route))) w.log apart
    (all-filter _ _ (map (moved route) (passing w.log (w.groups route.from) route)) (all_come w.log (w.groups route.from) route (passing w.log (w.groups route.from) route)))

-- ---- the same once more

module _ (w : World) (r : Route) (apart : same_inst r.into r.from ≡ false) where
  abbrev once : World
  once = synced w r

  back_apart : same_inst r.from r.into ≡ false
  back_apart = false_from_ne_true _ (λ g. false≢true (sym apart ∙ ap (same_inst r.into) (same_inst-sound r.from r.into g) ∙ same_inst-refl r.into))

  -- the sender is as it was
  from_groups : once.groups r.from ≡ w.groups r.from
  unfolding synced synced_groups with_groups
  from_groups = ap (λ b. cond b (take_groups (w.groups r.into) (filter (λ g. carries g r.«for» r.dest) (w.groups r.from))) (w.groups r.from)) back_apart

  into_groups : once.groups r.into ≡ take_groups (w.groups r.into) (filter (λ g. carries g r.«for» r.dest) (w.groups r.from))
  unfolding synced synced_groups with_groups
  into_groups = ap (λ b. cond b (take_groups (w.groups r.into) (filter (λ g. carries g r.«for» r.dest) (w.groups r.from))) (w.groups r.into)) (same_inst-refl r.into)

  again_groups : synced_groups once.groups r r.into ≡ once.groups r.into
  unfolding synced_groups with_groups
  again_groups =
      ap (λ b. cond b (take_groups (once.groups r.into) (filter (λ g. carries g r.«for» r.dest) (once.groups r.from))) (once.groups r.into)) (same_inst-refl r.into)
      ∙ (λ i. take_groups (into_groups i) (filter (λ g. carries g r.«for» r.dest) (from_groups i)))
      ∙ (taken_again (w.groups r.into) (filter (λ g. carries g r.«for» r.dest) (w.groups r.from))).0
      ∙ sym into_groups

  -- what comes is what came
  coming_again : arriving_rows (tables once.log r.from) (once.groups r.from) r ≡ arriving_rows (tables w.log r.from) (w.groups r.from) r
  coming_again = λ i. arriving_rows (synced_elsewhere w r r.from apart i) (from_groups i) r

  here_once : tables once.log r.into ≡ merged r.into (tables w.log r.into) (once.groups r.into) (arriving_rows (tables w.log r.from) (w.groups r.from) r)
  unfolding synced
  here_once = synced_here w r

  pub again_here : tables (synced once r).log r.into ≡ tables once.log r.into
  again_here =
      synced_here once r
      ∙ (λ i. merged r.into (here_once i) (again_groups i) (coming_again i))
      ∙ merged_again r.into (tables w.log r.into) (once.groups r.into) (arriving_rows (tables w.log r.from) (w.groups r.from) r) (arriving_table w.log (w.groups r.from) r)
      ∙ sym here_once

  pub again_taken : rows_taken r.into (tables once.log r.into) (synced_groups once.groups r r.into) (arriving_rows (tables once.log r.from) (once.groups r.from) r) ≡ []
  again_taken =
      (λ i. rows_taken r.into (here_once i) (again_groups i) (coming_again i))
      ∙ none_again r.into (tables w.log r.into) (once.groups r.into) (arriving_rows (tables w.log r.from) (w.groups r.from) r) (arriving_table w.log (w.groups r.from) r)

  pub again_groups_here : (synced once r).groups r.into ≡ once.groups r.into
  unfolding synced
  again_groups_here = again_groups

  pub again_counted : count_taken (once.groups r.into) (filter (λ g. carries g r.«for» r.dest) (once.groups r.from)) ≡ 0
  again_counted =
      (λ i. count_taken (into_groups i) (filter (λ g. carries g r.«for» r.dest) (from_groups i)))
      ∙ (taken_again (w.groups r.into) (filter (λ g. carries g r.«for» r.dest) (w.groups r.from))).1

-- ---- a synchronisation of which some packages were applied: they are merged one after another
module _ (i : Inst) (log vs : List Version) (come : list_all (comes i) vs ≡ true) (apart : IsDistinct same_cell vs) (table : IsTable (map settled vs)) where
  -- of the versions those whose rows are among these
  abbrev among : List Row → Version → Bool
  among rows v = list_any (is_row_of v.owner v.key) rows

  some_come : (rows : List Row) → IsTable rows → ((y : Row) → Contains rows y → (is_newer_row (tables log i) y ≡ true) × Contains (map settled vs) y) →
      tables (log ++ filter (among rows) vs) i ≡ put_all rows (tables log i)
  unfolding settled is_row_of in_one_cell
  some_come rows t are =
      many_come i (filter (among rows) vs) log (all-filter (comes i) (among rows) vs come) (apart_part same_cell apart_cells (among rows) vs apart)
      ∙ put_same (map settled new) rows (tables log i) (tables_sorted log i)
      (distinct_map settled as_rows in_one_cell (λ a b h. h) new (apart_part as_rows back_rows (is_new_to log) (filter (among rows) vs) (apart_part as_rows back_rows (among rows) vs (distinct_from_map settled in_one_cell vs table))))
      t forth back
    where
      new : List Version
      new = filter (is_new_to log) (filter (among rows) vs)

      as_rows : Version → Version → Bool
      as_rows a b = in_one_cell (settled a) (settled b)

      back_rows : (a b : Version) → as_rows a b ≡ false → as_rows b a ≡ false
      back_rows a b h = row_cell_back (settled a) (settled b) h

      forth : (z : Row) → Contains (map settled new) z → Contains rows z
      forth z m =
          let f = map_from settled new z m in
          let b = of_part (among rows) vs f.0 (of_part (is_new_to log) (filter (among rows) vs) f.0 f.1.0).1 in
          let g = found (is_row_of f.0.owner f.0.key) rows b.0 in
          subst (Contains rows) (one_of_name (map settled vs) g.0 (settled f.0) table (are g.0 g.1.0).1 (map_has settled vs f.0 b.1) g.1.1 ∙ f.1.1) g.1.0

      back : (z : Row) → Contains rows z → Contains (map settled new) z
      back z m =
          let f = map_from settled vs z (are z m).1 in
          let fresh : is_new_to log f.0 ≡ true = newer_told i log f.0 (all_has (comes i) vs f.0 come f.1.0) ∙ ap (is_newer_row (tables log i)) f.1.1 ∙ (are z m).0 in
          let in_it : among rows f.0 ≡ true = any_has (is_row_of f.0.owner f.0.key) rows z m (ap (λ (r : Row). same_org r.owner f.0.owner && same_key r.key f.0.key) (sym f.1.1) ∙ one_cell (settled f.0) (settled f.0) refl refl) in
          subst (Contains (map settled new)) f.1.1 (map_has settled new f.0 (kept_has (is_new_to log) (filter (among rows) vs) f.0 (kept_has (among rows) vs f.0 f.1.0 in_it) fresh))

module _ (log : List Version) (groups mine : List Group) (route : Route) where
  abbrev T : List Row
  T = tables log route.into

  abbrev coming : List Row
  coming = arriving_rows (tables log route.from) groups route

  -- the versions that come
  abbrev vs : List Version
  vs = map (moved route) (passing log groups route)

  -- the first packages were applied
  applied_first : (k : ℕ) → AreRows (tables log route.from) →
      tables (log ++ filter (λ v. list_any (is_row_of v.owner v.key) (brought (is_taken route.into T mine coming) [] (take k (packages coming)))) vs) route.into
      ≡ merged_by route.into T mine (take k (packages coming))
  unfolding is_taken
  applied_first k are =
      some_come route.into log vs (all_come log groups route (passing log groups route)) (moved_apart log groups route) (settled_table log groups route) (brought (is_taken route.into T mine coming) [] ps) t.apart
      (λ y m. ((and_parts (counts_row route.into T mine coming y) (is_newer_row T y) (t.are y m).0).1, came_so log groups route y (t.are y m).1))
      ∙ sym (merged_packages route.into T mine coming (arriving_table log groups route) route.holder owned ps q)
    where
      ps : List (List Row)
      ps = take k (packages coming)

      owned : list_all (arrives route.holder) coming ≡ true
      owned = all_arrive (tables log route.from) groups route (tables_are_tables log route.from) are

      q : AllByRecursion (IsPackageOf coming) ps
      q = all_take (IsPackageOf coming) k (packages coming) (packages_are coming (arriving_table log groups route))

      t : AreTaken route.into T mine coming (brought (is_taken route.into T mine coming) [] ps)
      t = all_taken route.into T mine coming (arriving_table log groups route) route.holder owned ps q [] (none_so route.into T mine coming (arriving_table log groups route) route.holder owned)

-- the packages up to the last of the first that brings a row bring what these bring
brought_through : (test : Row → Bool) (k : ℕ) (so : List Row) (ps : List (List Row)) → brought test so (take k ps) ≡ brought test so (bringing (count_bringing test so (take k ps)) test so ps)
unfolding brought bringing count_bringing
brought_through test zero so ps = refl
brought_through test (suc k) so [] = refl
brought_through test (suc k) so (p ∷ ps) = one (fresh test so p) refl (brought_through test k (so ++ fresh test so p) ps)
  where
    one : (f : List Row) → fresh test so p ≡ f → brought test (so ++ f) (take k ps) ≡ brought test (so ++ f) (bringing (count_bringing test (so ++ f) (take k ps)) test (so ++ f) ps) →
        f ++ brought test (so ++ f) (take k ps) ≡ brought test so (bringing (more_where f (count_bringing test (so ++ f) (take k ps))) test so (p ∷ ps))
    one [] e ih = none (count_bringing test (so ++ []) (take k ps)) ih
      where
        -- where it brings nothing, it counts only if a later one does
        none : (n : ℕ) → brought test (so ++ []) (take k ps) ≡ brought test (so ++ []) (bringing n test (so ++ []) ps) → brought test (so ++ []) (take k ps) ≡ brought test so (bringing n test so (p ∷ ps))
        none zero h = h
        none (suc n) h = rw e h
    one (x ∷ f) e ih = rw e (ap (λ rs. (x ∷ f) ++ rs) ih)

-- a synchronisation that stopped after the batches that its first k packages made
pub stopped_here : (k : ℕ) (w : World) (r : Route) (g : Bool) → AreRows (tables w.log r.from) →
    tables (synced_partly w r g (count_bringing (takes w r (cond g (synced_groups w.groups r) w.groups r.into)) [] (take k (packages (arriving w r))))).log r.into
    ≡ merged_by r.into (tables w.log r.into) (cond g (synced_groups w.groups r) w.groups r.into) (take k (packages (arriving w r)))
unfolding synced_partly first_brought takes arriving outcomes.coming
stopped_here k w r g are =
    ap (λ rs. tables (w.log ++ filter (λ v. list_any (is_row_of v.owner v.key) rs) (map (moved r) (passing w.log (w.groups r.from) r))) r.into)
    (sym (brought_through (is_taken r.into (tables w.log r.into) (cond g (synced_groups w.groups r) w.groups r.into) (arriving_rows (tables w.log r.from) (w.groups r.from) r)) k []
    (packages (arriving_rows (tables w.log r.from) (w.groups r.from) r))))
    ∙ applied_first w.log (w.groups r.from) (cond g (synced_groups w.groups r) w.groups r.into) r k are

pub stopped_elsewhere : (k : ℕ) (w : World) (r : Route) (g : Bool) (j : Inst) → same_inst r.into j ≡ false → tables (synced_partly w r g k).log j ≡ tables w.log j
unfolding synced_partly outcomes.coming
stopped_elsewhere k w r g j h =
    none_come r.into j (filter _ (map (moved r) (passing w.log (w.groups r.from) r))) w.log h
    (all-filter _ _ (map (moved r) (passing w.log (w.groups r.from) r)) (all_come w.log (w.groups r.from) r (passing w.log (w.groups r.from) r)))

pub done_here : (w : World) (r : Route) → AreRows (tables w.log r.from) →
    tables (synced w r).log r.into ≡ merged_by r.into (tables w.log r.into) ((synced w r).groups r.into) (packages (arriving w r))
unfolding arriving synced
done_here w r are =
    synced_here w r
    ∙ sym (merged_whole r.into (tables w.log r.into) (synced_groups w.groups r r.into) coming table r.holder
    (all_arrive (tables w.log r.from) (w.groups r.from) r (tables_are_tables w.log r.from) are) (packages coming) (packages_are coming table)
    (tables_sorted w.log r.into) (packages_cover coming table (with_own (tables w.log r.from) (w.groups r.from) r)))
  where
    coming : List Row
    coming = arriving_rows (tables w.log r.from) (w.groups r.from) r

    table : IsTable coming
    table = arriving_table w.log (w.groups r.from) r
