-- A package that an organisation hands in is merged into the tables, as its rows are handed in.
use Rattle.std.proofs.Common.{◌≡◌, List, Bool, ℕ, true, false, refl, map, ap, ◌∙◌, length, sym, ◌++◌, leb, ◌&&◌, ◌||◌, not, filter}
use Rattle.misp_levels.specs.Levels.{lowering}
use Rattle.misp_history.proofs.Prelude.{EventId, Group, Inst, IsDistinct, IsTable, OrgId, Row, Version, all-filter, all-map, all_implies, and_from, and_parts, any_agree, content_now, counted, counts, distinct_from_map, distinct_map}
use Rattle.misp_history.proofs.Prelude.{event_key, event_of, filter_agree, handed, handed_in, has_copy, has_event, has_gone, has_home, has_path, in_one_cell, is_handed_in, is_row_of, is_statement, is_tombstone, is_welcome, known, label_now}
use Rattle.misp_history.proofs.Prelude.{length-map, list_all, list_any, map_twice, merged, rows_taken, same_cell, same_inst, same_inst-refl, same_key, same_org, same_org-refl, same_org-sound, tables}
use Rattle.misp_levels.proofs.Steps.{down_none}
use Rattle.misp_history.proofs.Putting.{is_new_to}
use Rattle.misp_history.proofs.Arriving.{settled, comes, come_merged, none_come, is_foreign, taken_told}
use Rattle.misp_history.proofs.AsNew.{own_known, told_as_new}

module _ (n : ℕ) (i : Inst) (w : OrgId) (rows : List Row) where
  abbrev coming : List Version
  coming = map (handed_in n i w) rows

  -- a row as it is handed in
  all_settled : map settled coming ≡ map (handed w) rows
  unfolding settled handed_in handed label_now lowering content_now has_path
  all_settled = map_twice (handed_in n i w) settled (handed w) (λ row. rw (down_none row.label) refl) rows

  all_two : list_all (λ v. comes i v && same_org v.owner w) coming ≡ true
  unfolding handed_in has_path is_handed_in
  all_two = all-map (λ v. comes i v && same_org v.owner w) (handed_in n i w) (λ row. and_from _ _ (and_from _ _ (same_inst-refl i) refl) (same_org-refl w)) rows

  all_come : list_all (comes i) coming ≡ true
  all_come = all_implies (λ v. comes i v && same_org v.owner w) (comes i) (λ v h. (and_parts _ _ h).0) coming all_two

  all_owned : list_all (λ v. same_org v.owner w) coming ≡ true
  all_owned = all_implies (λ v. comes i v && same_org v.owner w) (λ v. same_org v.owner w) (λ v h. (and_parts _ _ h).1) coming all_two

  cells_apart : IsTable (map (handed w) rows) → IsDistinct same_cell coming
  unfolding in_one_cell handed same_cell handed_in
  cells_apart d =
      distinct_map (handed_in n i w) (λ a b. in_one_cell (handed w a) (handed w b)) same_cell (λ a b h. ap (λ t. t && same_org w w && same_key a.key b.key) (same_inst-refl i) ∙ h) rows
      (distinct_from_map (handed w) in_one_cell rows d)

module _ (rows : List Row) (groups : List Group) (i : Inst) (o : OrgId) where
  welcome_known : (v : Version) → same_org v.owner o ≡ true → is_welcome (known rows groups i o) groups v ≡ is_welcome rows groups v
  unfolding is_welcome has_gone has_home
  welcome_known v h =
      rw (same_org-sound v.owner o h, own_known rows groups i o (event_key (event_of v.key)) is_tombstone, own_known rows groups i o (event_key (event_of v.key)) (λ r. not (is_tombstone r) && not r.carried)) refl

  copy_known : (w : OrgId) (e : EventId) → w ≡ o → has_copy (known rows groups i o) w e ≡ has_copy rows w e
  unfolding has_copy
  copy_known w e f = rw (f, own_known rows groups i o (event_key e) (λ r. not (is_tombstone r))) refl

  counts_known : (vs : List Version) → list_all (λ v. same_org v.owner o) vs ≡ true → (v : Version) → same_org v.owner o ≡ true → counts (known rows groups i o) groups vs v ≡ counts rows groups vs v
  unfolding counts has_event
  counts_known vs a v h =
      λ j. welcome_known v h j && (is_statement v.key || (copy_known v.owner (event_of v.key) (same_org-sound v.owner o h) j
      || any_agree (λ u. same_key u.key (event_key (event_of v.key)) && is_welcome (known rows groups i o) groups u) (λ u. same_key u.key (event_key (event_of v.key)) && is_welcome rows groups u)
      (λ u. same_org u.owner o) (λ u g. ap (λ b. same_key u.key (event_key (event_of v.key)) && b) (welcome_known u g)) vs a j))

  pub counted_known : (vs : List Version) → list_all (λ v. same_org v.owner o) vs ≡ true → counted (known rows groups i o) groups vs ≡ counted rows groups vs
  unfolding counted
  counted_known vs a = filter_agree (counts (known rows groups i o) groups vs) (counts rows groups vs) (λ v. same_org v.owner o) (counts_known vs a) vs a

-- a package is merged
pub handed_merged : (n : ℕ) (log : List Version) (i : Inst) (w : OrgId) (groups : List Group) (rows : List Row) → IsTable (map (handed w) rows) →
    tables (log ++ counted (known (tables log i) groups i w) groups (map (handed_in n i w) rows)) i ≡ merged i (tables log i) groups (map (handed w) rows)
handed_merged n log i w groups rows d =
    ap (λ vs. tables (log ++ vs) i) (counted_known (tables log i) groups i w (coming n i w rows) (all_owned n i w rows))
    ∙ come_merged i log (coming n i w rows) groups (all_come n i w rows) (cells_apart n i w rows d)
    ∙ ap (merged i (tables log i) groups) (all_settled n i w rows)

pub handed_elsewhere : (n : ℕ) (log : List Version) (i j : Inst) (w : OrgId) (groups : List Group) (rows : List Row) → same_inst i j ≡ false →
    tables (log ++ counted (known (tables log i) groups i w) groups (map (handed_in n i w) rows)) j ≡ tables log j
unfolding counted
handed_elsewhere n log i j w groups rows h = none_come i j (filter _ (coming n i w rows)) log h (all-filter (comes i) (counts (known (tables log i) groups i w) groups (coming n i w rows)) (coming n i w rows) (all_come n i w rows))

-- and so many of its rows are taken
pub handed_taken : (n : ℕ) (log : List Version) (i : Inst) (w : OrgId) (groups : List Group) (rows : List Row) →
    length (filter (λ v. not (list_any (λ r. is_row_of w v.key r && leb v.stamp r.stamp) (known (tables log i) groups i w))) (counted (known (tables log i) groups i w) groups (map (handed_in n i w) rows)))
    ≡ length (rows_taken i (tables log i) groups (map (handed w) rows))
unfolding counted
handed_taken n log i w groups rows =
    ap (λ vs. length (filter is_newer vs)) (counted_known (tables log i) groups i w vs (all_owned n i w rows))
    ∙ ap length
    (filter_agree is_newer (is_new_to log) (λ v. comes i v && same_org v.owner w) newer_told (filter (counts (tables log i) groups vs) vs)
    (all-filter (λ v. comes i v && same_org v.owner w) (counts (tables log i) groups vs) vs (all_two n i w rows)))
    ∙ sym (length-map (filter (is_new_to log) (filter (counts (tables log i) groups vs) vs)) settled)
    ∙ ap length (taken_told i log vs groups (all_come n i w rows))
    ∙ ap (λ rs. length (rows_taken i (tables log i) groups rs)) (all_settled n i w rows)
  where
    vs : List Version
    vs = coming n i w rows

    is_newer : Version → Bool
    is_newer v = not (list_any (λ r. is_row_of w v.key r && leb v.stamp r.stamp) (known (tables log i) groups i w))

    newer_told : (v : Version) → (comes i v && same_org v.owner w) ≡ true → is_newer v ≡ is_new_to log v
    newer_told v h =
        let two = and_parts (comes i v) (same_org v.owner w) h in
        ap not (own_known (tables log i) groups i w v.key (λ r. leb v.stamp r.stamp)
        ∙ sym (told_as_new v i (and_parts (same_inst v.at i) (is_foreign v) two.0).0 log ∙ ap (λ u. list_any (λ r. is_row_of u v.key r && leb v.stamp r.stamp) (tables log i)) (same_org-sound v.owner w two.1)))
