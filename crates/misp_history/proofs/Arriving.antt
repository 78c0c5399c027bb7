-- Versions that come from elsewhere are put in their places as rows, where they are newer, one after another.
use Rattle.std.proofs.Common.{Bool, true, false, ◌≡◌, List, inl, inr, refl, ap, arith, [], ◌∷◌, ◌++◌, ◌∙◌, cond, sym, map, ◌||◌, not, ◌&&◌, filter}
use Rattle.misp_history.proofs.Prelude.{Came, Group, Handed_in, Inst, IsDistinct, Row, Version, all-filter, all_among, all_has, all_implies, and_left, and_parts, and_right, any_agree, any_map, apart_part}
use Rattle.misp_history.proofs.Prelude.{cell_back, content_now, counted, counts, counts_row, event_key, event_of, false_from_ne_true, false≢true, filter-map, filter_agree, has_copy, has_event, has_event_row, has_gone, has_home, has_path}
use Rattle.misp_history.proofs.Prelude.{is_handed_in, is_made_at, is_newer_row, is_published, is_statement, is_welcome, is_welcome_row, label_is_known, label_now, list_all, merged, or_cases, put, put_all, put_row}
use Rattle.misp_history.proofs.Prelude.{released, row_of, rows_taken, same_cell, same_inst, same_inst-sound, same_key, same_org, stands_before, tables}
use Rattle.misp_history.proofs.Putting.{is_new_to, put_many, tables_more_by}
use Rattle.misp_history.proofs.Elsewhere.{tables_elsewhere}
use Rattle.misp_history.proofs.AsNew.{told_as_new}

-- the version came from elsewhere: by a synchronisation, or handed in
abbrev pub is_foreign : Version → Bool
is_foreign v = has_path v || is_handed_in v.came

-- a version that came from elsewhere, as a row
unfoldable pub settled : Version → Row
settled v = record { owner = v.owner; key = v.key; stamp = v.stamp; label = label_now v; held = false; carried = true; content = content_now v }

or_swap : (a b : Bool) → (a || b) ≡ true → (b || a) ≡ true
or_swap a b h = grind arith

-- it is released, whatever the history
pub settles : (log : List Version) (v : Version) → is_foreign v ≡ true → row_of log v ≡ settled v
unfolding row_of settled released
settles log v h = rw (h, or_swap (has_path v) (is_handed_in v.came) h) refl

handed_unpublished : (c : Came) → is_handed_in c ≡ true → is_published c ≡ false
unfolding is_handed_in is_published
handed_unpublished Handed_in h = refl
handed_unpublished c h = absurd (false≢true h)

-- it publishes nothing where it comes
quiet : (v : Version) → is_foreign v ≡ true → (is_published v.came && not (has_path v)) ≡ false
quiet v h = elim (or_cases _ _ h) [ inl p ↦ and_right _ _ (ap not p) | inr q ↦ and_left _ _ (handed_unpublished v.came q) ]

-- it comes to the instance from elsewhere
abbrev pub comes : Inst → Version → Bool
comes i v = same_inst v.at i && is_foreign v

one_comes : (i : Inst) (log : List Version) (v : Version) → comes i v ≡ true → tables (log ++ v ∷ []) i ≡ cond (is_new_to log v) (put_row (settled v) (tables log i)) (tables log i)
unfolding put_row settled
one_comes i log v h =
    let two : (same_inst v.at i ≡ true) × (is_foreign v ≡ true) = and_parts _ _ h in
    tables_more_by log v i (quiet v two.1)
    ∙ (λ j. cond (two.0 j && is_new_to log v) (put stands_before (settles log v two.1 j) (filter (λ r. not (same_org r.owner v.owner && same_key r.key v.key)) (tables log i))) (tables log i))

-- those that are newer are put in their places
pub many_come : (i : Inst) (vs log : List Version) → list_all (comes i) vs ≡ true → IsDistinct same_cell vs →
    tables (log ++ vs) i ≡ put_all (map settled (filter (is_new_to log) vs)) (tables log i)
many_come i vs log h d = put_many i settled (λ l. Unit {0}) (λ v. comes i v ≡ true) (λ log v g k. (one_comes i log v k, tt)) vs log (all_among (λ v. comes i v ≡ true) vs (λ v m. all_has (comes i) vs v h m)) d tt

-- elsewhere nothing changes
pub none_come : (i j : Inst) (vs log : List Version) → same_inst i j ≡ false → list_all (comes i) vs ≡ true → tables (log ++ vs) j ≡ tables log j
none_come i j vs log apart h = tables_elsewhere i j vs log apart (all_implies (comes i) (λ v. same_inst v.at i) (λ v k. (and_parts _ _ k).0) vs h)

-- ---- what counts, told by rows
module _ (i : Inst) (rows : List Row) (groups : List Group) where
  welcome_told : (v : Version) → comes i v ≡ true → is_welcome rows groups v ≡ is_welcome_row i rows groups (settled v)
  unfolding is_welcome is_welcome_row settled
  welcome_told v h =
      ap (λ a. not (has_gone rows v.owner (event_of v.key)) && (not (has_home rows v.owner (event_of v.key)) || is_statement v.key) && not (is_made_at a v.key) && label_is_known groups (label_now v))
      (same_inst-sound v.at i (and_parts _ _ h).0)

  event_told : (vs : List Version) → list_all (comes i) vs ≡ true → (v : Version) → has_event rows groups vs v ≡ has_event_row i rows groups (map settled vs) (settled v)
  unfolding has_event has_event_row settled
  event_told vs h v =
      ap (λ b. has_copy rows v.owner (event_of v.key) || b)
      (any_agree (λ u. same_key u.key (event_key (event_of v.key)) && is_welcome rows groups u) (λ u. same_key u.key (event_key (event_of v.key)) && is_welcome_row i rows groups (settled u)) (comes i)
      (λ u k. ap (λ b. same_key u.key (event_key (event_of v.key)) && b) (welcome_told u k)) vs h
      ∙ sym (any_map settled (λ r. same_key r.key (event_key (event_of v.key)) && is_welcome_row i rows groups r) vs))

  counts_told : (vs : List Version) → list_all (comes i) vs ≡ true → (v : Version) → comes i v ≡ true → counts rows groups vs v ≡ counts_row i rows groups (map settled vs) (settled v)
  unfolding counts counts_row settled
  counts_told vs h v k = λ j. welcome_told v k j && (is_statement v.key || event_told vs h v j)

pub apart_cells : (a b : Version) → same_cell a b ≡ false → same_cell b a ≡ false
apart_cells a b e = false_from_ne_true _ (λ k. false≢true (sym e ∙ cell_back b a k))

pub newer_told : (i : Inst) (log : List Version) (v : Version) → comes i v ≡ true → is_new_to log v ≡ is_newer_row (tables log i) (settled v)
unfolding is_newer_row settled
newer_told i log v k = ap not (told_as_new v i (and_parts (same_inst v.at i) (is_foreign v) k).0 log)

-- what is newer of what counts, told by rows
pub taken_told : (i : Inst) (log vs : List Version) (groups : List Group) → list_all (comes i) vs ≡ true →
    map settled (filter (is_new_to log) (filter (counts (tables log i) groups vs) vs)) ≡ rows_taken i (tables log i) groups (map settled vs)
unfolding rows_taken
taken_told i log vs groups h =
    ap (map settled)
    (filter_agree (is_new_to log) (λ v. is_newer_row (tables log i) (settled v)) (comes i) (newer_told i log) (filter (counts (tables log i) groups vs) vs) (all-filter (comes i) (counts (tables log i) groups vs) vs h)
    ∙ ap (filter (λ v. is_newer_row (tables log i) (settled v)))
    (filter_agree (counts (tables log i) groups vs) (λ v. counts_row i (tables log i) groups (map settled vs) (settled v)) (comes i) (counts_told i (tables log i) groups vs h) vs h))
    ∙ sym (filter-map settled (is_newer_row (tables log i)) (filter (λ v. counts_row i (tables log i) groups (map settled vs) (settled v)) vs))
    ∙ ap (filter (is_newer_row (tables log i))) (sym (filter-map settled (counts_row i (tables log i) groups (map settled vs)) vs))

-- what comes and counts is merged
pub come_merged : (i : Inst) (log vs : List Version) (groups : List Group) → list_all (comes i) vs ≡ true → IsDistinct same_cell vs →
    tables (log ++ counted (tables log i) groups vs) i ≡ merged i (tables log i) groups (map settled vs)
unfolding counted merged
come_merged i log vs groups h d =
    many_come i (filter (counts (tables log i) groups vs) vs) log (all-filter (comes i) (counts (tables log i) groups vs) vs h) (apart_part same_cell apart_cells (counts (tables log i) groups vs) vs d)
    ∙ ap (λ rs. put_all rs (tables log i)) (taken_told i log vs groups h)
