-- What is taken of a package that is handed in, told by rows: over those that its caller knows, and over those of its event, it is what is taken over all.
use Rattle.std.proofs.Common.{◌≡◌, ℕ, List, [], ◌∷◌, Bool, true, false, refl, sym, ap, subst, ◌∙◌, ◌&&◌, ◌||◌, not, map, filter, leb, Less, is_eq, nat_cmp}
use Rattle.std.specs.List.Sorted.{IsStrictlySortedBy}
use Rattle.misp_lists.proofs.Prelude.{bytes_eq-Decides, is_eq-slice_cmp}
use Rattle.misp_elem.specs.Spelling.{key}
use Rattle.misp_levels.specs.Levels.{lowering}
use Rattle.misp_model.specs.Answers.{newer, taken_rows}
use Rattle.misp_model.specs.Package.{IsPackage, is_packed}
use Rattle.misp_model.specs.declared.package.PackageFields.{PackageFields as Package}
use Rattle.misp_model.proofs.Prelude.{map-map, slice_cmp}
use Rattle.misp_levels.proofs.Steps.{down_none}
use Rattle.misp_history.proofs.AsNew.{own_known}
use Rattle.misp_history.proofs.Prelude.{AllByRecursion, EventId, Group, Inst, IsDistinct, IsTable, Key, OrgId, Row, Scene, Version, all-filter, and_from, and_parts, any_agree, any_cut, any_map, counted, counts, counts_row}
use Rattle.misp_history.proofs.Prelude.{event_key, event_of, event_rows, false_from_ne_true, filter-map, filter_agree, handed, handed_in, has_copy, has_event, has_event_row, has_gone, has_home, is_made_at, is_newer_row, is_row_of}
use Rattle.misp_history.proofs.Prelude.{is_statement, is_tombstone, is_welcome, is_welcome_row, in_one_cell, known, label_is_known, label_now, list_all, list_any, row_of_name, rows_taken, same_event, same_key, same_key-sound, same_org, same_org-refl, same_org-sound}
use Rattle.misp_history.specs.History.{fresh_row}
use Rattle.misp_core.specs.Answers.{handed_row}

-- ---- of versions and of rows

module _ (n : ℕ) (i : Inst) (w : OrgId) (rows : List Row) (groups : List Group) where
  -- a row as it is handed in by the act
  abbrev comes : Row → Version
  comes = handed_in n i w

  welcome_is : (row : Row) → is_welcome rows groups (comes row) ≡ is_welcome_row i rows groups (handed w row)
  unfolding is_welcome is_welcome_row handed handed_in label_now lowering
  welcome_is row =
      ap (λ label. not (has_gone rows w (event_of row.key)) && (not (has_home rows w (event_of row.key)) || is_statement row.key) && not (is_made_at i row.key) && label_is_known groups label)
      (down_none row.label)

  event_is : (coming : List Row) (row : Row) → has_event rows groups (map comes coming) (comes row) ≡ has_event_row i rows groups (map (handed w) coming) (handed w row)
  unfolding has_event has_event_row handed handed_in
  event_is coming row =
      ap (λ b. has_copy rows w (event_of row.key) || b)
      (any_map comes (λ u. same_key u.key (event_key (event_of row.key)) && is_welcome rows groups u) coming
      ∙ (λ j. list_any (λ r. same_key r.key (event_key (event_of row.key)) && welcome_is r j) coming)
      ∙ sym (any_map (handed w) (λ r. same_key r.key (event_key (event_of row.key)) && is_welcome_row i rows groups r) coming))

  counts_is : (coming : List Row) (row : Row) → counts rows groups (map comes coming) (comes row) ≡ counts_row i rows groups (map (handed w) coming) (handed w row)
  unfolding counts counts_row handed handed_in
  counts_is coming row = λ j. welcome_is row j && (is_statement row.key || event_is coming row j)

  -- no row of its owner is as new
  abbrev is_new : Version → Bool
  is_new v = not (list_any (λ row. is_row_of w v.key row && leb v.stamp row.stamp) rows)

  newer_is : (row : Row) → is_new (comes row) ≡ is_newer_row rows (handed w row)
  unfolding is_newer_row handed handed_in
  newer_is row = refl

  as_handed : (xs : List Row) → map handed_row (map comes xs) ≡ map (handed w) xs
  unfolding handed handed_in fresh_row
  as_handed xs = map-map handed_row comes xs

  as_rows : (coming : List Row) → map handed_row (filter is_new (filter (counts rows groups (map comes coming)) (map comes coming))) ≡ rows_taken i rows groups (map (handed w) coming)
  unfolding rows_taken
  as_rows coming =
      ap (λ vs. map handed_row (filter is_new vs)) (filter-map comes (counts rows groups (map comes coming)) coming)
      ∙ ap (map handed_row) (filter-map comes is_new (filter (λ row. counts rows groups (map comes coming) (comes row)) coming))
      ∙ as_handed _
      ∙ (λ j. map (handed w) (filter (λ row. newer_is row j) (filter (λ row. counts_is coming row j) coming)))
      ∙ sym (filter-map (handed w) (is_newer_row rows) (filter (λ row. counts_row i rows groups (map (handed w) coming) (handed w row)) coming))
      ∙ ap (filter (is_newer_row rows)) (sym (filter-map (handed w) (counts_row i rows groups (map (handed w) coming)) coming))

-- what is newer of what is handed in are the rows that are taken of it
pub newer_rows : (s : Scene) (coming : List Row) → map handed_row (newer s (taken_rows s coming)) ≡ rows_taken s.at s.rows s.groups (map (handed s.by) coming)
unfolding newer taken_rows counted
newer_rows s coming = as_rows s.act s.at s.by s.rows s.groups coming

-- ---- of an owner's rows of an event

-- the row is the owner's, and of the event
abbrev is_theirs : OrgId → EventId → Row → Bool
is_theirs w e row = same_org row.owner w && same_event (event_of row.key) e

-- the rows of both are the same, as far as they are the owner's and of the event
abbrev Agree : OrgId → EventId → List Row → List Row → Type 0
Agree w e xs ys = (o : OrgId) (k : Key) (test : Row → Bool) → same_org o w ≡ true → same_event (event_of k) e ≡ true → list_any (λ r. is_row_of o k r && test r) xs ≡ list_any (λ r. is_row_of o k r && test r) ys

module _ (i : Inst) (w : OrgId) (e : EventId) (groups : List Group) (xs ys : List Row) (agree : Agree w e xs ys) where
  abbrev of_copy : (row : Row) → is_theirs w e row ≡ true → (test : Row → Bool)
      → list_any (λ r. is_row_of row.owner (event_key (event_of row.key)) r && test r) xs ≡ list_any (λ r. is_row_of row.owner (event_key (event_of row.key)) r && test r) ys
  unfolding event_of event_key
  of_copy row h test = agree row.owner (event_key (event_of row.key)) test (and_parts _ _ h).0 (and_parts _ _ h).1

  welcome_alike : (row : Row) → is_theirs w e row ≡ true → is_welcome_row i xs groups row ≡ is_welcome_row i ys groups row
  unfolding is_welcome_row has_gone has_home
  welcome_alike row h = λ j.
      not (of_copy row h is_tombstone j) && (not (of_copy row h (λ r. not (is_tombstone r) && not r.carried) j) || is_statement row.key)
      && not (is_made_at i row.key) && label_is_known groups row.label

  event_alike : (coming : List Row) → list_all (is_theirs w e) coming ≡ true → (row : Row) → is_theirs w e row ≡ true → has_event_row i xs groups coming row ≡ has_event_row i ys groups coming row
  unfolding has_event_row has_copy
  event_alike coming all row h = λ j.
      of_copy row h (λ r. not (is_tombstone r)) j
      || any_agree (λ r. same_key r.key (event_key (event_of row.key)) && is_welcome_row i xs groups r) (λ r. same_key r.key (event_key (event_of row.key)) && is_welcome_row i ys groups r) (is_theirs w e)
      (λ r g. ap (λ b. same_key r.key (event_key (event_of row.key)) && b) (welcome_alike r g)) coming all j

  counts_alike : (coming : List Row) → list_all (is_theirs w e) coming ≡ true → (row : Row) → is_theirs w e row ≡ true → counts_row i xs groups coming row ≡ counts_row i ys groups coming row
  unfolding counts_row
  counts_alike coming all row h = λ j. welcome_alike row h j && (is_statement row.key || event_alike coming all row h j)

  newer_alike : (row : Row) → is_theirs w e row ≡ true → is_newer_row xs row ≡ is_newer_row ys row
  unfolding is_newer_row
  newer_alike row h = ap not (agree row.owner row.key (λ r. leb row.stamp r.stamp) (and_parts _ _ h).0 (and_parts _ _ h).1)

  -- so the same rows are taken
  taken_alike : (coming : List Row) → list_all (is_theirs w e) coming ≡ true → rows_taken i xs groups coming ≡ rows_taken i ys groups coming
  unfolding rows_taken
  taken_alike coming all =
      ap (filter (is_newer_row xs)) (filter_agree (counts_row i xs groups coming) (counts_row i ys groups coming) (is_theirs w e) (counts_alike coming all) coming all)
      ∙ filter_agree (is_newer_row xs) (is_newer_row ys) (is_theirs w e) newer_alike (filter (counts_row i ys groups coming) coming) (all-filter (is_theirs w e) (counts_row i ys groups coming) coming all)

module _ (i : Inst) (w : OrgId) (e : EventId) (groups : List Group) where
  -- the owner knows all its own rows
  known_agrees : (rows : List Row) → Agree w e (known rows groups i w) rows
  known_agrees rows o k test h f = subst (λ v. list_any (λ r. is_row_of v k r && test r) (known rows groups i w) ≡ list_any (λ r. is_row_of v k r && test r) rows) (sym (same_org-sound o w h)) (own_known rows groups i w k test)

  event_agrees : (rows : List Row) → Agree w e (event_rows e rows) rows
  event_agrees rows o k test h f =
      any_cut (λ r. is_row_of o k r && test r) (λ r. same_event (event_of r.key) e) (λ r g. ap (λ j. same_event (event_of j) e) (row_of_name o k r (and_parts _ _ g).0).1 ∙ f) rows

-- ---- of a package

module _ (w : OrgId) (p : Package) (packs : IsPackage p) where
  are_theirs : list_all (is_theirs w p.event) (map (handed w) p.rows) ≡ true
  unfolding handed same_event
  are_theirs = all_handed p.rows packs.packed
    where
      one : (row : Row) → is_packed p.event row ≡ true → is_theirs w p.event (handed w row) ≡ true
      one row h = and_from _ _ (same_org-refl w) (and_parts _ _ (and_parts _ _ (and_parts _ _ h).0).0).0

      all_handed : (rows : List Row) → list_all (is_packed p.event) rows ≡ true → list_all (is_theirs w p.event) (map (handed w) rows) ≡ true
      all_handed [] h = refl
      all_handed (row ∷ rows) h = and_from _ _ (one row (and_parts _ _ h).0) (all_handed rows (and_parts _ _ h).1)

  module _ (i : Inst) (groups : List Group) (rows : List Row) where
    -- over what the owner knows as much is taken as over all
    pub taken_known : rows_taken i (known rows groups i w) groups (map (handed w) p.rows) ≡ rows_taken i rows groups (map (handed w) p.rows)
    taken_known = taken_alike i w p.event groups (known rows groups i w) rows (known_agrees i w p.event groups rows) (map (handed w) p.rows) are_theirs

    -- and over the rows of the event
    pub taken_of_event : rows_taken i (event_rows p.event rows) groups (map (handed w) p.rows) ≡ rows_taken i rows groups (map (handed w) p.rows)
    taken_of_event = taken_alike i w p.event groups (event_rows p.event rows) rows (event_agrees i w p.event groups rows) (map (handed w) p.rows) are_theirs

-- ---- no two rows of a package have one key

not_level : (xs ys : List ℕ) → slice_cmp nat_cmp xs ys ≡ Less → xs ≡ ys → ⊥
not_level xs ys less e =
    let level : is_eq (slice_cmp nat_cmp xs ys) ≡ true = is_eq-slice_cmp xs ys ∙ (bytes_eq-Decides xs ys).1 e in
    let never : is_eq Less ≡ true = ap is_eq (sym less) ∙ level in
    absurd cc

module _ (w : OrgId) where
  apart : (row : Row) (rows : List Row) → AllByRecursion (λ y. slice_cmp nat_cmp (key row.key) y ≡ Less) (map (λ r. key r.key) rows)
      → AllByRecursion (λ y. in_one_cell (handed w row) y ≡ false) (map (handed w) rows)
  unfolding handed in_one_cell
  apart row [] h = tt
  apart row (r ∷ rows) h =
      (false_from_ne_true _ (λ c. not_level (key row.key) (key r.key) h.0 (ap key (same_key-sound row.key r.key (and_parts _ _ c).1))), apart row rows h.1)

  ascending : (rows : List Row) → IsStrictlySortedBy (slice_cmp nat_cmp) (map (λ r. key r.key) rows) → IsTable (map (handed w) rows)
  unfolding IsStrictlySortedBy IsDistinct
  ascending [] up = tt
  ascending (row ∷ rows) up = (apart row rows up.0, ascending rows up.1)

-- as they are handed in they are a table
pub handed_table : (w : OrgId) (p : Package) → IsPackage p → IsTable (map (handed w) p.rows)
handed_table w p packs = ascending w p.rows packs.ascend
