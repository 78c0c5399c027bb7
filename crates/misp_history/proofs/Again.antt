-- What was merged once changes nothing when it comes again.
use Rattle.std.proofs.Common.{◌≡◌, List, [], ◌∷◌, Bool, true, false, refl, sym, ap, ◌∙◌, inl, inr, arith, leb, filter, Contains, le-leb, ◌&&◌, ◌||◌, not}
use Rattle.misp_history.proofs.Prelude.{AllByRecursion, EventId, Group, Inst, IsDistinct, IsTable, Key, OrgId, Row, all_of, and_from, and_left, and_parts, any_cut, any_has, any_implies, any_of_part, any_put, cases_Bool, counts_row}
use Rattle.misp_history.proofs.Prelude.{event_key, event_of, false_from_ne_true, false≢true, filter_among, filter_never, found, has_copy, has_event_row, has_gone, has_home, in_one_cell, is_newer_row, is_row_of, is_statement, is_tombstone}
use Rattle.misp_history.proofs.Prelude.{is_welcome_row, kept_has, list_any, merged, of_part, one_cell, or_cases, or_left, or_parts, or_right, part_is_table, pass_alike, put_all, put_row, row_of_name, rows_taken, same_key, same_org}
use Rattle.misp_history.proofs.Prelude.{stands_before, true_from_ne_false}
use Rattle.misp_history.specs.Merging.{is_taken}

or_came : (a p m o r : Bool) → (a || p) ≡ true → p ≡ (m || o) → (o ≡ true → r ≡ true) → ((m || a) || r) ≡ true
or_came a p m o r h e f = grind arith

module _ (w : OrgId) (k : Key) (t : Row → Bool) where
  -- the owner's rows of the key that pass the test
  abbrev mine : Row → Bool
  mine r = is_row_of w k r && t r

  abbrev other : Row → Row → Bool
  other y r = not (same_org r.owner y.owner && same_key r.key y.key)

  -- a row of another name changes nothing of them
  one_stays : (y : Row) (rows : List Row) → is_row_of w k y ≡ false → list_any mine (put_row y rows) ≡ list_any mine rows
  unfolding put_row is_row_of in_one_cell
  one_stays y rows h = any_put stands_before mine y (filter (other y) rows) ∙ (λ i. (and_left _ (t y) h i || list_any mine (filter (other y) rows))) ∙ any_cut mine (other y) apart rows
    where
      apart : (r : Row) → mine r ≡ true → other y r ≡ true
      apart r g = ap not (false_from_ne_true (same_org r.owner y.owner && same_key r.key y.key) (λ e.
          let n : (r.owner ≡ w) × (r.key ≡ k) = row_of_name w k r (and_parts (is_row_of w k r) (t r) g).0 in
          let o : (r.owner ≡ y.owner) × (r.key ≡ y.key) = row_of_name y.owner y.key r e in
          false≢true (sym h ∙ one_cell y (record r { owner = w; key = k }) (sym o.0 ∙ n.0) (sym o.1 ∙ n.1))))

  pub stays : (ys rows : List Row) → list_any (is_row_of w k) ys ≡ false → list_any mine (put_all ys rows) ≡ list_any mine rows
  unfolding put_all
  stays [] rows h = refl
  stays (y ∷ ys) rows h = stays ys (put_row y rows) (or_parts _ _ h).1 ∙ one_stays y rows (or_parts _ _ h).0

  -- what is among them came, or was there
  pub came : (ys rows : List Row) → list_any mine (put_all ys rows) ≡ true → (list_any mine ys || list_any mine rows) ≡ true
  unfolding put_all put_row
  came [] rows h = h
  came (y ∷ ys) rows h =
      or_came (list_any mine ys) (list_any mine (put_row y rows)) (mine y) (list_any mine (filter (other y) rows)) (list_any mine rows)
      (came ys (put_row y rows) h) (any_put stands_before mine y (filter (other y) rows)) (any_of_part mine (other y) rows)

  -- none after a row of the name is of the name
  alone : (y : Row) (ys : List Row) → is_row_of w k y ≡ true → AllByRecursion (λ r. in_one_cell y r ≡ false) ys → list_any (is_row_of w k) ys ≡ false
  alone y ys h a = false_from_ne_true _ (λ e.
      let f = found (is_row_of w k) ys e in
      let n : (y.owner ≡ w) × (y.key ≡ k) = row_of_name w k y h in
      let o : (f.0.owner ≡ w) × (f.0.key ≡ k) = row_of_name w k f.0 f.1.1 in
      false≢true (sym (all_of (λ r. in_one_cell y r ≡ false) ys f.0 a f.1.0) ∙ one_cell y f.0 (n.0 ∙ sym o.0) (n.1 ∙ sym o.1)))

  -- what is put is there
  pub is_put : (ys rows : List Row) → IsTable ys → list_any mine ys ≡ true → list_any mine (put_all ys rows) ≡ true
  unfolding put_all IsDistinct put_row
  is_put [] rows d h = absurd (false≢true h)
  is_put (y ∷ ys) rows d h = elim (or_cases (mine y) (list_any mine ys) h) [
    | inl e ↦ stays ys (put_row y rows) (alone y ys (and_parts (is_row_of w k y) (t y) e).0 d.0) ∙ any_put stands_before mine y (filter (other y) rows) ∙ or_left (mine y) (list_any mine (filter (other y) rows)) e
    | inr e ↦ is_put ys (put_row y rows) d.1 e
  ]

-- ---- after some of what is taken was put

-- each of these is taken of what comes, and they differ in their names
pub record AreTaken (i : Inst) (rows : List Row) (groups : List Group) (coming so : List Row) : Type 0 where
  pub apart : IsTable so
  pub are : (y : Row) → Contains so y → (is_taken i rows groups coming y ≡ true) × Contains coming y

free_of : (g h : Bool) → (not g && (not h || false)) ≡ true → (g ≡ false) × (h ≡ false)
free_of false false e = (refl, refl)
free_of _ _ e = absurd (false≢true e)

module _ (i : Inst) (rows : List Row) (groups : List Group) (coming so : List Row) (t : AreTaken i rows groups coming so) where
  abbrev pub after : List Row
  after = put_all so rows

  pub so_welcome : (y : Row) → Contains so y → is_welcome_row i rows groups y ≡ true
  unfolding counts_row is_taken
  so_welcome y m = (and_parts _ _ (and_parts _ _ (t.are y m).0).0).0

  -- an event row among them meets no tombstone and no row of this instance
  event_free : (w : OrgId) (e : EventId) → list_any (is_row_of w (event_key e)) so ≡ true → (has_gone rows w e ≡ false) × (has_home rows w e ≡ false)
  unfolding is_welcome_row event_of event_key is_statement
  event_free w e h =
      let f = found (is_row_of w (event_key e)) so h in
      let n : (f.0.owner ≡ w) × (f.0.key ≡ event_key e) = row_of_name w (event_key e) f.0 f.1.1 in
      let g = (and_parts _ _ (and_parts _ _ (so_welcome f.0 f.1.0)).0).0 in
      free_of _ _ (sym (λ j. not (has_gone rows (n.0 j) (event_of (n.1 j))) && (not (has_home rows (n.0 j) (event_of (n.1 j))) || is_statement (n.1 j))) ∙ g)

  pub gone_stays : (w : OrgId) (e : EventId) → has_gone rows w e ≡ true → has_gone after w e ≡ true
  unfolding has_gone
  gone_stays w e h = stays w (event_key e) is_tombstone so rows (false_from_ne_true _ (λ g. false≢true (sym (event_free w e g).0 ∙ h))) ∙ h

  pub home_stays : (w : OrgId) (e : EventId) → has_home rows w e ≡ true → has_home after w e ≡ true
  unfolding has_home
  home_stays w e h = stays w (event_key e) (λ r. not (is_tombstone r) && not r.carried) so rows (false_from_ne_true _ (λ g. false≢true (sym (event_free w e g).1 ∙ h))) ∙ h

  -- a copy was there, or comes and is welcome
  pub copy_came : (w : OrgId) (e : EventId) → has_copy after w e ≡ true → (has_copy rows w e || list_any (λ r. same_key r.key (event_key e) && is_welcome_row i rows groups r) coming) ≡ true
  unfolding has_copy is_row_of
  copy_came w e h = elim (or_cases _ _ (came w (event_key e) (λ r. not (is_tombstone r)) so rows h)) [
    | inl b ↦ (let f = found (λ r. is_row_of w (event_key e) r && not (is_tombstone r)) so b in
        or_right _ _ (any_has (λ r. same_key r.key (event_key e) && is_welcome_row i rows groups r) coming f.0 (t.are f.0 f.1.0).1 (and_from _ _ (and_parts _ _ (and_parts _ _ f.1.1).0).1 (so_welcome f.0 f.1.0))))
    | inr b ↦ or_left _ _ b
  ]

  -- where one of the name of x was put, it is as new
  pub as_new_put : (x : Row) → IsTable coming → Contains coming x → list_any (is_row_of x.owner x.key) so ≡ true → list_any (λ r. is_row_of x.owner x.key r && leb x.stamp r.stamp) after ≡ true
  unfolding is_row_of in_one_cell
  as_new_put x table m e =
      let f = found (is_row_of x.owner x.key) so e in
      is_put x.owner x.key (λ r. leb x.stamp r.stamp) so rows t.apart
      (any_has (λ r. is_row_of x.owner x.key r && leb x.stamp r.stamp) so f.0 f.1.0 (and_from (is_row_of x.owner x.key f.0) (leb x.stamp f.0.stamp) f.1.1
      (pass_alike x.owner x.key (λ r. leb x.stamp r.stamp) coming table x f.0 m (t.are f.0 f.1.0).1 (one_cell x x refl refl) f.1.1 (le-leb x.stamp x.stamp (omega arith)))))

-- ---- after all that is taken was put

pub taken_are : (i : Inst) (rows : List Row) (groups : List Group) (coming : List Row) → IsTable coming → AreTaken i rows groups coming (rows_taken i rows groups coming)
unfolding rows_taken is_taken
taken_are i rows groups coming table = record {
  apart = part_is_table (is_newer_row rows) (filter (counts_row i rows groups coming) coming) (part_is_table (counts_row i rows groups coming) coming table);
  are = λ y m.
      let a = of_part (is_newer_row rows) (filter (counts_row i rows groups coming) coming) y m in
      let b = of_part (counts_row i rows groups coming) coming y a.1 in
      (and_from _ _ b.0 a.0, b.1);
}

pub taken_has : (i : Inst) (rows : List Row) (groups : List Group) (coming : List Row) (x : Row) → Contains coming x → is_taken i rows groups coming x ≡ true → Contains (rows_taken i rows groups coming) x
unfolding rows_taken is_taken
taken_has i rows groups coming x m h =
    let two = and_parts (counts_row i rows groups coming x) (is_newer_row rows x) h in
    kept_has (is_newer_row rows) (filter (counts_row i rows groups coming) coming) x (kept_has (counts_row i rows groups coming) coming x m two.0) two.1

welcome_kept : (g h a b s m l : Bool) → (g ≡ true → a ≡ true) → (h ≡ true → b ≡ true) → (not a && (not b || s) && m && l) ≡ true → (not g && (not h || s) && m && l) ≡ true
welcome_kept g h a b s m l f k e = grind arith

module _ (i : Inst) (rows : List Row) (groups : List Group) (coming : List Row) (table : IsTable coming) where
  abbrev new : List Row
  new = rows_taken i rows groups coming

  t : AreTaken i rows groups coming new
  t = taken_are i rows groups coming table

  abbrev then_rows : List Row
  then_rows = put_all new rows

  -- what is welcome afterwards was welcome
  welcome_before : (x : Row) → is_welcome_row i then_rows groups x ≡ true → is_welcome_row i rows groups x ≡ true
  unfolding is_welcome_row
  welcome_before x h = welcome_kept _ _ _ _ _ _ _ (gone_stays i rows groups coming new t x.owner (event_of x.key)) (home_stays i rows groups coming new t x.owner (event_of x.key)) h

  counts_before : (x : Row) → counts_row i then_rows groups coming x ≡ true → counts_row i rows groups coming x ≡ true
  unfolding counts_row has_event_row
  counts_before x h =
      let two = and_parts _ _ h in
      and_from _ _ (welcome_before x two.0) (elim (or_cases _ _ two.1) [
        | inl s ↦ or_left _ _ s
        | inr e ↦ or_right _ _ (elim (or_cases _ _ e) [
          | inl a ↦ copy_came i rows groups coming new t x.owner (event_of x.key) a
          | inr a ↦ or_right _ _ (any_implies _ _ (λ r g. let both = and_parts _ _ g in and_from _ _ both.0 (welcome_before r both.1)) coming a)
        ])
      ])

  none_newer : (x : Row) → Contains coming x → counts_row i then_rows groups coming x ≡ true → is_newer_row then_rows x ≡ false
  unfolding is_newer_row is_row_of in_one_cell is_taken
  none_newer x m h = ap not (elim (cases_Bool (list_any (is_row_of x.owner x.key) new)) [
    | inl e ↦ as_new_put i rows groups coming new t x table m e
    | inr e ↦ stays x.owner x.key (λ r. leb x.stamp r.stamp) new rows e ∙ true_from_ne_false _ (λ g. false≢true (sym e ∙ any_has (is_row_of x.owner x.key) new x
        (taken_has i rows groups coming x m (and_from _ _ (counts_before x h) (ap not g))) (one_cell x x refl refl)))
  ])

  -- nothing is taken again
  pub none_again : rows_taken i (merged i rows groups coming) groups coming ≡ []
  unfolding rows_taken merged
  none_again =
      filter_among (is_newer_row then_rows) (λ x. false) (counts_row i then_rows groups coming) coming none_newer (λ x m e. absurd (false≢true e))
      ∙ filter_never (λ x. false) (λ x. refl) coming

  pub merged_again : merged i (merged i rows groups coming) groups coming ≡ merged i rows groups coming
  unfolding merged put_all
  merged_again = ap (λ rs. put_all rs (merged i rows groups coming)) none_again
