-- Packages that are merged one after another: each brings what of it is taken of all that comes.
use Rattle.std.proofs.Common.{◌≡◌, arith, List, [], ◌∷◌, Bool, refl, ◌++◌, false, true, ap, sym, ◌∙◌, inl, inr, leb, append_assoc, subst, ◌&&◌, ◌||◌, ◌⊎◌, not, filter, Contains, append-nil}
use Rattle.misp_history.proofs.Prelude.{AllByRecursion, EventId, Group, Inst, IsDistinct, IsPackageOf, IsTable, Key, OrgId, Row, alike, all_among, all_has, all_of, and_from, and_parts, and_right, any_has, arrives, brought, cases_Bool}
use Rattle.misp_history.proofs.Prelude.{counts_row, event_key, event_of, false≢true, filter_among, first_or, found, fresh, has_copy, has_event_row, has_gone, has_home, in_one_cell, is_made_at, is_newer_row, is_row_of, is_statement}
use Rattle.misp_history.proofs.Prelude.{is_tombstone, is_welcome_row, kept_has, label_is_known, list_all, list_any, merged, merged_by, not-true, of_part, or_cases, or_left, or_parts, or_right, part_is_table, pass_alike, put_all, put_row}
use Rattle.misp_history.proofs.Prelude.{rows_taken, same_key, same_org}
use Rattle.misp_history.specs.Merging.{is_taken}
use Rattle.std.proofs.lemmas.List.Elements.{Contains-append_cases, Contains-append_left, Contains-append_right}
use Rattle.misp_history.proofs.Sorted.{IsSorted, one_of_name, put_same}
use Rattle.misp_history.proofs.Again.{AreTaken, as_new_put, came, copy_came, gone_stays, home_stays, is_put, stays, taken_are, taken_has}

-- ---- lists

put_all-append : (xs ys rows : List Row) → put_all (xs ++ ys) rows ≡ put_all ys (put_all xs rows)
unfolding put_all
put_all-append [] ys rows = refl
put_all-append (x ∷ xs) ys rows = put_all-append xs ys (put_row x rows)

-- rows of other names after a table
table_more : (xs ys : List Row) → IsTable xs → IsTable ys → ((y : Row) → Contains ys y → list_any (is_row_of y.owner y.key) xs ≡ false) → IsTable (xs ++ ys)
unfolding IsDistinct is_row_of in_one_cell
table_more [] ys d e h = e
table_more (x ∷ xs) ys d e h = (
  all_among (λ y. in_one_cell x y ≡ false) (xs ++ ys) (λ y m.
      elim (Contains-append_cases xs ys y m) [ inl n ↦ all_of (λ y. in_one_cell x y ≡ false) xs y d.0 n | inr n ↦ (or_parts _ _ (h y n)).0 ]),
  table_more xs ys d.1 e (λ y m. (or_parts _ _ (h y m)).1),
)

pub name_same : (a b : Row) → is_row_of b.owner b.key a ≡ true → in_one_cell a b ≡ true
unfolding is_row_of in_one_cell
name_same a b h = h

and_true : (b : Bool) → b ≡ (b && true)
and_true b = grind arith

module _ (i : Inst) (rows : List Row) (groups : List Group) (coming : List Row) (table : IsTable coming) (w : OrgId) (owned : list_all (arrives w) coming ≡ true) where
  -- taken of all that comes
  abbrev taken : Row → Bool
  taken x = is_taken i rows groups coming x

  arrived_so : (r : Row) → arrives w r ≡ true → (same_org r.owner w ≡ true) × ((r.carried ≡ true) × (is_tombstone r ≡ false))
  unfolding arrives
  arrived_so r h = let two = and_parts _ _ (and_parts _ _ h).1 in ((and_parts _ _ h).0, (two.0, not-true _ two.1))

  no_home : (r : Row) → arrives w r ≡ true → (not (is_tombstone r) && not r.carried) ≡ false
  no_home r h = and_right _ _ (ap not (arrived_so r h).1.0)

  module _ (so : List Row) (t : AreTaken i rows groups coming so) where
    abbrev later : List Row
    later = put_all so rows

    so_arrives : (y : Row) → Contains so y → arrives w y ≡ true
    so_arrives y m = all_has (arrives w) coming y owned (t.are y m).1

    -- none of them is a tombstone or of this instance
    either : (o : OrgId) (e : EventId) (bad : Row → Bool) → ((r : Row) → arrives w r ≡ true → bad r ≡ false) →
        (list_any (λ r. is_row_of o (event_key e) r && bad r) rows ≡ true → list_any (λ r. is_row_of o (event_key e) r && bad r) later ≡ true) →
        list_any (λ r. is_row_of o (event_key e) r && bad r) later ≡ list_any (λ r. is_row_of o (event_key e) r && bad r) rows
    either o e bad good stay = alike _ _
        (λ g. elim (or_cases _ _ (came o (event_key e) bad so rows g)) [
          | inl b ↦ (let f = found (λ r. is_row_of o (event_key e) r && bad r) so b in absurd (false≢true (sym (good f.0 (so_arrives f.0 f.1.0)) ∙ (and_parts _ _ f.1.1).1)))
          | inr b ↦ b
        ])
        stay

    welcome_same : (x : Row) → is_welcome_row i later groups x ≡ is_welcome_row i rows groups x
    unfolding is_welcome_row has_gone has_home
    welcome_same x = λ j.
        not (either x.owner (event_of x.key) is_tombstone (λ r h. (arrived_so r h).1.1) (gone_stays i rows groups coming so t x.owner (event_of x.key)) j)
        && (not (either x.owner (event_of x.key) (λ r. not (is_tombstone r) && not r.carried) no_home (home_stays i rows groups coming so t x.owner (event_of x.key)) j) || is_statement x.key)
        && not (is_made_at i x.key) && label_is_known groups x.label

    copy_stays : (o : OrgId) (e : EventId) → has_copy rows o e ≡ true → has_copy later o e ≡ true
    unfolding has_copy
    copy_stays o e h = elim (cases_Bool (list_any (is_row_of o (event_key e)) so)) [
      | inl g ↦ (let f = found (is_row_of o (event_key e)) so g in
          is_put o (event_key e) (λ r. not (is_tombstone r)) so rows t.apart
          (any_has (λ r. is_row_of o (event_key e) r && not (is_tombstone r)) so f.0 f.1.0 (and_from (is_row_of o (event_key e) f.0) (not (is_tombstone f.0)) f.1.1 (ap not (arrived_so f.0 (so_arrives f.0 f.1.0)).1.1))))
      | inr g ↦ stays o (event_key e) (λ r. not (is_tombstone r)) so rows g ∙ h
    ]

    module _ (p : List Row) (q : IsPackageOf coming p) where
      owner_is : (r : Row) → Contains coming r → same_org r.owner w ≡ true
      owner_is r m = (arrived_so r (all_has (arrives w) coming r owned m)).0

      event_here : (k : Key) → list_any (λ r. same_key r.key k && is_welcome_row i later groups r) p ≡ true → list_any (λ r. same_key r.key k && is_welcome_row i rows groups r) coming ≡ true
      event_here k b =
          let f = found (λ r. same_key r.key k && is_welcome_row i later groups r) p b in
          any_has (λ r. same_key r.key k && is_welcome_row i rows groups r) coming f.0 (q.come f.0 f.1.0) (ap (λ t. same_key f.0.key k && t) (sym (welcome_same f.0)) ∙ f.1.1)

      event_there : (k : Key) → list_any (λ r. same_key r.key k) p ≡ true → list_any (λ r. same_key r.key k && is_welcome_row i rows groups r) coming ≡ true → list_any (λ r. same_key r.key k && is_welcome_row i later groups r) p ≡ true
      unfolding is_row_of
      event_there k a b =
          let f = found (λ r. same_key r.key k && is_welcome_row i rows groups r) coming b in
          let g = found (λ r. same_key r.key k) p a in
          let two = and_parts _ _ f.1.1 in
          any_has (λ r. same_key r.key k && is_welcome_row i later groups r) p g.0 g.1.0 (and_from _ _ g.1.1 (welcome_same g.0
          ∙ pass_alike w k (is_welcome_row i rows groups) coming table f.0 g.0 f.1.0 (q.come g.0 g.1.0) (and_from _ _ (owner_is f.0 f.1.0) two.0) (and_from _ _ (owner_is g.0 (q.come g.0 g.1.0)) g.1.1) two.1))

      event_same : (x : Row) → Contains p x → has_event_row i later groups p x ≡ has_event_row i rows groups coming x
      unfolding has_event_row
      event_same x m = alike _ _
          (λ h. elim (or_cases _ _ h) [ inl a ↦ copy_came i rows groups coming so t x.owner (event_of x.key) a | inr a ↦ or_right _ _ (event_here (event_key (event_of x.key)) a) ])
          (λ h. elim (or_cases _ _ h) [ inl a ↦ or_left _ _ (copy_stays x.owner (event_of x.key) a) | inr a ↦ or_right _ _ (event_there (event_key (event_of x.key)) (q.with_event x m) a) ])

      counts_same : (x : Row) → Contains p x → counts_row i later groups p x ≡ counts_row i rows groups coming x
      unfolding counts_row
      counts_same x m = λ j. welcome_same x j && (is_statement x.key || event_same x m j)

      -- no row that was put has its name
      abbrev not_so : Row → Bool
      not_so x = not (list_any (is_row_of x.owner x.key) so)

      newer_same : (x : Row) → Contains p x → is_newer_row later x ≡ (is_newer_row rows x && not_so x)
      unfolding is_newer_row
      newer_same x m = elim (cases_Bool (list_any (is_row_of x.owner x.key) so)) [
        | inl e ↦ rw e (ap not (as_new_put i rows groups coming so t x table (q.come x m) e) ∙ sym (and_right (is_newer_row rows x) false refl))
        | inr e ↦ rw e (ap not (stays x.owner x.key (λ r. leb x.stamp r.stamp) so rows e) ∙ and_true (is_newer_row rows x))
      ]

      -- what is taken of the package
      abbrev more : List Row
      more = filter (λ x. taken x && not_so x) p

      package_taken : rows_taken i later groups p ≡ more
      unfolding rows_taken is_taken
      package_taken = filter_among (is_newer_row later) (λ x. taken x && not_so x) (counts_row i later groups p) p (λ x m k. rw (sym (counts_same x m) ∙ k) (newer_same x m)) (λ x m k. counts_same x m ∙ (and_parts _ _ (and_parts _ _ k).0).0)

      more_has : (y : Row) → Contains more y → ((taken y && not_so y) ≡ true) × Contains p y
      more_has y m = of_part (λ x. taken x && not_so x) p y m

      more_taken : AreTaken i rows groups coming (so ++ more)
      more_taken = record {
        apart = table_more so more t.apart (part_is_table (λ x. taken x && not_so x) p q.apart) (λ y m. not-true _ (and_parts _ _ (more_has y m).0).1);
        are = λ y m. elim (Contains-append_cases so more y m) [ inl n ↦ t.are y n | inr n ↦ ((and_parts _ _ (more_has y n).0).0, q.come y (more_has y n).1) ];
      }

      package_merged : merged i later groups p ≡ put_all (so ++ more) rows
      unfolding merged
      package_merged = ap (λ rs. put_all rs later) package_taken ∙ sym (put_all-append so more rows)

  -- packages one after another
  merged_so : (ps : List (List Row)) → AllByRecursion (IsPackageOf coming) ps → (so : List Row) → AreTaken i rows groups coming so → merged_by i (put_all so rows) groups ps ≡ put_all (so ++ brought taken so ps) rows
  unfolding merged_by brought
  merged_so [] q so t = ap (λ rs. put_all rs rows) (sym (append-nil so))
  merged_so (p ∷ ps) q so t =
      ap (λ rs. merged_by i rs groups ps) (package_merged so t p q.0)
      ∙ merged_so ps q.1 (so ++ more so t p q.0) (more_taken so t p q.0)
      ∙ ap (λ rs. put_all rs rows) (append_assoc so (more so t p q.0) (brought taken (so ++ more so t p q.0) ps))

  pub none_so : AreTaken i rows groups coming []
  unfolding IsDistinct
  none_so = record { apart = tt; are = λ y m. let lt = m.1 in absurd (omega arith) }

  pub merged_packages : (ps : List (List Row)) → AllByRecursion (IsPackageOf coming) ps → merged_by i rows groups ps ≡ put_all (brought taken [] ps) rows
  unfolding put_all
  merged_packages ps q = merged_so ps q [] none_so

  -- all that they bring is taken, each name once
  pub all_taken : (ps : List (List Row)) → AllByRecursion (IsPackageOf coming) ps → (so : List Row) → AreTaken i rows groups coming so → AreTaken i rows groups coming (so ++ brought taken so ps)
  unfolding brought
  all_taken [] q so t = subst (AreTaken i rows groups coming) (sym (append-nil so)) t
  all_taken (p ∷ ps) q so t =
      subst (AreTaken i rows groups coming) (append_assoc so (more so t p q.0) (brought taken (so ++ more so t p q.0) ps))
      (all_taken ps q.1 (so ++ more so t p q.0) (more_taken so t p q.0))

  -- what is taken and in one of them, or came before, is brought
  all_brought : (ps : List (List Row)) → AllByRecursion (IsPackageOf coming) ps → (so : List Row) → AreTaken i rows groups coming so →
      (x : Row) → Contains coming x → taken x ≡ true → Contains so x ⊎ ((p : List Row) × (Contains ps p × Contains p x)) → Contains (so ++ brought taken so ps) x
  unfolding brought
  all_brought [] q so t x c k (inl m) = Contains-append_left so [] x m
  all_brought [] q so t x c k (inr f) = let lt = f.1.0.1 in absurd (omega arith)
  all_brought (p ∷ ps) q so t x c k h =
      subst (λ rs. Contains rs x) (append_assoc so (more so t p q.0) (brought taken (so ++ more so t p q.0) ps))
      (all_brought ps q.1 (so ++ more so t p q.0) (more_taken so t p q.0) x c k (one h))
    where
      now : Contains p x → Contains (so ++ more so t p q.0) x
      now m = elim (cases_Bool (list_any (is_row_of x.owner x.key) so)) [
        | inl e ↦ (let f = found (is_row_of x.owner x.key) so e in
            Contains-append_left so (more so t p q.0) x (subst (Contains so) (one_of_name coming f.0 x table (t.are f.0 f.1.0).1 c (name_same f.0 x f.1.1)) f.1.0))
        | inr e ↦ Contains-append_right so (more so t p q.0) x (kept_has (λ y. taken y && not_so so t p q.0 y) p x m (and_from (taken x) (not_so so t p q.0 x) k (ap not e)))
      ]

      one : Contains so x ⊎ ((p' : List Row) × (Contains (p ∷ ps) p' × Contains p' x)) → Contains (so ++ more so t p q.0) x ⊎ ((p' : List Row) × (Contains ps p' × Contains p' x))
      one (inl m) = inl (Contains-append_left so (more so t p q.0) x m)
      one (inr f) = elim (first_or p ps f.0 f.1.0) [ inl e ↦ inl (now (subst (λ rs. Contains rs x) (sym e) f.1.1)) | inr m ↦ inr (f.0, (m, f.1.1)) ]

  -- packages that have all that comes bring all that is taken of it
  pub merged_whole : (ps : List (List Row)) → AllByRecursion (IsPackageOf coming) ps → IsSorted rows → ((x : Row) → Contains coming x → (p : List Row) × (Contains ps p × Contains p x)) →
      merged_by i rows groups ps ≡ merged i rows groups coming
  unfolding merged
  merged_whole ps q s cover =
      let brings = all_taken ps q [] none_so in
      let whole = taken_are i rows groups coming table in
      merged_packages ps q
      ∙ put_same (brought taken [] ps) (rows_taken i rows groups coming) rows s brings.apart whole.apart
      (λ x m. taken_has i rows groups coming x (brings.are x m).1 (brings.are x m).0)
      (λ x m. all_brought ps q [] none_so x (whole.are x m).1 (whole.are x m).0 (inr (cover x (whole.are x m).1)))

  -- one package more brings what the others did not
  pub next_taken : (ps : List (List Row)) → AllByRecursion (IsPackageOf coming) ps → (p : List Row) → IsPackageOf coming p →
      rows_taken i (merged_by i rows groups ps) groups p ≡ fresh taken (brought taken [] ps) p
  next_taken ps q p r = ap (λ rs. rows_taken i rs groups p) (merged_packages ps q) ∙ package_taken (brought taken [] ps) (all_taken ps q [] none_so) p r
