-- Merging leaves of an owner's rows of an event what merging into these alone leaves.
use Rattle.std.proofs.Common.{◌≡◌, ◌&&◌, ◌||◌, ◌++◌, Bool, true, false, not, cond, List, [], ◌∷◌, Contains, nat_eq, filter, refl, sym, ap, ◌∙◌}
use Rattle.std.specs.List.{starts_with}
use Rattle.misp_lists.proofs.All.{all_implied}
use Rattle.misp_lists.proofs.Elements.{all_has}
use Rattle.misp_lists.proofs.Lists.{all_of_kept, any_cut, filter_all, filter_cut, filter_twice}
use Rattle.misp_lists.proofs.Ordering.{Ordered, ordered_part, put_cut}
use Rattle.misp_lists.proofs.Orders.{less_past}
use Rattle.misp_lists.proofs.Prelude.{put}
use Rattle.misp_elem.specs.Prelude.{key}
use Rattle.misp_model.proofs.Prelude.{EventId, Group, Inst, IsTable, OrgId, Row, and_from, and_parts, and_right, event_key, event_of, event_rows, has_copy, is_row_of, is_statement, list_all, list_any, name_bytes, put_all, put_row}
use Rattle.misp_model.proofs.Prelude.{row_of_name, same_event, same_event-refl, same_event-sound, same_key, same_key-refl, same_key-sound, same_org, stands_before, uid}
use Rattle.misp_history.specs.Merging.{arrives, counts_row, has_event_row, is_newer_row, is_taken, is_welcome_row, merged, rows_taken}
use Rattle.misp_history.proofs.Packing.{event_of_own}
use Rattle.misp_history.proofs.Putting.{before_on}
use Rattle.misp_history.proofs.Sorted.{IsSorted, put_row_sorted}
use Rattle.misp_sync.proofs.Events.{all_ours}
use Rattle.misp_sync.proofs.OwnRows.{named_so, taken_here}
use Rattle.misp_package.proofs.Going.{filter_alike}

before_past : (w x y : Row) → stands_before w y ≡ true → stands_before x y ≡ false → stands_before w x ≡ true
unfolding stands_before
before_past w x y h k = less_past _ _ _ h k

ordered : (xs : List Row) → IsSorted xs → Ordered stands_before before_on before_past xs
ordered [] s = tt
ordered (x ∷ xs) s = ((λ w h. all_implied (λ y. stands_before x y ≡ true) (λ y. stands_before w y ≡ true) (λ y k. before_on w x y h k) xs s.0), ordered xs s.1)

-- ---- rows of some names

-- of which names rows are kept
module _ (q : Row → Bool) (by_name : (x y : Row) → is_row_of x.owner x.key y ≡ true → q y ≡ q x) where
  -- the row is not of this row's owner and key
  abbrev other : Row → Row → Bool
  other x r = not (same_org r.owner x.owner && same_key r.key x.key)

  others_all : (x : Row) (rows : List Row) → q x ≡ false → filter (other x) (filter q rows) ≡ filter q rows
  unfolding is_row_of
  others_all x rows out = filter_all (other x) (filter q rows) (all_of_kept (other x) q (λ y h. one y h (same_org y.owner x.owner && same_key y.key x.key) refl) rows)
    where
      one : (y : Row) → q y ≡ true → (b : Bool) → (same_org y.owner x.owner && same_key y.key x.key) ≡ b → other x y ≡ true
      one y h false is = ap not is
      one y h true is = let bad : true ≡ false = sym h ∙ by_name x y is ∙ out in absurd cc

  row_cut : (x : Row) (rows : List Row) → IsSorted rows → filter q (put_row x rows) ≡ cond (q x) (put_row x (filter q rows)) (filter q rows)
  unfolding put_row
  row_cut x rows s =
      put_cut stands_before before_on before_past q x (filter (other x) rows) (ordered_part stands_before before_on before_past (other x) rows (ordered rows s))
      ∙ ap (λ ys. cond (q x) (put stands_before x ys) ys) (filter_cut q q (other x) (λ y h. refl) rows)
      ∙ one (q x) refl
    where
      one : (b : Bool) → q x ≡ b → cond b (put stands_before x (filter (other x) (filter q rows))) (filter (other x) (filter q rows)) ≡ cond b (put stands_before x (filter (other x) (filter q rows))) (filter q rows)
      one true is = refl
      one false is = others_all x rows is

  all_cut : (xs rows : List Row) → IsSorted rows → filter q (put_all xs rows) ≡ put_all (filter q xs) (filter q rows)
  unfolding put_all
  all_cut [] rows s = refl
  all_cut (x ∷ xs) rows s = all_cut xs (put_row x rows) (put_row_sorted x rows s) ∙ ap (put_all (filter q xs)) (row_cut x rows s) ∙ one (q x)
    where
      one : (b : Bool) → put_all (filter q xs) (cond b (put_row x (filter q rows)) (filter q rows)) ≡ put_all (cond b (x ∷ filter q xs) (filter q xs)) (filter q rows)
      one true = refl
      one false = refl

-- ---- an owner's rows of an event

module _ (i : Inst) (w : OrgId) (groups : List Group) (rows coming : List Row) (table : IsTable coming) (owned : list_all (arrives w) coming ≡ true) (sorted : IsSorted rows) (e : EventId) where
  -- the row is of the event, and named as one of the owner
  abbrev named : Row → Bool
  named r = same_event (event_of r.key) e && starts_with nat_eq (name_bytes r) (uid w.0)

  abbrev own : List Row
  own = filter named rows

  abbrev part : List Row
  part = event_rows e coming

  named_alike : (x y : Row) → is_row_of x.owner x.key y ≡ true → named y ≡ named x
  unfolding name_bytes
  named_alike x y is =
      let n : (y.owner ≡ x.owner) × (y.key ≡ x.key) = row_of_name x.owner x.key y is in
      λ j. same_event (event_of (n.1 j)) e && starts_with nat_eq (uid (n.0 j).0 ++ key (n.1 j)) (uid w.0)

  own_name : (x : Row) → Contains coming x → is_row_of w x.key x ≡ true
  unfolding is_row_of
  own_name x m = and_from _ _ (all_has (λ row. same_org row.owner w) coming x (all_ours i w groups rows coming table owned) m) (same_key-refl x.key)

  -- of what comes the rows of the event are so named
  coming_named : (x : Row) → Contains coming x → named x ≡ same_event (event_of x.key) e
  coming_named x m = one (same_event (event_of x.key) e) refl
    where
      one : (b : Bool) → same_event (event_of x.key) e ≡ b → named x ≡ b
      one false is = ap (λ t. t && starts_with nat_eq (name_bytes x) (uid w.0)) is
      one true is = named_so w e x.key x (same_event-sound (event_of x.key) e is) (own_name x m)

  -- the event's own row, where one is to come, is among them
  part_same : (x : Row) → event_of x.key ≡ e → is_taken i own groups part x ≡ is_taken i own groups coming x
  unfolding is_taken counts_row has_event_row
  part_same x of =
      let test : (Row → Bool) = λ r. same_key r.key (event_key (event_of x.key)) && is_welcome_row i own groups r in
      let same : list_any test part ≡ list_any test coming = any_cut test (λ r. same_event (event_of r.key) e) (λ r h.
      let k = same_key-sound r.key (event_key (event_of x.key)) (and_parts _ _ h).0 in
      ap (λ f. same_event f e) (ap event_of k ∙ event_of_own (event_of x.key) ∙ of) ∙ same_event-refl e) coming in
      λ j. (is_welcome_row i own groups x && (is_statement x.key || (has_copy own x.owner (event_of x.key) || same j))) && is_newer_row own x

  taken_so : (x : Row) → Contains coming x → (is_taken i rows groups coming x && named x) ≡ (same_event (event_of x.key) e && is_taken i own groups part x)
  taken_so x m = ap (λ b. is_taken i rows groups coming x && b) (coming_named x m) ∙ one (same_event (event_of x.key) e) refl
    where
      both : (b : Bool) → (b && true) ≡ b
      both true = refl
      both false = refl

      one : (b : Bool) → same_event (event_of x.key) e ≡ b → (is_taken i rows groups coming x && b) ≡ (b && is_taken i own groups part x)
      one false is = and_right (is_taken i rows groups coming x) false refl
      one true is =
          let of : event_of x.key ≡ e = same_event-sound (event_of x.key) e is in
          both (is_taken i rows groups coming x) ∙ sym (taken_here i w groups rows coming table owned e named (named_so w e) x m of) ∙ sym (part_same x of)

  taken_cut : filter named (rows_taken i rows groups coming) ≡ rows_taken i own groups part
  unfolding rows_taken is_taken
  taken_cut =
      ap (filter named) (filter_twice (counts_row i rows groups coming) (is_newer_row rows) coming)
      ∙ filter_twice (is_taken i rows groups coming) named coming
      ∙ filter_alike (λ x. is_taken i rows groups coming x && named x) (λ x. same_event (event_of x.key) e && is_taken i own groups part x) coming taken_so
      ∙ sym (filter_twice (λ x. same_event (event_of x.key) e) (is_taken i own groups part) coming)
      ∙ sym (filter_twice (counts_row i own groups part) (is_newer_row own) part)

  pub merged_cut : filter named (merged i rows groups coming) ≡ merged i own groups part
  unfolding merged
  merged_cut = all_cut named named_alike (rows_taken i rows groups coming) rows sorted ∙ ap (λ taken. put_all taken own) taken_cut
