-- What passes of one event is packed in the order of its keys as what arrives is.
use Rattle.std.proofs.Common.{◌≡◌, ◌↔◌, ℕ, suc, ◌≤◌, get_or, Bool, true, false, refl, ap, sym, ◌∙◌, arith, List, [], ◌∷◌, map, filter, length, not, is_lt, is_eq, eqb, ltb, cond, Bor, ◌&&◌, ◌||◌, Contains, subst, append-nil, ◌⊎◌, Global, Option, Some, Vec, option_map, flat_map, inl, inr, Less, nat_cmp, le-leb}
use Rattle.std.specs.List.Sorted.{IsStrictlySortedBy}
use Rattle.misp_lists.specs.Order.{in_order, put, sorted_by, is_less}
use Rattle.misp_lists.proofs.All.{all_among, all_both, all_implied, all_map, all_of, all_true}
use Rattle.misp_lists.proofs.Elements.{all_has, found, here, first_or, of_part}
use Rattle.misp_lists.proofs.Lists.{all-filter, all_implies, map_twice}
use Rattle.misp_lists.proofs.Ordering.{any_in_order, from_in_order, in_order_map, in_order_same, tests_in_order}
use Rattle.misp_lists.proofs.Orders.{less_is}
use Rattle.misp_elem.specs.Fields.{IsBetween}
use Rattle.misp_elem.specs.Key.{IsKey}
use Rattle.misp_model.proofs.Prelude.{AllByRecursion, AreRows, Element, EventId, Group, Proposal, Sighting, Verdict, IsRow, IsTable, Key, Place, Reference, Row, and_from, and_parts, any_map, event_key, event_of, false_from_ne_true, false≢true, is_known, known}
use Rattle.misp_model.proofs.Prelude.{length-map, list_all, list_any, nat_tests, same_event, same_event-refl, same_event-sound, same_key, same_key-refl, same_key-sound, slice_cmp, spell, stands_before}
use Rattle.misp_model.specs.RowOrder.{spell_place}
use Rattle.misp_model.specs.Package.{BeginsWith, is_packed}
use Rattle.misp_history.specs.Merging.{arrived, arriving_rows, cut, is_own, others_with, packages, passing_rows}
use Rattle.misp_history.specs.Passing.{passes}
use Rattle.misp_history.proofs.Passed.{no_tombstone_passes, with_own}
use Rattle.misp_copies.proofs.KeyOrder.{in_numbers}
use Rattle.misp_ids.specs.declared.label.Way.{Way}
use Rattle.misp_package.specs.declared.via.Via.{Via}
use Rattle.misp_package.specs.Passing.{route_of}
use Rattle.misp_package.specs.Packing.{ArePackable, IsPacking, IsPart, is_packable, is_whole, key_order, on_wire, rows_in}
use Rattle.misp_package.proofs.Cutting.{cut_all, cut_ascends, cut_count, cut_map, parts_short}
use Rattle.misp_package.proofs.KeyOrders.{apart_same, before_is, key_level, keys_ascend, one_key}
use Rattle.misp_package.proofs.Once.{keys_once}
use Rattle.misp_elem.specs.Spelling as spelling

-- ---- lists

module _ {X : Type 0} where
  keeps_none : (q : X → Bool) (xs : List X) → AllByRecursion (λ x. q x ≡ false) xs → filter q xs ≡ []
  keeps_none q [] a = refl
  keeps_none q (x ∷ xs) a = rw (a.0, keeps_none q xs a.1) refl

  keeps_all : (q : X → Bool) (xs : List X) → AllByRecursion (λ x. q x ≡ true) xs → filter q xs ≡ xs
  keeps_all q [] a = refl
  keeps_all q (x ∷ xs) a = rw (a.0, keeps_all q xs a.1) refl

  dropped : (a b : Bool) (xs ys : List X) → b ≡ true → cond (a && not b) xs ys ≡ ys
  dropped true true xs ys h = refl
  dropped false b xs ys h = refl
  dropped true false xs ys h = absurd (false≢true h)

-- a list in order is as long
put_length : {X : Type 0} (before : X → X → Bool) (x : X) (ys : List X) → length (put before x ys) ≡ suc (length ys)
unfolding put
put_length before x [] = refl
put_length {X} before x (y ∷ ys) = one (before x y) (put_length before x ys)
  where
    one : (b : Bool) → length (put before x ys) ≡ suc (length ys) → length (cond b (x ∷ y ∷ ys) (y ∷ put before x ys)) ≡ suc (suc (length ys))
    one true e = refl
    one false e = ap suc e

in_order_length : {X : Type 0} (before : X → X → Bool) (xs : List X) → length (in_order before xs) ≡ length xs
unfolding in_order
in_order_length before [] = refl
in_order_length before (x ∷ xs) = put_length before x (in_order before xs) ∙ ap suc (in_order_length before xs)

-- the rows of the parts of a list
pub rows_cut : (parts : List (Bor (List (Bor Row)))) (others : List (Bor Row)) → map (λ part. part.now) parts ≡ cut 64 others → rows_in parts ≡ cut 64 (map (λ r. r.now) others)
rows_cut parts others h =
    sym (map_twice (λ (part : Bor (List (Bor Row))). part.now) (map (λ r. r.now)) (λ part. map (λ r. r.now) part.now) (λ part. refl) parts)
    ∙ ap (map (map (λ r. r.now))) h ∙ cut_map (λ (r : Bor Row). r.now) 64 others

-- ---- the order on the wire

less_behind : (n : ℕ) (a b : List ℕ) → is_less (n ∷ a) (n ∷ b) ≡ is_less a b
unfolding is_less
less_behind n a b = one (ltb n n) (eqb n n) (is_less a b) (grind (arith, nat_tests)) (grind (arith, nat_tests))
  where
    one : (s t u : Bool) → s ≡ false → t ≡ true → (s || t && u) ≡ u
    one false true u e f = refl
    one true t u e f = absurd (false≢true (sym e))
    one false false u e f = absurd (false≢true f)

same_front : (n : ℕ) (a b : List ℕ) → is_less (0 ∷ n ∷ a) (0 ∷ n ∷ b) ≡ is_less a b
same_front n a b = less_behind 0 (n ∷ a) (n ∷ b) ∙ less_behind n a b

-- no key of an event goes before that of the event itself
own_least : (k : Key) → is_less (spell k) (spell (event_key (event_of k))) ≡ false
unfolding spell spell_place event_key event_of is_less
own_least (Element e Place.Event) = same_front e.0.0 (0 ∷ []) (0 ∷ [])
own_least (Element e (Place.Object x)) = same_front e.0.0 (1 ∷ x.0.0 ∷ []) (0 ∷ [])
own_least (Element e (Place.Attribute a)) = same_front e.0.0 (2 ∷ a.0.0 ∷ []) (0 ∷ [])
own_least (Element e (Place.ObjectAttribute x a)) = same_front e.0.0 (3 ∷ x.0.0 ∷ a.0.0 ∷ []) (0 ∷ [])
own_least (Reference e x t u) = refl
own_least (Proposal e n) = refl
own_least (Verdict e n i o) = refl
own_least (Sighting e t i o u) = refl

module _ (v : Via) where
  wire_is : (row : Row) → arrived (route_of v) row ≡ on_wire v.way row
  unfolding arrived on_wire
  wire_is row = refl

  before_on_wire : (a b : Row) → event_of a.key ≡ event_of b.key → stands_before (arrived (route_of v) a) (arrived (route_of v) b) ≡ is_lt (key_order a b)
  unfolding stands_before arrived key_order
  before_on_wire a b e =
      ap (λ f. is_less (f.0.0 ∷ 0 ∷ spell a.key) ((event_of b.key).0.0 ∷ 0 ∷ spell b.key)) e
      ∙ less_behind (event_of b.key).0.0 (0 ∷ spell a.key) (0 ∷ spell b.key) ∙ less_behind 0 (spell a.key) (spell b.key) ∙ less_is (spell a.key) (spell b.key)

-- ---- the rows of a package

wired_key : (way : Way) (row : Row) → IsRow (on_wire way row) → IsKey row.key
unfolding on_wire
wired_key way row i = i.1.0

bytes_ascend : (way : Way) (xs : List Row) → AllByRecursion (λ y. IsRow (on_wire way y)) xs → IsStrictlySortedBy key_order xs → IsStrictlySortedBy (slice_cmp nat_cmp) (map (λ row. spelling.key row.key) (map (on_wire way) xs))
unfolding IsStrictlySortedBy on_wire key_order
bytes_ascend way [] a s = tt
bytes_ascend way (x ∷ xs) a s = (each xs a.1 s.0, bytes_ascend way xs a.1 s.1)
  where
    each : (ys : List Row) → AllByRecursion (λ y. IsRow (on_wire way y)) ys → AllByRecursion (λ y. key_order x y ≡ Less) ys → AllByRecursion (λ b. slice_cmp nat_cmp (spelling.key x.key) b ≡ Less) (map (λ row. spelling.key row.key) (map (on_wire way) ys))
    each [] b t = tt
    each (y ∷ ys) b t = (in_numbers x.key y.key a.0.1.0 b.0.1.0 ∙ t.0, each ys b.1 t.1)

all_packed : (way : Way) (e : EventId) (xs : List Row) → AllByRecursion (λ y. event_of y.key ≡ e) xs → list_all (is_packed e) (map (on_wire way) xs) ≡ true
unfolding on_wire
all_packed way e [] a = refl
all_packed way e (x ∷ xs) a = and_from _ _ (ap (λ (f : EventId). eqb f.0.0 e.0.0 && true && true && true) a.0 ∙ itself e.0.0) (all_packed way e xs a.1)
  where
    itself : (n : ℕ) → (eqb n n && true && true && true) ≡ true
    itself n = grind (arith, nat_tests)

wired_rows : (way : Way) (xs : List Row) → AllByRecursion (λ y. IsRow (on_wire way y)) xs → AreRows (map (on_wire way) xs)
wired_rows way [] a = tt
wired_rows way (x ∷ xs) a = (a.0, wired_rows way xs a.1)

are_all : (way : Way) (xs : List Row) → AreRows (map (on_wire way) xs) → AllByRecursion (λ y. IsRow (on_wire way y)) xs
are_all way [] a = tt
are_all way (x ∷ xs) a = (a.0, are_all way xs a.1)

-- what can go into a package is of its event
of_event : (e : EventId) (xs : List Row) → list_all (is_packable e) xs ≡ true → AllByRecursion (λ y. event_of y.key ≡ e) xs
unfolding is_packable
of_event e xs h = all_among (λ y. event_of y.key ≡ e) xs (λ y m. same_event-sound (event_of y.key) e (and_parts _ _ (all_has (is_packable e) xs y h m)).0)

-- what the rows of a package are on the wire
pub record IsWired (e : EventId) (rows : List Row) : Type 0 where
  pub count : IsBetween 1 65 (length rows)
  pub first : BeginsWith e rows
  pub packed : list_all (is_packed e) rows ≡ true
  pub ascend : IsStrictlySortedBy (slice_cmp nat_cmp) (map (λ row. spelling.key row.key) rows)

pub part_wired : (way : Way) (e : EventId) (own : Row) (others : List Row) → IsPart e (own ∷ others) → AreRows (map (on_wire way) (own ∷ others)) → IsWired e (map (on_wire way) (own ∷ others))
unfolding on_wire
part_wired way e own others part are = record {
  count = subst (λ n. IsBetween 1 65 n) (sym (length-map (own ∷ others) (on_wire way))) part.count;
  first = part.packable.first;
  packed = all_packed way e (own ∷ others) (of_event e (own ∷ others) part.packable.each);
  ascend = bytes_ascend way (own ∷ others) (are_all way (own ∷ others) are) part.packable.ascend;
}

-- the packages of what can go into packages
pub parts_fit : (e : EventId) (own : Row) (others : List Row) → ArePackable e (own ∷ others) → AllByRecursion (λ part. IsPart e (own ∷ part)) (cut 64 others)
unfolding IsStrictlySortedBy
parts_fit e own others packable =
    let each = and_parts (is_packable e own) (list_all (is_packable e) others) packable.each in
    all_implied (λ c. ((length c ≤ 64) × AllByRecursion (λ y. is_packable e y ≡ true) c) × (AllByRecursion (λ y. key_order own y ≡ Less) c × IsStrictlySortedBy key_order c)) (λ c. IsPart e (own ∷ c))
    (λ c h. record {
      count = and_from _ _ (le-leb 1 (suc (length c)) (omega arith)) (le-leb (suc (length c)) 65 (omega (arith, h.0.0)));
      packable = record { first = packable.first; each = and_from _ _ each.0 (all_true (is_packable e) c h.0.1); ascend = h.1 };
    }) (cut 64 others)
    (all_both _ _ (cut 64 others)
    (all_both _ _ (cut 64 others) (parts_short others) (cut_all (λ y. is_packable e y ≡ true) 64 others (all_among (λ y. is_packable e y ≡ true) others (λ y m. all_has (is_packable e) others y each.1 m))))
    (all_both _ _ (cut 64 others) (cut_all (λ y. key_order own y ≡ Less) 64 others packable.ascend.0) (cut_ascends key_order 64 others packable.ascend.1)))

-- the event's own row goes first where the first row is
pub own_where : (e : EventId) (rows : List (Bor Row)) (own : Bor Row) (r : Bool) → 1 ≤ length rows → own ≡ get_or rows 0 own → r ≡ same_key own.now.key (event_key e) → (r ≡ true) ↔ BeginsWith e (map (λ r. r.now) rows)
unfolding event_key
own_where e [] own r le is h = absurd (omega arith)
own_where e (x ∷ xs) own r le is h = (
  λ t. sym (ap (λ (b : Bor Row). b.now.key) is) ∙ same_key-sound own.now.key (event_key e) (sym h ∙ t),
  λ k. h ∙ ap (λ j. same_key j (event_key e)) (ap (λ (b : Bor Row). b.now.key) is ∙ k) ∙ same_key-refl (event_key e),
)

-- what can go into a package is no tombstone
pub whole_rows : (e : EventId) (xs : List Row) → list_all (is_packable e) xs ≡ true → list_all is_whole xs ≡ true
unfolding is_packable
whole_rows e xs h = all_implies (is_packable e) is_whole (λ x g. (and_parts _ _ g).1) xs h

-- ---- all packages

module _ (rows : List Row) (groups : List Group) (v : Via) (e : EventId) (table : IsTable rows) (are : AreRows rows) (ours : list_all (λ row. same_event (event_of row.key) e) rows ≡ true) where
  -- what passes, in the order in which it was found and by its keys
  abbrev loose : List Row
  loose = passing_rows rows groups (route_of v)

  abbrev sorted : List Row
  sorted = sorted_by key_order loose

  loose_of : list_all (λ row. same_event (event_of row.key) e) loose ≡ true
  unfolding passing_rows known
  loose_of = all-filter (λ row. same_event (event_of row.key) e) _ _ (all-filter (λ row. same_event (event_of row.key) e) (is_known rows groups v.here v.org) rows ours)

  on_wire_sorted : in_order stands_before (arriving_rows rows groups (route_of v)) ≡ map (on_wire v.way) sorted
  unfolding arriving_rows
  on_wire_sorted =
      sym (in_order_map (arrived (route_of v)) stands_before loose)
      ∙ ap (map (arrived (route_of v)))
      (in_order_same (λ a b. stands_before (arrived (route_of v) a) (arrived (route_of v) b)) (λ a b. is_lt (key_order a b)) (λ row. same_event (event_of row.key) e)
      (λ a b h k. before_on_wire v a b (same_event-sound (event_of a.key) e h ∙ sym (same_event-sound (event_of b.key) e k))) loose loose_of
      ∙ apart_same one_key (λ a b. is_lt (key_order a b)) (λ a b. not (is_lt (key_order b a))) before_is loose (keys_once rows groups (route_of v) table))
      ∙ ap (λ (f : Row → Row). map f sorted) (λ i row. wire_is v row i)

  packable : (x : Row) → Contains loose x → is_packable e x ≡ true
  unfolding is_packable is_whole passing_rows known
  packable x m =
      let goes = of_part (passes (known rows groups v.here v.org) groups (route_of v)) (known rows groups v.here v.org) x m in
      let seen = of_part (is_known rows groups v.here v.org) rows x goes.1 in
      and_from _ _ (all_has (λ row. same_event (event_of row.key) e) loose x loose_of m) (ap not (no_tombstone_passes rows groups (route_of v) table are x seen.1 goes.0))

  packable_all : list_all (is_packable e) sorted ≡ true
  packable_all = tests_in_order (λ a b. not (is_lt (key_order b a))) (is_packable e) loose (all_true (is_packable e) loose (all_among (λ x. is_packable e x ≡ true) loose packable))

  -- where nothing passes there is no package
  pub none_packed : sorted ≡ [] → packages (arriving_rows rows groups (route_of v)) ≡ []
  unfolding packages
  none_packed h = ap (λ s. flat_map (λ x. map (λ c. x ∷ c) (cut 64 (others_with s x))) (filter is_own s)) (on_wire_sorted ∙ ap (map (on_wire v.way)) h)

  module _ (own : Row) (others : List Row) (first : sorted ≡ own ∷ others) where
    ascends : IsStrictlySortedBy key_order (own ∷ others)
    ascends = subst (IsStrictlySortedBy key_order) first (keys_ascend loose (keys_once rows groups (route_of v) table))

    each : list_all (is_packable e) (own ∷ others) ≡ true
    each = ap (list_all (is_packable e)) (sym first) ∙ packable_all

    fit : AllByRecursion (λ y. event_of y.key ≡ e) (own ∷ others)
    fit = of_event e (own ∷ others) each

    behind : AllByRecursion (λ y. key_order own y ≡ Less) others
    unfolding IsStrictlySortedBy
    behind = ascends.0

    -- the event's own row comes, and no key goes before its
    own_key : own.key ≡ event_key e
    unfolding arriving_rows on_wire key_order
    own_key =
        let came : in_order stands_before (arriving_rows rows groups (route_of v)) ≡ map (on_wire v.way) (own ∷ others) = on_wire_sorted ∙ ap (map (on_wire v.way)) first in
        let there_is : list_any (λ r. same_key r.key (event_key (event_of own.key))) (map (on_wire v.way) (own ∷ others)) ≡ true =
        ap (list_any (λ r. same_key r.key (event_key (event_of own.key)))) (sym came) ∙ any_in_order stands_before (λ r. same_key r.key (event_key (event_of own.key))) (arriving_rows rows groups (route_of v))
        ∙ with_own rows groups (route_of v) (on_wire v.way own) (from_in_order stands_before (arriving_rows rows groups (route_of v)) (on_wire v.way own) (subst (λ l. Contains l (on_wire v.way own)) (sym came) (here (on_wire v.way own) (map (on_wire v.way) others)))) in
        let f = found (λ r. same_key r.key (event_key (event_of own.key))) (own ∷ others) (sym (any_map (on_wire v.way) (λ r. same_key r.key (event_key (event_of own.key))) (own ∷ others)) ∙ there_is) in
        one f.0 (same_key-sound f.0.key (event_key (event_of own.key)) f.1.1) (first_or own others f.0 f.1.0)
      where
        one : (y : Row) → y.key ≡ event_key (event_of own.key) → (own ≡ y) ⊎ Contains others y → own.key ≡ event_key e
        one y k (inl h) = ap (λ (r : Row). r.key) h ∙ k ∙ ap event_key fit.0
        one y k (inr m) =
            absurd (false≢true (sym (own_least own.key) ∙ ap (λ j. is_less (spell own.key) (spell j)) (sym k) ∙ less_is (spell own.key) (spell y.key) ∙ ap is_lt (all_of (λ y. key_order own y ≡ Less) others y behind m)))

    is_first : is_own (on_wire v.way own) ≡ true
    unfolding is_own on_wire event_of event_key
    is_first = ap (λ k. same_key k (event_key (event_of k))) own_key ∙ same_key-refl (event_key e)

    others_not : AllByRecursion (λ y. is_own (on_wire v.way y) ≡ false) others
    unfolding is_own on_wire
    others_not = all_implied (λ y. (key_order own y ≡ Less) × (event_of y.key ≡ e)) (λ y. same_key y.key (event_key (event_of y.key)) ≡ false)
        (λ y h. false_from_ne_true _ (λ g. false≢true (sym (ap is_eq h.0) ∙ sym (key_level own y)
        ∙ ap (λ k. same_key k y.key) (own_key ∙ ap event_key (sym h.1) ∙ sym (same_key-sound y.key (event_key (event_of y.key)) g)) ∙ same_key-refl y.key))) others
        (all_both (λ y. key_order own y ≡ Less) (λ y. event_of y.key ≡ e) others behind fit.1)

    own_rows : filter is_own (map (on_wire v.way) (own ∷ others)) ≡ on_wire v.way own ∷ []
    own_rows = rw (is_first, keeps_none is_own (map (on_wire v.way) others) (all_map (on_wire v.way) (λ y. is_own (on_wire v.way y) ≡ false) (λ y. is_own y ≡ false) (λ y h. h) others others_not)) refl

    other_rows : others_with (map (on_wire v.way) (own ∷ others)) (on_wire v.way own) ≡ map (on_wire v.way) others
    unfolding others_with on_wire
    other_rows =
        dropped (same_event (event_of own.key) (event_of own.key)) (is_own (on_wire v.way own)) _ _ is_first
        ∙ keeps_all (λ r. same_event (event_of r.key) (event_of own.key) && not (is_own r)) (map (on_wire v.way) others)
        (all_map (on_wire v.way) (λ y. (is_own (on_wire v.way y) ≡ false) × (event_of y.key ≡ e)) (λ r. (same_event (event_of r.key) (event_of own.key) && not (is_own r)) ≡ true)
        (λ y h. and_from _ _ ((λ i. same_event (h.1 i) (fit.0 i)) ∙ same_event-refl e) (ap not h.0)) others (all_both _ _ others others_not fit.1))

    pub packed_are : packages (arriving_rows rows groups (route_of v)) ≡ map (λ part. map (on_wire v.way) (own ∷ part)) (cut 64 others)
    unfolding packages
    packed_are =
        ap (λ s. flat_map (λ x. map (λ c. x ∷ c) (cut 64 (others_with s x))) (filter is_own s)) (on_wire_sorted ∙ ap (map (on_wire v.way)) first)
        ∙ ap (flat_map (λ x. map (λ c. x ∷ c) (cut 64 (others_with (map (on_wire v.way) (own ∷ others)) x)))) own_rows
        ∙ append-nil (map (λ c. on_wire v.way own ∷ c) (cut 64 (others_with (map (on_wire v.way) (own ∷ others)) (on_wire v.way own))))
        ∙ ap (λ l. map (λ c. on_wire v.way own ∷ c) (cut 64 l)) other_rows
        ∙ ap (map (λ c. on_wire v.way own ∷ c)) (sym (cut_map (on_wire v.way) 64 others))
        ∙ map_twice (map (on_wire v.way)) (λ c. on_wire v.way own ∷ c) (λ part. map (on_wire v.way) (own ∷ part)) (λ c. refl) (cut 64 others)

    -- and what passes can go into packages
    pub packable_here : ArePackable e (own ∷ others)
    unfolding event_key
    packable_here = record { first = own_key; each = each; ascend = ascends }

  -- as many packages as the others of what passes are cut into, whichever goes first
  pub packages_counted : (own : Row) (others : List Row) → loose ≡ own ∷ others → length (packages (arriving_rows rows groups (route_of v))) ≡ length (cut 64 others)
  packages_counted own others is = by_keys sorted refl
    where
      size : (xs : List Row) → sorted ≡ xs → length xs ≡ suc (length others)
      size xs e = ap length (sym e) ∙ in_order_length (λ a b. not (is_lt (key_order b a))) loose ∙ ap length is

      by_keys : (xs : List Row) → sorted ≡ xs → length (packages (arriving_rows rows groups (route_of v))) ≡ length (cut 64 others)
      by_keys [] e = let none = size [] e in absurd (omega (arith, none))
      by_keys (x ∷ xs) e =
          let more = size (x ∷ xs) e in
          ap length (packed_are x xs e) ∙ length-map (cut 64 xs) (λ part. map (on_wire v.way) (x ∷ part)) ∙ cut_count 64 xs others (omega (arith, more))

  -- and none where nothing passes
  pub none_counted : loose ≡ [] → length (packages (arriving_rows rows groups (route_of v))) ≡ 0
  unfolding in_order
  none_counted is = ap length (none_packed (ap (sorted_by key_order) is))

  -- where it cannot, nothing passes
  pub not_packed : (list : List Row) → list ≡ loose → (ArePackable e (sorted_by key_order list) → ⊥) → packages (arriving_rows rows groups (route_of v)) ≡ []
  not_packed list same never = one sorted refl
    where
      one : (xs : List Row) → sorted ≡ xs → packages (arriving_rows rows groups (route_of v)) ≡ []
      one [] is = none_packed is
      one (own ∷ others) is = absurd (never (subst (ArePackable e) (sym (ap (sorted_by key_order) same ∙ is)) (packable_here own others is)))

-- ---- from lists of references

-- those that are found stand by their keys, and can go into packages
pub some_packable : (e : EventId) (list : List (Bor Row)) (found : Option (Vec (Bor Row) Global)) (some : Vec (Bor Row) Global) → found ≡ Some some →
    IsPacking e (map (λ r. r.now) list) (option_map (λ l. map (λ r. r.now) l.items) found) → (map (λ r. r.now) some.items ≡ sorted_by key_order (map (λ r. r.now) list)) × ArePackable e (map (λ r. r.now) some.items)
unfolding IsPacking
some_packable e list found some is h = subst (λ o. IsPacking e (map (λ r. r.now) list) (option_map (λ l. map (λ r. r.now) l.items) o)) is h

pub nothing_left : (list : List (Bor Row)) → length list ≡ 0 → map (λ r. r.now) list ≡ []
nothing_left [] e = refl
nothing_left (x ∷ xs) e = absurd (omega arith)
