-- What is sought of one owner by uuids, in their order, is what is looked at of it.
use Rattle.std.proofs.Common.{◌≡◌, ℕ, ◌+◌, ◌^◌, ◌<◌, ◌==◌, List, [], ◌∷◌, ◌++◌, Bool, true, false, inl, inr, refl, sym, ap, ◌∙◌, arith, filter, map, ◌&&◌, ◌||◌, bytes_eq, Less, is_lt, nat_cmp, append-nil}
use Rattle.std.specs.List.Sorted.{IsStrictlySortedBy}
use Rattle.misp_lists.specs.Order.{ascend}
use Rattle.misp_lists.specs.Prelude.{AllByRecursion, list_any}
use Rattle.misp_lists.proofs.Elements.{all_has, found}
use Rattle.misp_lists.proofs.Lists.{any_map, filter_twice}
use Rattle.misp_lists.proofs.Orders.{in_bytes, then_equal}
use Rattle.misp_lists.proofs.Prelude.{and_from, and_parts, bytes_eq-Decides, list_all}
use Rattle.std.proofs.lemmas.Bool.{or_cases}
use Rattle.misp_outside.specs.Held.{comes_before, rows_named}
use Rattle.misp_elem.proofs.KeyOrder.{uid_orders}
use Rattle.misp_elem.specs.KeyFacts.{is_statement}
use Rattle.misp_elem.specs.Parents.{event_key}
use Rattle.misp_elem.specs.Prelude.{IsUid, Uid}
use Rattle.misp_elem.specs.Spelling.{name, uid}
use Rattle.misp_effects.specs.Prelude.{RawRow}
use Rattle.misp_model.proofs.Prelude.{ElemId, Element, EventId, Key, OrgId, Place, Proposal, Reference, Sighting, Verdict}
use Rattle.misp_model.specs.declared.looks.Look.{Look}
use Rattle.misp_store.specs.Seeking.{are_in_order, elem_of, ends_among, key_before, rows_at, rows_ending, rows_in_look, rows_of_keys, rows_of_uuids}
use Rattle.misp_store.specs.Seen.{attributes_of, begin_with, end_number, end_with_one, kind_front, names_by_uuid, names_in, names_one, place_front}
use Rattle.misp_store.proofs.KeysInOrder.{by_place}
use Rattle.misp_store.proofs.LookParts.{FromForm, FromKind, OfForm, OfKind, event_named, form_begun, form_first, in_two, kind_begun, kind_first}
use Rattle.misp_store.proofs.NamedRows.{is_at, rows_by_keys}

-- ---- attributes in order

number_order : (a b : Uid) → IsUid a → IsUid b → nat_cmp a.0 b.0 ≡ Less → in_bytes (uid a) (uid b) ≡ Less
number_order a b h k less = (λ i. in_bytes (sym (append-nil (uid a)) i) (sym (append-nil (uid b)) i)) ∙ uid_orders.by_bytes a b [] [] h k ∙ then_equal (nat_cmp a.0 b.0) ∙ less

module _ (e : EventId) where
  abbrev attribute_at : ℕ → Key
  attribute_at n = Element e (Place.Attribute (elem_of n))

  later_attributes : (n : ℕ) (ns : List ℕ) → n < 2 ^ 128 → AllByRecursion (λ m. m < 2 ^ 128) ns → AllByRecursion (λ m. nat_cmp n m ≡ Less) ns → list_all (key_before (attribute_at n)) (attributes_of e (map elem_of ns)) ≡ true
  later_attributes n [] fits all less = refl
  later_attributes n (m ∷ ns) fits all less =
      and_from _ _ (by_place e (Place.Attribute (elem_of n)) (Place.Attribute (elem_of m)) (ap is_lt (number_order (elem_of n).0 (elem_of m).0 fits all.0 less.0))) (later_attributes n ns fits all.1 less.1)

  attributes_in_order : (ns : List ℕ) → AllByRecursion (λ n. n < 2 ^ 128) ns → IsStrictlySortedBy nat_cmp ns → are_in_order (attributes_of e (map elem_of ns)) ≡ true
  unfolding are_in_order ascend IsStrictlySortedBy
  attributes_in_order [] all up = refl
  attributes_in_order (n ∷ ns) all up = and_from _ _ (later_attributes n ns all.0 all.1 up.0) (attributes_in_order ns all.1 up.1)

-- ---- tests of names

-- a test of parts of which two have one more test besides
spread : (a b c d f also : Bool) → (a || (b || (c || ((d || f) && also)))) ≡ (a || (b || (c || ((d && also) || (f && also)))))
spread true b c d f also = refl
spread false true c d f also = refl
spread false false true d f also = refl
spread false false false true true true = refl
spread false false false true true false = refl
spread false false false true false true = refl
spread false false false true false false = refl
spread false false false false f also = refl

assoc : (a b c : Bool) → (a && (b && c)) ≡ ((a && b) && c)
assoc true b c = refl
assoc false b c = refl

-- ---- what is found

module _ (e : EventId) (o : OrgId) (ns : List ℕ) where
  -- the tests of the parts
  abbrev of_event : List ℕ → Bool
  of_event x = bytes_eq x (name o (event_key e))

  abbrev of_objects : List ℕ → Bool
  of_objects x = begin_with (place_front o e 1) x

  abbrev of_attributes : List ℕ → Bool
  of_attributes x = names_one o (attributes_of e (map elem_of ns)) x

  abbrev ends : List ℕ → Bool
  ends x = list_any (λ n. n == end_number x) ns

  abbrev of_within : List ℕ → Bool
  of_within x = begin_with (place_front o e 3) x && ends x

  abbrev of_references : List ℕ → Bool
  of_references x = begin_with (kind_front o e 1) x && ends x

  attributes_are : (x : List ℕ) → of_attributes x ≡ list_any (λ n. bytes_eq x (name o (attribute_at e n))) ns
  attributes_are x =
      any_map (λ (u : ElemId). Element e (Place.Attribute u)) (λ k. bytes_eq x (name o k)) (map elem_of ns)
      ∙ any_map elem_of (λ (u : ElemId). bytes_eq x (name o (Element e (Place.Attribute u)))) ns

  test_parted : (x : List ℕ) → names_by_uuid (map elem_of ns) e o x ≡ (of_event x || (of_objects x || (of_attributes x || (of_within x || of_references x))))
  test_parted x =
      spread (of_event x) (of_objects x) (of_attributes x) (begin_with (place_front o e 3) x) (begin_with (kind_front o e 1) x) (end_with_one (map elem_of ns) x)
      ∙ ap (λ t. of_event x || (of_objects x || (of_attributes x || ((begin_with (place_front o e 3) x && t) || (begin_with (kind_front o e 1) x && t)))))
      (any_map elem_of (λ (u : ElemId). u.0.0 == end_number x) ns)

  attribute_named : (x : List ℕ) → of_attributes x ≡ true → OfForm e o 2 x
  attribute_named x h =
      let one = found (λ n. bytes_eq x (name o (attribute_at e n))) ns (sym (attributes_are x) ∙ h) in
      (uid (elem_of one.0).0, (bytes_eq-Decides x (name o (attribute_at e one.0))).0 one.1.1)

  within_named : (x : List ℕ) → of_within x ≡ true → OfForm e o 3 x
  within_named x h = form_begun e o 3 x (and_parts _ (ends x) h).0

  reference_named : (x : List ℕ) → of_references x ≡ true → OfKind e o 1 x
  reference_named x h = kind_begun e o 1 x (and_parts _ (ends x) h).0

  -- ---- each part is before the next

  earlier : (f : ℕ) (x : List ℕ) → FromForm e o (f + 1) x → FromForm e o f x
  earlier f x (inl y) = inl (y.0, (omega (arith, y.1.0), y.1.1))
  earlier f x (inr y) = inr y

  from_references : (x : List ℕ) → of_references x ≡ true → FromForm e o 4 x
  from_references x h = inr (1, (omega arith, reference_named x h))

  from_within : (x : List ℕ) → (of_within x || of_references x) ≡ true → FromForm e o 3 x
  from_within x h = elim (or_cases (of_within x) (of_references x) h) [
    | inl is ↦ inl (3, (omega arith, within_named x is))
    | inr more ↦ earlier 3 x (from_references x more)
  ]

  from_attributes : (x : List ℕ) → (of_attributes x || (of_within x || of_references x)) ≡ true → FromForm e o 2 x
  from_attributes x h = elim (or_cases (of_attributes x) _ h) [
    | inl is ↦ inl (2, (omega arith, attribute_named x is))
    | inr more ↦ earlier 2 x (from_within x more)
  ]

  from_objects : (x : List ℕ) → (of_objects x || (of_attributes x || (of_within x || of_references x))) ≡ true → FromForm e o 1 x
  from_objects x h = elim (or_cases (of_objects x) _ h) [
    | inl is ↦ inl (1, (omega arith, form_begun e o 1 x is))
    | inr more ↦ earlier 1 x (from_attributes x more)
  ]

  ending : (front : List ℕ) (raws : List RawRow) → filter (λ raw. is_at e raw && (begin_with front raw.name && ends raw.name)) raws ≡ rows_ending e front ns raws
  unfolding rows_ending rows_named
  ending front raws =
      ap (λ (p : RawRow → Bool). filter p raws) (λ i raw. assoc (is_at e raw) (begin_with front raw.name) (ends raw.name) i)
      ∙ sym (filter_twice (λ raw. is_at e raw && begin_with front raw.name) (ends_among ns) raws)

  -- what is sought part after part is what is of the uuids
  pub uuids_parted : AllByRecursion (λ n. n < 2 ^ 128) ns → IsStrictlySortedBy nat_cmp ns → (raws : List RawRow) → ascend comes_before raws ≡ true
      → rows_at e (name o (event_key e)) raws ++ (rows_named e (place_front o e 1) raws ++ (rows_of_keys e o (attributes_of e (map elem_of ns)) raws ++ (rows_ending e (place_front o e 3) ns raws ++ rows_ending e (kind_front o e 1) ns raws)))
      ≡ rows_of_uuids e o ns raws
  unfolding rows_at rows_named rows_of_uuids
  uuids_parted fits ascending raws up =
      sym
      (ap (λ (p : RawRow → Bool). filter p raws) (λ i raw. is_at e raw && test_parted raw.name i)
      ∙ in_two e of_event (λ x. of_objects x || (of_attributes x || (of_within x || of_references x)))
      (λ x y h k. form_first e o 0 x y (event_named e o x h) (from_objects y k)) raws up
      ∙ ap (λ t. rows_at e (name o (event_key e)) raws ++ t)
      (in_two e of_objects (λ x. of_attributes x || (of_within x || of_references x))
      (λ x y h k. form_first e o 1 x y (form_begun e o 1 x h) (from_attributes y k)) raws up
      ∙ ap (λ t. rows_named e (place_front o e 1) raws ++ t)
      (in_two e of_attributes (λ x. of_within x || of_references x)
      (λ x y h k. form_first e o 2 x y (attribute_named x h) (from_within y k)) raws up
      ∙ (λ i. rows_by_keys e o (attributes_of e (map elem_of ns)) raws (attributes_in_order e ns fits ascending) up i
      ++ (in_two e of_within of_references (λ x y h k. form_first e o 3 x y (within_named x h) (from_references y k)) raws up
      ∙ (λ i. ending (place_front o e 3) raws i ++ ending (kind_front o e 1) raws i)) i))))

  -- what is of the uuids is before statements
  before_statements : (x y : List ℕ) → names_by_uuid (map elem_of ns) e o x ≡ true → FromKind e o 2 y → in_bytes x y ≡ Less
  before_statements x y h late = elim (or_cases (of_event x) _ (sym (test_parted x) ∙ h)) [
    | inl is ↦ form_first e o 0 x y (event_named e o x is) kind
    | inr more ↦ elim (or_cases (of_objects x) _ more) [
      | inl is ↦ form_first e o 1 x y (form_begun e o 1 x is) kind
      | inr others ↦ elim (or_cases (of_attributes x) _ others) [
        | inl is ↦ form_first e o 2 x y (attribute_named x is) kind
        | inr last ↦ elim (or_cases (of_within x) _ last) [
          | inl is ↦ form_first e o 3 x y (within_named x is) kind
          | inr is ↦ kind_first e o 1 x y (reference_named x is) late
        ]
      ]
    ]
  ]
    where
      kind : {f : ℕ} → FromForm e o f y
      kind = inr (late.0, (omega (arith, late.1.0), late.1.1))

-- ---- the keys besides

late : (e : EventId) (o : OrgId) (k : Key) (x : List ℕ) → is_statement k ≡ true → x ≡ name o k → FromKind e o 2 x
unfolding is_statement
late e o (Element f p) x h is = absurd cc
late e o (Reference f y t u) x h is = absurd cc
late e o (Proposal f n) x h is = (2, (omega arith, (_, is)))
late e o (Verdict f n i w) x h is = (3, (omega arith, (_, is)))
late e o (Sighting f t i w u) x h is = (4, (omega arith, (_, is)))

module _ (e : EventId) (o : OrgId) (us : List ElemId) (keys : List Key) (ns : List ℕ)
    (same : (p : ℕ → Bool) → list_any p ns ≡ list_any (λ u. p u.0.0) us) where
  -- the numbers are those of the uuids
  attributes_same : (x : List ℕ) → names_one o (attributes_of e us) x ≡ of_attributes e o ns x
  attributes_same x =
      any_map (λ (u : ElemId). Element e (Place.Attribute u)) (λ k. bytes_eq x (name o k)) us
      ∙ sym (same (λ n. bytes_eq x (name o (attribute_at e n)))) ∙ sym (attributes_are e o ns x)

  ends_same : (x : List ℕ) → end_with_one us x ≡ end_with_one (map elem_of ns) x
  ends_same x = sym (same (λ n. n == end_number x)) ∙ sym (any_map elem_of (λ (u : ElemId). u.0.0 == end_number x) ns)

  test_same : (x : List ℕ) → names_by_uuid us e o x ≡ names_by_uuid (map elem_of ns) e o x
  test_same x i =
      bytes_eq x (name o (event_key e))
      || (begin_with (place_front o e 1) x || (attributes_same x i || ((begin_with (place_front o e 3) x || begin_with (kind_front o e 1) x) && ends_same x i)))

  from_keys : list_all is_statement keys ≡ true → (x : List ℕ) → names_one o keys x ≡ true → FromKind e o 2 x
  from_keys statements x h =
      let one = found (λ k. bytes_eq x (name o k)) keys h in
      late e o one.0 x (all_has is_statement keys one.0 statements one.1.0) ((bytes_eq-Decides x (name o one.0)).0 one.1.1)

  -- what is of the uuids, and then what is of the keys, is what is looked at
  pub uuids_found : list_all is_statement keys ≡ true → are_in_order keys ≡ true → (raws : List RawRow) → ascend comes_before raws ≡ true
      → rows_of_uuids e o ns raws ++ rows_of_keys e o keys raws ≡ rows_in_look (Look.Uuids us keys) e o raws
  unfolding rows_of_uuids rows_in_look names_in
  uuids_found statements sorted raws up =
      sym
      (ap (λ (p : RawRow → Bool). filter p raws) (λ i raw. is_at e raw && (test_same raw.name i || names_one o keys raw.name))
      ∙ in_two e (names_by_uuid (map elem_of ns) e o) (names_one o keys) (λ x y h k. before_statements e o ns x y h (from_keys statements y k)) raws up
      ∙ ap (λ t. rows_of_uuids e o ns raws ++ t) (rows_by_keys e o keys raws sorted up))
