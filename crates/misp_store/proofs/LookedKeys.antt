-- The name of a row is looked at where its key is.
use Rattle.std.proofs.Common.{◌≡◌, ℕ, ◌-◌, ◌≤◌, ◌==◌, List, [], ◌∷◌, ◌++◌, Bool, true, false, inl, inr, refl, sym, ap, subst, ◌∙◌, arith, drop, length, ◌||◌, bytes_eq, is_lt, eqb-true, eq-eqb, append-nil, append_assoc, drop_at, length-append}
use Rattle.std.proofs.lemmas.Bool.{or_cases}
use Rattle.misp_lists.proofs.All.{all_of}
use Rattle.misp_lists.proofs.Elements.{any_has, found}
use Rattle.misp_lists.proofs.Lists.{alike, any_implies, any_map, head_of, tail_of}
use Rattle.misp_lists.proofs.Orders.{in_bytes, less_or}
use Rattle.misp_lists.proofs.Prelude.{and_from, and_parts, bytes_eq-Decides, list_any}
use Rattle.misp_ids.specs.Same.{same_elem}
use Rattle.misp_elem.specs.Key.{IsKey}
use Rattle.misp_elem.specs.KeyFacts.{is_statement}
use Rattle.misp_elem.specs.Parents.{event_key, event_of}
use Rattle.misp_elem.specs.Prelude.{IsUid, Uid}
use Rattle.misp_elem.specs.Spelling.{key, name, place, uid}
use Rattle.misp_model.proofs.NameOrder.{keys_in_bytes}
use Rattle.misp_model.proofs.Prelude.{AllByRecursion, ElemId, Element, EventId, Key, OrgId, Place, Proposal, Reference, Sighting, Verdict, or_left, same_event, same_event-refl, same_event-sound, same_key, same_key-refl, same_key-sound, spell, spells}
use Rattle.misp_model.proofs.Spelled.{begins_with_itself}
use Rattle.misp_model.specs.Looking.{is_in_look, is_needed_for, is_place_needed_for}
use Rattle.misp_model.specs.declared.looks.Look.{Look}
use Rattle.misp_store.specs.Seeking.{IsLookOfKeys}
use Rattle.misp_store.specs.Seen.{attributes_of, begin_with, end_with_one, kind_front, end_number, names_by_uuid, names_in, names_one, names_statement, names_within, front_number, place_front}
use Rattle.misp_store.proofs.Fronts.{number_of_uid}
use Rattle.misp_store.proofs.LookParts.{form_begun, kind_begun}
use Rattle.misp_store.proofs.NamedRows.{not_less}
use Rattle.misp_store.proofs.RowNames.{uid_length}

-- ---- keys and their bytes

or_right : (a b : Bool) → b ≡ true → (a || b) ≡ true
or_right true b h = refl
or_right false b h = h

one_key : (a b : Key) → IsKey a → IsKey b → key a ≡ key b → a ≡ b
one_key a b h k e =
    elim (less_or (spell a) (spell b)) [
      | inl same ↦ spells a b same
      | inr (inl lt) ↦ absurd (not_less (key b) (subst (λ t. is_lt (in_bytes t (key b)) ≡ true) e (sym (keys_in_bytes a b h k) ∙ lt)))
      | inr (inr lt) ↦ absurd (not_less (key b) (subst (λ t. is_lt (in_bytes (key b) t) ≡ true) e (sym (keys_in_bytes b a k h) ∙ lt)))
    ]

-- what follows the same owner is the same
behind : (o : OrgId) (x y : List ℕ) → uid o.0 ++ x ≡ uid o.0 ++ y → x ≡ y
behind o x y e = sym (drop_at (uid o.0) x 16 (uid_length o.0)) ∙ ap (drop 16) e ∙ drop_at (uid o.0) y 16 (uid_length o.0)

-- a key has the name of another only where it is that
named_key : (o : OrgId) (a b : Key) → IsKey a → IsKey b → bytes_eq (name o a) (name o b) ≡ true → a ≡ b
named_key o a b h k e = one_key a b h k (behind o (key a) (key b) ((bytes_eq-Decides (name o a) (name o b)).0 e))

named_itself : (o : OrgId) (a b : Key) → a ≡ b → bytes_eq (name o a) (name o b) ≡ true
named_itself o a b e = (bytes_eq-Decides (name o a) (name o b)).1 (ap (name o) e)

keys_named : (o : OrgId) (a : Key) (keys : List Key) → list_any (same_key a) keys ≡ true → names_one o keys (name o a) ≡ true
keys_named o a keys h = any_implies (same_key a) (λ k. bytes_eq (name o a) (name o k)) (λ k same. named_itself o a k (same_key-sound a k same)) keys h

keys_told : (o : OrgId) (a : Key) → IsKey a → (keys : List Key) → AllByRecursion IsKey keys → names_one o keys (name o a) ≡ true → list_any (same_key a) keys ≡ true
keys_told o a h [] are is = is
keys_told o a h (k ∷ keys) are is = elim (or_cases (bytes_eq (name o a) (name o k)) (names_one o keys (name o a)) is) [
  | inl one ↦ or_left _ _ (subst (λ j. same_key a j ≡ true) (named_key o a k h are.0 one) (same_key-refl a))
  | inr more ↦ or_right (same_key a k) _ (keys_told o a h keys are.1 more)
]

-- ---- what names begin with, and end with

front_there : (o : OrgId) (e : EventId) (kind : ℕ) (rest : List ℕ) → begin_with (kind_front o e kind) (uid o.0 ++ (kind ∷ uid e.0 ++ rest)) ≡ true
front_there o e kind rest = ap (begin_with (kind_front o e kind)) (sym (append_assoc (uid o.0) (kind ∷ uid e.0) rest)) ∙ begins_with_itself (kind_front o e kind) rest

form_there : (o : OrgId) (e : EventId) (form : ℕ) (rest : List ℕ) → begin_with (place_front o e form) (uid o.0 ++ (0 ∷ uid e.0 ++ form ∷ rest)) ≡ true
form_there o e form rest =
    ap (begin_with (place_front o e form)) (sym (append_assoc (kind_front o e 0) (form ∷ []) rest ∙ append_assoc (uid o.0) (0 ∷ uid e.0) (form ∷ rest)))
    ∙ begins_with_itself (place_front o e form) rest

last_of : (front bytes : List ℕ) (u : Uid) → IsUid u → bytes ≡ front ++ uid u → end_number bytes ≡ u.0
unfolding end_number front_number
last_of front bytes u is e =
    ap end_number e
    ∙ ap front_number (drop_at front (uid u) (length (front ++ uid u) - 16) (omega (arith, length-append front (uid u), uid_length u)) ∙ sym (append-nil (uid u)))
    ∙ number_of_uid u [] is

attribute_last : (o : OrgId) (e : EventId) (x a : ElemId) → IsUid a.0 → end_number (name o (Element e (Place.ObjectAttribute x a))) ≡ a.0.0
attribute_last o e x a is =
    last_of (uid o.0 ++ (0 ∷ uid e.0 ++ 3 ∷ uid x.0)) _ a.0 is
    (sym (append_assoc (uid o.0) (0 ∷ uid e.0 ++ 3 ∷ uid x.0) (uid a.0) ∙ ap (λ t. uid o.0 ++ t) (append_assoc (0 ∷ uid e.0) (3 ∷ uid x.0) (uid a.0))))

reference_last : (o : OrgId) (e : EventId) (x : ElemId) (t : Place) (u : ElemId) → IsUid u.0 → end_number (name o (Reference e x t u)) ≡ u.0.0
reference_last o e x t u is =
    last_of (uid o.0 ++ (1 ∷ uid e.0 ++ (uid x.0 ++ place t))) _ u.0 is
    (sym (append_assoc (uid o.0) (1 ∷ uid e.0 ++ (uid x.0 ++ place t)) (uid u.0)
    ∙ ap (λ s. uid o.0 ++ s) (append_assoc (1 ∷ uid e.0) (uid x.0 ++ place t) (uid u.0) ∙ ap (λ s. 1 ∷ uid e.0 ++ s) (append_assoc (uid x.0) (place t) (uid u.0)))))

-- the bytes end with one of the uuids just where its number is among them
ends_so : (us : List ElemId) (bytes : List ℕ) (u : ElemId) → end_number bytes ≡ u.0.0 → list_any (same_elem u) us ≡ true → end_with_one us bytes ≡ true
unfolding same_elem
ends_so us bytes u last h = any_implies (same_elem u) (λ v. v.0.0 == end_number bytes) (λ v same. eq-eqb v.0.0 (end_number bytes) (sym (eqb-true u.0.0 v.0.0 same) ∙ sym last)) us h

told_so : (us : List ElemId) (bytes : List ℕ) (u : ElemId) → end_number bytes ≡ u.0.0 → end_with_one us bytes ≡ true → list_any (same_elem u) us ≡ true
unfolding same_elem
told_so us bytes u last h = any_implies (λ v. v.0.0 == end_number bytes) (same_elem u) (λ v same. eq-eqb u.0.0 v.0.0 (sym last ∙ sym (eqb-true v.0.0 (end_number bytes) same))) us h

-- ---- where the key is looked at, so is the name

module _ (o : OrgId) (us : List ElemId) where
  within_so : (e : EventId) (x : List ℕ) → (begin_with (place_front o e 3) x || begin_with (kind_front o e 1) x) ≡ true → end_with_one us x ≡ true → names_by_uuid us e o x ≡ true
  within_so e x begin ends =
      or_right (bytes_eq x (name o (event_key e))) _
      (or_right (begin_with (place_front o e 1) x) _
      (or_right (names_one o (attributes_of e us) x) (names_within us e o x)
      (and_from (begin_with (place_front o e 3) x || begin_with (kind_front o e 1) x) (end_with_one us x) begin ends)))

  uuid_named : (k : Key) → IsKey k → is_needed_for us k ≡ true → names_by_uuid us (event_of k) o (name o k) ≡ true
  unfolding is_needed_for is_place_needed_for event_of event_key same_elem
  uuid_named (Element e Place.Event) is h = or_left _ _ (named_itself o (Element e Place.Event) (Element e Place.Event) refl)
  uuid_named (Element e (Place.Object x)) is h = or_right _ _ (or_left _ _ (form_there o e 1 (uid x.0)))
  uuid_named (Element e (Place.Attribute a)) is h = or_right _ _ (or_right _ _ (or_left _ _ one))
    where
      one : names_one o (attributes_of e us) (name o (Element e (Place.Attribute a))) ≡ true
      one =
          any_map (λ (u : ElemId). Element e (Place.Attribute u)) (λ k. bytes_eq (name o (Element e (Place.Attribute a))) (name o k)) us
          ∙ any_implies (same_elem a) (λ u. bytes_eq (name o (Element e (Place.Attribute a))) (name o (Element e (Place.Attribute u))))
          (λ u same. named_itself o (Element e (Place.Attribute a)) (Element e (Place.Attribute u)) (ap (λ n. Element e (Place.Attribute (record { 0 = record { 0 = n } }))) (eqb-true a.0.0 u.0.0 same))) us h
  uuid_named (Element e (Place.ObjectAttribute x a)) is h =
      let n = name o (Element e (Place.ObjectAttribute x a)) in
      within_so e n (or_left (begin_with (place_front o e 3) n) (begin_with (kind_front o e 1) n) (form_there o e 3 (uid x.0 ++ uid a.0))) (ends_so us n a (attribute_last o e x a is.1.1.1) h)
  uuid_named (Reference e x t u) is h =
      let n = name o (Reference e x t u) in
      within_so e n (or_right (begin_with (place_front o e 3) n) (begin_with (kind_front o e 1) n) (front_there o e 1 (uid x.0 ++ (place t ++ uid u.0)))) (ends_so us n u (reference_last o e x t u is.1.1.1) h)
  uuid_named (Proposal e n) is h = absurd cc
  uuid_named (Verdict e n i w) is h = absurd cc
  uuid_named (Sighting e t i w u) is h = absurd cc

module _ (o : OrgId) where
  statement_named : (k : Key) → is_statement k ≡ true → names_statement (event_of k) o (name o k) ≡ true
  unfolding is_statement event_of
  statement_named (Element e p) h = absurd cc
  statement_named (Reference e x t u) h = absurd cc
  statement_named (Proposal e n) h = or_left _ _ (front_there o e 2 _)
  statement_named (Verdict e n i w) h = or_right _ _ (or_left _ _ (front_there o e 3 _))
  statement_named (Sighting e t i w u) h = or_right _ _ (or_right _ _ (front_there o e 4 _))

  own_named : (look : Look) (k : Key) → IsKey k → is_in_look look (event_of k) k ≡ true → names_in look (event_of k) o (name o k) ≡ true
  unfolding is_in_look names_in
  own_named (Look.Keys keys) k is h = keys_named o k keys h
  own_named (Look.Uuids us keys) k is h = elim (or_cases _ (list_any (same_key k) keys) h) [
    | inl by ↦ or_left _ _ (uuid_named o us k is (and_parts _ (is_needed_for us k) by).1)
    | inr one ↦ or_right _ _ (keys_named o k keys one)
  ]
  own_named Look.Statements k is h = elim (or_cases (is_statement k) (same_key k (event_key (event_of k))) (and_parts _ _ h).1) [
    | inl statement ↦ or_right _ _ (statement_named k statement)
    | inr same ↦ or_left _ _ (named_itself o k (event_key (event_of k)) (same_key-sound k _ same))
  ]
  own_named Look.All k is h = begins_with_itself (uid o.0) (key k)

pub look_named : (e : EventId) (look : Look) (o : OrgId) (k : Key) → IsKey k → same_event (event_of k) e ≡ true → is_in_look look e k ≡ true → names_in look e o (name o k) ≡ true
look_named e look o k is at h =
    let one : event_of k ≡ e = same_event-sound (event_of k) e at in
    subst (λ f. names_in look f o (name o k) ≡ true) one (own_named o look k is (subst (λ f. is_in_look look f k ≡ true) (sym one) h))

-- ---- and where the name is, so is the key

-- what an element's bytes have after its event
form_of : (e f : EventId) (p : Place) (form : ℕ) (rest : List ℕ) → key (Element f p) ≡ 0 ∷ uid e.0 ++ form ∷ rest → place p ≡ form ∷ rest
form_of e f p form rest h = sym (drop_at (uid f.0) (place p) 16 (uid_length f.0)) ∙ ap (drop 16) (ap tail_of h) ∙ drop_at (uid e.0) (form ∷ rest) 16 (uid_length e.0)

-- bytes that begin otherwise are not the same
unlike : {A : Type 0} (m n : ℕ) (x y : List ℕ) → m ∷ x ≡ n ∷ y → (m ≡ n → ⊥) → A
unlike m n x y h not = absurd (not (ap head_of h))

late_kind : (k : Key) (kind : ℕ) (rest : List ℕ) → 2 ≤ kind → key k ≡ kind ∷ rest → is_statement k ≡ true
unfolding is_statement
late_kind (Element e p) kind rest le h = let z : 0 ≡ kind = ap head_of h in absurd (omega (arith, z))
late_kind (Reference e x t u) kind rest le h = let z : 1 ≡ kind = ap head_of h in absurd (omega (arith, z))
late_kind (Proposal e n) kind rest le h = refl
late_kind (Verdict e n i w) kind rest le h = refl
late_kind (Sighting e t i w u) kind rest le h = refl

module _ (o : OrgId) where
  statement_told : (k : Key) (kind : ℕ) → 2 ≤ kind → begin_with (kind_front o (event_of k) kind) (name o k) ≡ true → is_statement k ≡ true
  statement_told k kind le h = let x = kind_begun (event_of k) o kind (name o k) h in late_kind k kind x.0 le (behind o (key k) (kind ∷ x.0) x.1)

  statements_told : (k : Key) → names_statement (event_of k) o (name o k) ≡ true → is_statement k ≡ true
  statements_told k h = elim (or_cases (begin_with (kind_front o (event_of k) 2) (name o k)) _ h) [
    | inl is ↦ statement_told k 2 (omega arith) is
    | inr more ↦ elim (or_cases (begin_with (kind_front o (event_of k) 3) (name o k)) _ more) [
      | inl is ↦ statement_told k 3 (omega arith) is
      | inr is ↦ statement_told k 4 (omega arith) is
    ]
  ]

  event_told : (k : Key) → IsKey k → IsUid (event_of k).0 → bytes_eq (name o k) (name o (event_key (event_of k))) ≡ true → k ≡ event_key (event_of k)
  unfolding event_key
  event_told k is fits h = named_key o k (Element (event_of k) Place.Event) is (fits, (refl, tt)) h

  module _ (us : List ElemId) (uids : AllByRecursion (λ (u : ElemId). IsUid u.0) us) where
    object_told : (e : EventId) (k : Key) (rest : List ℕ) → key k ≡ 0 ∷ uid e.0 ++ 1 ∷ rest → is_needed_for us k ≡ true
    unfolding is_needed_for is_place_needed_for
    object_told e (Element f Place.Event) rest h = refl
    object_told e (Element f (Place.Object x)) rest h = refl
    object_told e (Element f (Place.Attribute a)) rest h = unlike 2 1 _ _ (form_of e f (Place.Attribute a) 1 rest h) (λ z. omega (arith, z))
    object_told e (Element f (Place.ObjectAttribute x a)) rest h = unlike 3 1 _ _ (form_of e f (Place.ObjectAttribute x a) 1 rest h) (λ z. omega (arith, z))
    object_told e (Reference f x t u) rest h = unlike 1 0 _ _ h (λ z. omega (arith, z))
    object_told e (Proposal f n) rest h = unlike 2 0 _ _ h (λ z. omega (arith, z))
    object_told e (Verdict f n i w) rest h = unlike 3 0 _ _ h (λ z. omega (arith, z))
    object_told e (Sighting f t i w u) rest h = unlike 4 0 _ _ h (λ z. omega (arith, z))

    in_object : (e : EventId) (k : Key) (rest : List ℕ) → IsKey k → key k ≡ 0 ∷ uid e.0 ++ 3 ∷ rest → end_with_one us (name o k) ≡ true → is_needed_for us k ≡ true
    unfolding is_needed_for is_place_needed_for
    in_object e (Element f Place.Event) rest is h ends = refl
    in_object e (Element f (Place.Object x)) rest is h ends = refl
    in_object e (Element f (Place.Attribute a)) rest is h ends = unlike 2 3 _ _ (form_of e f (Place.Attribute a) 3 rest h) (λ z. omega (arith, z))
    in_object e (Element f (Place.ObjectAttribute x a)) rest is h ends = told_so us _ a (attribute_last o f x a is.1.1.1) ends
    in_object e (Reference f x t u) rest is h ends = unlike 1 0 _ _ h (λ z. omega (arith, z))
    in_object e (Proposal f n) rest is h ends = unlike 2 0 _ _ h (λ z. omega (arith, z))
    in_object e (Verdict f n i w) rest is h ends = unlike 3 0 _ _ h (λ z. omega (arith, z))
    in_object e (Sighting f t i w u) rest is h ends = unlike 4 0 _ _ h (λ z. omega (arith, z))

    of_reference : (k : Key) (rest : List ℕ) → IsKey k → key k ≡ 1 ∷ rest → end_with_one us (name o k) ≡ true → is_needed_for us k ≡ true
    unfolding is_needed_for
    of_reference (Reference e x t u) rest is h ends = told_so us _ u (reference_last o e x t u is.1.1.1) ends
    of_reference (Element e p) rest is h ends = unlike 0 1 _ _ h (λ z. omega (arith, z))
    of_reference (Proposal e n) rest is h ends = unlike 2 1 _ _ h (λ z. omega (arith, z))
    of_reference (Verdict e n i w) rest is h ends = unlike 3 1 _ _ h (λ z. omega (arith, z))
    of_reference (Sighting e t i w u) rest is h ends = unlike 4 1 _ _ h (λ z. omega (arith, z))

    within_told : (e : EventId) (k : Key) → IsKey k → names_within us e o (name o k) ≡ true → is_needed_for us k ≡ true
    within_told e k is h =
        let two = and_parts (begin_with (place_front o e 3) (name o k) || begin_with (kind_front o e 1) (name o k)) (end_with_one us (name o k)) h in
        elim (or_cases (begin_with (place_front o e 3) (name o k)) (begin_with (kind_front o e 1) (name o k)) two.0) [
          | inl form ↦ let x = form_begun e o 3 (name o k) form in in_object e k x.0 is (behind o (key k) (0 ∷ uid e.0 ++ 3 ∷ x.0) x.1) two.1
          | inr kind ↦ let x = kind_begun e o 1 (name o k) kind in of_reference k x.0 is (behind o (key k) (1 ∷ x.0) x.1) two.1
        ]

    attribute_told : (e : EventId) (k : Key) → IsKey k → IsUid e.0 → names_one o (attributes_of e us) (name o k) ≡ true → is_needed_for us k ≡ true
    unfolding is_needed_for is_place_needed_for same_elem
    attribute_told e k is fits h =
        let one = found (λ (u : ElemId). bytes_eq (name o k) (name o (Element e (Place.Attribute u)))) us (sym (any_map (λ (u : ElemId). Element e (Place.Attribute u)) (λ j. bytes_eq (name o k) (name o j)) us) ∙ h) in
        let same : k ≡ Element e (Place.Attribute one.0) = named_key o k (Element e (Place.Attribute one.0)) is (fits, (refl, all_of (λ (u : ElemId). IsUid u.0) us one.0 uids one.1.0)) one.1.1 in
        subst (λ j. is_needed_for us j ≡ true) (sym same) (any_has (same_elem one.0) us one.0 one.1.0 (eq-eqb one.0.0.0 one.0.0.0 refl))

    uuid_told : (k : Key) → IsKey k → IsUid (event_of k).0 → names_by_uuid us (event_of k) o (name o k) ≡ true → is_needed_for us k ≡ true
    unfolding is_needed_for is_place_needed_for event_key
    uuid_told k is fits h = elim (or_cases (bytes_eq (name o k) (name o (event_key (event_of k)))) _ h) [
      | inl same ↦ subst (λ j. is_needed_for us j ≡ true) (sym (event_told k is fits same)) refl
      | inr more ↦ elim (or_cases (begin_with (place_front o (event_of k) 1) (name o k)) _ more) [
        | inl form ↦ let x = form_begun (event_of k) o 1 (name o k) form in object_told (event_of k) k x.0 (behind o (key k) (0 ∷ uid (event_of k).0 ++ 1 ∷ x.0) x.1)
        | inr others ↦ elim (or_cases (names_one o (attributes_of (event_of k) us) (name o k)) _ others) [
          | inl one ↦ attribute_told (event_of k) k is fits one
          | inr within ↦ within_told (event_of k) k is within
        ]
      ]
    ]

  own_told : (look : Look) (k : Key) → IsLookOfKeys look → IsKey k → IsUid (event_of k).0 → names_in look (event_of k) o (name o k) ≡ true → is_in_look look (event_of k) k ≡ true
  unfolding is_in_look names_in
  own_told (Look.Keys keys) k has is fits h = keys_told o k is keys has h
  own_told (Look.Uuids us keys) k has is fits h = elim (or_cases (names_by_uuid us (event_of k) o (name o k)) (names_one o keys (name o k)) h) [
    | inl by ↦ or_left _ _ (and_from _ _ (same_event-refl (event_of k)) (uuid_told us has.0 k is fits by))
    | inr one ↦ or_right _ _ (keys_told o k is keys has.1 one)
  ]
  own_told Look.Statements k has is fits h = and_from _ _ (same_event-refl (event_of k)) (elim (or_cases (bytes_eq (name o k) (name o (event_key (event_of k)))) (names_statement (event_of k) o (name o k)) h) [
    | inl same ↦ or_right _ _ (subst (λ j. same_key k j ≡ true) (event_told k is fits same) (same_key-refl k))
    | inr statement ↦ or_left _ _ (statements_told k statement)
  ])
  own_told Look.All k has is fits h = same_event-refl (event_of k)

-- the event of a key has an identifier
event_fits : (k : Key) → IsKey k → IsUid (event_of k).0
unfolding event_of
event_fits (Element e p) is = is.0
event_fits (Reference e x t u) is = is.0
event_fits (Proposal e n) is = is.0
event_fits (Verdict e n i w) is = is.0
event_fits (Sighting e t i w u) is = is.0

pub look_alike : (e : EventId) (look : Look) (o : OrgId) (k : Key) → IsLookOfKeys look → IsKey k → same_event (event_of k) e ≡ true → names_in look e o (name o k) ≡ is_in_look look e k
look_alike e look o k has is at =
    let one : event_of k ≡ e = same_event-sound (event_of k) e at in
    alike _ _
    (λ h. subst (λ f. is_in_look look f k ≡ true) one (own_told o look k has is (event_fits k is) (subst (λ f. names_in look f o (name o k) ≡ true) (sym one) h)))
    (look_named e look o k is at)
