-- What is sought of one owner part after part: the names of each part are before those of the next.
use Rattle.std.proofs.Common.{◌≡◌, ◌⊎◌, ℕ, ◌+◌, ◌<◌, ◌≤◌, List, [], ◌∷◌, ◌++◌, Bool, true, inl, inr, refl, sym, ap, ◌∙◌, arith, filter, ◌&&◌, ◌||◌, bytes_eq, Less, is_lt, append_assoc}
use Rattle.misp_lists.specs.Order.{ascend}
use Rattle.misp_lists.proofs.Orders.{front_cmp, in_bytes, itself, less}
use Rattle.misp_lists.proofs.Prelude.{and_parts, bytes_eq-Decides, ordering_then}
use Rattle.std.proofs.lemmas.Bool.{or_cases}
use Rattle.misp_outside.specs.Held.{comes_before, rows_named}
use Rattle.misp_elem.specs.Parents.{event_key}
use Rattle.misp_elem.specs.Spelling.{name, uid}
use Rattle.misp_effects.specs.Prelude.{RawRow}
use Rattle.misp_model.proofs.Prelude.{EventId, OrgId}
use Rattle.misp_model.specs.declared.looks.Look.{Look}
use Rattle.misp_store.specs.Seeking.{rows_at, rows_in_look, rows_of_statements}
use Rattle.misp_store.specs.Seen.{begin_with, kind_front, names_in, place_front}
use Rattle.misp_store.proofs.Cuts.{parts}
use Rattle.misp_store.proofs.LookedNames.{begun}
use Rattle.misp_store.proofs.NamedRows.{by_names, either, ge_from_less, is_at, less_no_ge, not_less}

-- ---- names of one owner

module _ (e : EventId) (o : OrgId) where
  -- it is that of an element at a place of this form, or of a row of this kind
  abbrev pub OfForm : ℕ → List ℕ → Type 0
  OfForm f bytes = (rest : List ℕ) × (bytes ≡ uid o.0 ++ (0 ∷ uid e.0 ++ f ∷ rest))

  abbrev pub OfKind : ℕ → List ℕ → Type 0
  OfKind k bytes = (rest : List ℕ) × (bytes ≡ uid o.0 ++ k ∷ rest)

  -- it is of this kind or a later one
  abbrev pub FromKind : ℕ → List ℕ → Type 0
  FromKind k bytes = (m : ℕ) × ((k ≤ m) × OfKind m bytes)

  -- it is of this form or a later one, or of no element
  abbrev pub FromForm : ℕ → List ℕ → Type 0
  FromForm f bytes = ((g : ℕ) × ((f ≤ g) × OfForm g bytes)) ⊎ FromKind 1 bytes

  behind_owner : (x y : List ℕ) → in_bytes (uid o.0 ++ x) (uid o.0 ++ y) ≡ in_bytes x y
  behind_owner x y = front_cmp (uid o.0) (uid o.0) x y refl ∙ ap (λ t. ordering_then t (in_bytes x y)) (itself (uid o.0))

  kind_less : (k m : ℕ) (x y : List ℕ) → k < m → in_bytes (uid o.0 ++ k ∷ x) (uid o.0 ++ m ∷ y) ≡ Less
  kind_less k m x y lt = behind_owner (k ∷ x) (m ∷ y) ∙ ap (λ t. ordering_then t (in_bytes x y)) (less k m lt)

  form_less : (f g : ℕ) (x y : List ℕ) → f < g → in_bytes (uid o.0 ++ (0 ∷ uid e.0 ++ f ∷ x)) (uid o.0 ++ (0 ∷ uid e.0 ++ g ∷ y)) ≡ Less
  form_less f g x y lt =
      behind_owner (0 ∷ uid e.0 ++ f ∷ x) (0 ∷ uid e.0 ++ g ∷ y)
      ∙ front_cmp (uid e.0) (uid e.0) (f ∷ x) (g ∷ y) refl
      ∙ ap (λ t. ordering_then t (in_bytes (f ∷ x) (g ∷ y))) (itself (uid e.0))
      ∙ ap (λ t. ordering_then t (in_bytes x y)) (less f g lt)

  -- kinds are in order, and before them the forms of elements
  pub kind_first : (k : ℕ) (x y : List ℕ) → OfKind k x → FromKind (k + 1) y → in_bytes x y ≡ Less
  kind_first k x y a later = (λ i. in_bytes (a.1 i) (later.1.1.1 i)) ∙ kind_less k later.0 a.0 later.1.1.0 (omega (arith, later.1.0))

  pub form_first : (f : ℕ) (x y : List ℕ) → OfForm f x → FromForm (f + 1) y → in_bytes x y ≡ Less
  form_first f x y a (inl later) = (λ i. in_bytes (a.1 i) (later.1.1.1 i)) ∙ form_less f later.0 a.0 later.1.1.0 (omega (arith, later.1.0))
  form_first f x y a (inr kind) = (λ i. in_bytes (a.1 i) (kind.1.1.1 i)) ∙ kind_less 0 kind.0 (uid e.0 ++ f ∷ a.0) kind.1.1.0 (omega (arith, kind.1.0))

  pub kind_begun : (k : ℕ) (x : List ℕ) → begin_with (kind_front o e k) x ≡ true → OfKind k x
  kind_begun k x h = let b = begun (kind_front o e k) x h in (uid e.0 ++ b.0, b.1 ∙ append_assoc (uid o.0) (k ∷ uid e.0) b.0)

  pub form_begun : (f : ℕ) (x : List ℕ) → begin_with (place_front o e f) x ≡ true → OfForm f x
  form_begun f x h =
      let b = begun (place_front o e f) x h in
      (b.0, b.1 ∙ append_assoc (kind_front o e 0) (f ∷ []) b.0 ∙ append_assoc (uid o.0) (0 ∷ uid e.0) (f ∷ b.0))

  pub event_named : (x : List ℕ) → bytes_eq x (name o (event_key e)) ≡ true → OfForm 0 x
  unfolding event_key
  event_named x h = ([], (bytes_eq-Decides x (name o (event_key e))).0 h)

-- ---- two parts

-- of an event what has a name of one part or the next is what has one of the first, and then what
-- has one of the next
pub in_two : (e : EventId) (p q : List ℕ → Bool) → ((x y : List ℕ) → p x ≡ true → q y ≡ true → in_bytes x y ≡ Less)
    → (raws : List RawRow) → ascend comes_before raws ≡ true
    → filter (λ raw. is_at e raw && (p raw.name || q raw.name)) raws ≡ filter (λ raw. is_at e raw && p raw.name) raws ++ filter (λ raw. is_at e raw && q raw.name) raws
in_two e p q apart raws up =
    ap (λ (t : RawRow → Bool). filter t raws) (λ i raw. either (is_at e raw) (p raw.name) (q raw.name) i)
    ∙ parts comes_before (λ raw. is_at e raw && p raw.name) (λ raw. is_at e raw && q raw.name)
    (λ a b before h g. less_no_ge a.name b.name
    (by_names e a b (and_parts (is_at e a) (q a.name) h).0 (and_parts (is_at e b) (p b.name) g).0 before)
    (ge_from_less a.name b.name (apart b.name a.name (and_parts (is_at e b) (p b.name) g).1 (and_parts (is_at e a) (q a.name) h).1)))
    (λ a g h. not_less a.name (ap is_lt (apart a.name a.name (and_parts (is_at e a) (p a.name) g).1 (and_parts (is_at e a) (q a.name) h).1)))
    raws up

-- ---- statements

module _ (e : EventId) (o : OrgId) where
  abbrev of_kind : ℕ → List ℕ → Bool
  of_kind k x = begin_with (kind_front o e k) x

  from_kind : (k m : ℕ) (x : List ℕ) → k ≤ m → of_kind m x ≡ true → FromKind e o k x
  from_kind k m x le h = (m, (le, kind_begun e o m x h))

  pub two_kinds : (x : List ℕ) → (of_kind 3 x || of_kind 4 x) ≡ true → FromKind e o 3 x
  two_kinds x h = elim (or_cases (of_kind 3 x) (of_kind 4 x) h) [
    | inl is ↦ from_kind 3 3 x (omega arith) is
    | inr is ↦ from_kind 3 4 x (omega arith) is
  ]

  three_kinds : (x : List ℕ) → (of_kind 2 x || (of_kind 3 x || of_kind 4 x)) ≡ true → FromKind e o 1 x
  three_kinds x h = elim (or_cases (of_kind 2 x) (of_kind 3 x || of_kind 4 x) h) [
    | inl is ↦ from_kind 1 2 x (omega arith) is
    | inr more ↦ let y = two_kinds x more in (y.0, (omega (arith, y.1.0), y.1.1))
  ]

  -- what is of each kind, one after the other
  pub kinds_found : (raws : List RawRow) → ascend comes_before raws ≡ true → rows_named e (kind_front o e 2) raws ++ (rows_named e (kind_front o e 3) raws ++ rows_named e (kind_front o e 4) raws) ≡ rows_of_statements e o raws
  unfolding rows_of_statements rows_named
  kinds_found raws up =
      sym
      (in_two e (of_kind 2) (λ x. of_kind 3 x || of_kind 4 x) (λ x y h k. kind_first e o 2 x y (kind_begun e o 2 x h) (two_kinds y k)) raws up
      ∙ ap (λ t. rows_named e (kind_front o e 2) raws ++ t)
      (in_two e (of_kind 3) (of_kind 4) (λ x y h k. kind_first e o 3 x y (kind_begun e o 3 x h) (from_kind 4 4 y (omega arith) k)) raws up))

  pub statements_found : (raws : List RawRow) → ascend comes_before raws ≡ true → rows_at e (name o (event_key e)) raws ++ rows_of_statements e o raws ≡ rows_in_look Look.Statements e o raws
  unfolding rows_of_statements rows_in_look names_in rows_at
  statements_found raws up =
      sym
      (in_two e (λ x. bytes_eq x (name o (event_key e))) (λ x. of_kind 2 x || (of_kind 3 x || of_kind 4 x))
      (λ x y h k. form_first e o 0 x y (event_named e o x h) (inr (three_kinds y k))) raws up)
