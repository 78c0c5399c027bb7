-- A table after a key is inserted, and after that is undone.
use Rattle.std.proofs.Common.{◌≡◌, ℕ, Bool, true, false, not, List, [], ◌∷◌, ◌++◌, length, map, Option, None, Some, is_none, refl, sym, ap, ◌∙◌, ◌⊎◌, inl, inr, arith, Ordering, Less, Equal, Greater, is_lt, is_eq, nat_cmp, filter}
use Rattle.std.proofs.Common.{true≢false}
use Rattle.std.specs.Cmp.Lexicographic.{lists_total}
use Rattle.std.specs.Global.{Vec}
use Rattle.std.specs.Cmp.{then_total}
use Rattle.std.specs.BTreeMap.{is_at}
use Rattle.std.proofs.lemmas.Map.{lookup-none}
use Rattle.std.proofs.lemmas.Map.Entries.{none_below_head}
use Rattle.misp_lists.proofs.Prelude.{AllByRecursion, IsStrictlySortedBy, IsTotalOrder, and_from, ascend, cases_Bool, insert_entry, keys_of, list_all, lookup, nat_cmp_total, on_total, ordering_reverse, ordering_then, put, slice_cmp}
use Rattle.misp_outside.specs.Stored.{key_order, set_back, undone}
use Rattle.misp_outside.proofs.Places.{put_below, put_above, put_over}

three : (o : Ordering) → (o ≡ Less) ⊎ ((o ≡ Equal) ⊎ (o ≡ Greater))
three Less = inl refl
three Equal = inr (inl refl)
three Greater = inr (inr refl)

-- what is its own reverse is equal
own_reverse : (o : Ordering) → o ≡ ordering_reverse o → o ≡ Equal
own_reverse Less same = absurd cc
own_reverse Equal same = refl
own_reverse Greater same = absurd cc

-- ---- undoing

-- an entry that does not pass stays in front
set_back_behind : {K X : Type 0} (test : K → Bool) (there : Option X) (e : K × X) (es : List (K × X)) → test e.0 ≡ false → set_back test there (e ∷ es) ≡ e ∷ set_back test there es
set_back_behind test None e es miss = rw miss refl
set_back_behind test (Some x) e es miss = rw miss refl

-- where no key passes, no value is set back
pub none_to_set : {K X : Type 0} (test : K → Bool) (x : X) (es : List (K × X)) → None ≡ lookup test es → set_back test (Some x) es ≡ es
none_to_set test x [] none = refl
none_to_set test x (e ∷ es) none = elim (cases_Bool (test e.0)) [
  | inl hit ↦ absurd (true≢false (ap is_none (rw hit at none)))
  | inr miss ↦ rw miss (ap (λ rest. e ∷ rest) (none_to_set test x es (rw miss at none)))
]

-- the last that was put is undone first
pub undone_last : {K X : Type 0} (order : K → K → Ordering) (before : List (K × Option X)) (last : K × Option X) (es : List (K × X)) → undone order (before ++ last ∷ []) es ≡ undone order before (set_back (is_at (order last.0)) last.1 es)
unfolding undone
undone_last order [] last es = refl
undone_last order (first ∷ rest) last es = ap (set_back (is_at (order first.0)) first.1) (undone_last order rest last es)

-- where nothing was put, nothing is undone
pub none_undone : {K X : Type 0} (order : K → K → Ordering) (before : List (K × Option X)) (es : List (K × X)) → length before ≡ 0 → undone order before es ≡ es
unfolding undone
none_undone order [] es none = refl
none_undone order (first ∷ rest) es none = absurd (omega (arith, none))

-- with all undone that was put after nothing was noted, the entries are as before
pub all_undone : {K X : Type 0} (order : K → K → Ordering) (start noted : List (K × Option X)) (es after back : List (K × X)) → start ≡ [] → undone order noted after ≡ undone order start es → back ≡ undone order noted after → back ≡ es
unfolding undone
all_undone order start noted es after back none undo is = is ∙ undo ∙ ap (λ before. undone order before es) none

-- keys with the same number and bytes are the same in the order
pub same_keys : {N : Type 0} (order : N → N → Ordering) (n : N) (a b : Vec ℕ) → a.items ≡ b.items → key_order order (n, a) ≡ key_order order (n, b)
same_keys order n a b same = ap (λ items key. ordering_then (order n key.0) (slice_cmp nat_cmp items key.1.items)) same

-- and the order of keys is total where that of numbers is
pub keys_total : {N : Type 0} (order : N → N → Ordering) → IsTotalOrder order → IsTotalOrder (key_order order)
keys_total order total = then_total (on_total (λ key. key.0) total) (on_total (λ key. key.1.items) (lists_total nat_cmp_total))

module _ {K X : Type 0} (R : K → K → Ordering) (total : IsTotalOrder R) where
  -- with what was there set back, the entries are as before
  pub set_back_inserted : (es : List (K × X)) (key : K) (x : X) (there : Option X) → IsStrictlySortedBy R (keys_of es) → there ≡ lookup (is_at (R key)) es → set_back (is_at (R key)) there (insert_entry R es key x) ≡ es
  unfolding IsStrictlySortedBy
  set_back_inserted [] key x there up is = rw (is, own_reverse _ (total.antisymm key key)) refl
  set_back_inserted (e ∷ es) key x there up is = elim (three (R key e.0)) [
    | inl less ↦ rw (less, is ∙ lookup-none (is_at (R key)) (e ∷ es) (none_below_head total key e es up less), own_reverse _ (total.antisymm key key)) refl
    | inr (inl equal) ↦ rw (equal, (rw equal at is), equal) refl
    | inr (inr greater) ↦ rw greater (set_back_behind (is_at (R key)) there e (insert_entry R es key x) (ap is_eq greater) ∙ ap (λ rest. e ∷ rest) (set_back_inserted es key x there up.1 (rw greater at is)))
  ]

  -- a key that is put, with what was there noted, is undone with the others
  pub undone_put : (before noted : List (K × Option X)) (key place : K) (x : X) (there : Option X) (es after : List (K × X)) → IsStrictlySortedBy R (keys_of es) → R place ≡ R key
      → there ≡ lookup (is_at (R key)) es → after ≡ insert_entry R es key x → noted ≡ before ++ (place, there) ∷ [] → undone R noted after ≡ undone R before es
  undone_put before noted key place x there es after up same is put note =
      ap (λ list. undone R list after) note ∙ undone_last R before (place, there) after
      ∙ ap (undone R before) (ap (λ compare. set_back (is_at compare) there after) same ∙ ap (set_back (is_at (R key)) there) put ∙ set_back_inserted es key x there up is)

-- ---- the rows of a table

-- each entry gives a row, and rows are in the order of their keys, which tells all but equal ones apart
module _ {K X A : Type 0} (R : K → K → Ordering) (total : IsTotalOrder R) (row : K × X → A) (order : A → A → Ordering) (rows_total : IsTotalOrder order)
    (by_keys : (e f : K × X) → R e.0 f.0 ≡ order (row e) (row f)) (exact : (k q : K) (x : X) → R k q ≡ Equal → row (q, x) ≡ row (k, x)) where
  abbrev before : A → A → Bool
  before a b = is_lt (order a b)

  -- a row comes before those of greater keys
  before_all : (e : K × X) (es : List (K × X)) → AllByRecursion (λ q. R e.0 q ≡ Less) (keys_of es) → list_all (before (row e)) (map row es) ≡ true
  before_all e [] all = refl
  before_all e (f ∷ es) all = and_from _ _ (ap is_lt (sym (by_keys e f) ∙ all.0)) (before_all e es all.1)

  -- rows ascend as keys do
  pub rows_ascend : (es : List (K × X)) → IsStrictlySortedBy R (keys_of es) → ascend before (map row es) ≡ true
  unfolding ascend IsStrictlySortedBy
  rows_ascend [] up = refl
  rows_ascend (e ∷ es) up = and_from _ _ (before_all e es up.0) (rows_ascend es up.1)

  -- what is after a greater key is greater
  above : (key k : K) (ks : List K) → R key k ≡ Less → AllByRecursion (λ q. R k q ≡ Less) ks → AllByRecursion (λ q. R key q ≡ Less) ks
  above key k [] less all = tt
  above key k (q ∷ ks) less all = (total.trans key k q less all.0, above key k ks less all.1)

  -- and what is after an equal one
  above_equal : (key k : K) (ks : List K) → R key k ≡ Equal → AllByRecursion (λ q. R k q ≡ Less) ks → AllByRecursion (λ q. R key q ≡ Less) ks
  above_equal key k [] equal all = tt
  above_equal key k (q ∷ ks) equal all = (total.congr key k q equal ∙ all.0, above_equal key k ks equal all.1)

  turned : (e f : K × X) (o : Ordering) → R e.0 f.0 ≡ o → order (row f) (row e) ≡ ordering_reverse o
  turned e f o is = rows_total.antisymm (row f) (row e) ∙ ap ordering_reverse (sym (by_keys e f) ∙ is)

  -- a row in its place, and no other that is equal
  abbrev placed : A → List A → List A
  placed a rows = put before a (filter (λ held. not (is_eq (order held a))) rows)

  -- the row of a key that is inserted is in its place
  pub rows_inserted : (es : List (K × X)) (key : K) (x : X) → IsStrictlySortedBy R (keys_of es) → map row (insert_entry R es key x) ≡ placed (row (key, x)) (map row es)
  unfolding IsStrictlySortedBy put
  rows_inserted [] key x up = refl
  rows_inserted (e ∷ es) key x up = elim (three (R key e.0)) [
    | inl less ↦ rw less (sym (put_below order rows_total (row (key, x)) (map row (e ∷ es)) (before_all (key, x) (e ∷ es) (less, above key e.0 (keys_of es) less up.0))))
    | inr (inl equal) ↦ rw equal (ap (λ a. a ∷ map row es) (exact key e.0 x equal)
        ∙ sym (put_over order rows_total (row (key, x)) (row e) (map row es) (before_all (key, x) es (above_equal key e.0 (keys_of es) equal up.0)) (turned (key, x) e Equal equal)))
    | inr (inr greater) ↦ rw greater (ap (λ rest. row e ∷ rest) (rows_inserted es key x up.1)
        ∙ sym (put_above order rows_total (row (key, x)) (row e) (map row es) (turned (key, x) e Greater greater)))
  ]
