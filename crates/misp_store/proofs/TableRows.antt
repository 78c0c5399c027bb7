-- Rows that a keeper tells in the order of their names are a table.
use Rattle.std.proofs.Common.{◌≡◌, ℕ, List, [], ◌∷◌, Bool, true, false, refl, sym, ap, subst, ◌∙◌, ◌++◌, cond, Option, Some, None, Result, Ok, Err, IfSome, IsTrue, Ordering, Less, Equal, Greater, is_lt, eqb-true}
use Rattle.misp_lists.specs.Order.{ascend}
use Rattle.misp_outside.specs.declared.row.RawRow.{RawRow}
use Rattle.misp_outside.specs.Held.{Held, name_order, raw_name, comes_before}
use Rattle.misp_outside.proofs.Names.{names_total}
use Rattle.misp_elem.specs.Prelude.{key, row_of}
use Rattle.misp_model.proofs.Prelude.{AllByRecursion, IsDistinct, IsTable, Row, and_parts, bytes_eq-Decides, event_of, false_from_ne_true, false≢true, in_one_cell, list_all, name_bytes, ordering_reverse, same_event, same_key}
use Rattle.misp_model.proofs.Prelude.{same_key-sound, same_org, same_org-sound, uid}
use Rattle.misp_store.specs.Raw.{stands_under, row_read, row_in, onto, rows_in}

-- nothing comes before what has its name
level : (o : Ordering) → o ≡ ordering_reverse o → is_lt o ≡ false
level Less e = absurd cc
level Equal e = refl
level Greater e = refl

not_before : (a b : RawRow) → raw_name a ≡ raw_name b → comes_before a b ≡ false
unfolding comes_before
not_before a b e = ap (λ n. is_lt (name_order n (raw_name b))) e ∙ level _ (names_total.antisymm (raw_name b) (raw_name b))

-- what is read there stands under its event and name
read_under : (raw : RawRow) (read : Result Row ℕ) (r : Row) → row_read raw read ≡ Some r → stands_under raw r ≡ true
read_under raw (Err left) r e = absurd cc
read_under raw (Ok x) r e = one (stands_under raw x) refl e
  where
    one : (b : Bool) → stands_under raw x ≡ b → cond b (Some x) None ≡ Some r → stands_under raw r ≡ true
    one true k f = let same : x ≡ r = cc in ap (stands_under raw) (sym same) ∙ k
    one false k f = absurd cc

-- what a row stands under
abbrev own_name : Row → ℕ × List ℕ
own_name r = ((event_of r.key).0.0, name_bytes r)

name_is : (raw : RawRow) (r : Row) → row_in raw ≡ Some r → raw_name raw ≡ own_name r
unfolding row_in stands_under same_event
name_is raw r e =
    let both = and_parts _ _ (read_under raw (row_of raw.bytes) r e) in
    λ i. (sym (eqb-true _ _ both.0) i, (bytes_eq-Decides raw.name (name_bytes r)).0 both.1 i)

-- rows of one owner and key have one name
one_name : (x y : Row) → in_one_cell x y ≡ true → own_name x ≡ own_name y
unfolding in_one_cell name_bytes
one_name x y h =
    let two : (same_org x.owner y.owner ≡ true) × (same_key x.key y.key ≡ true) = and_parts _ _ h in
    λ i. ((event_of (same_key-sound _ _ two.1 i)).0.0, uid (same_org-sound _ _ two.0 i).0 ++ key (same_key-sound _ _ two.1 i))

apart : (a b : RawRow) (x y : Row) → row_in a ≡ Some x → row_in b ≡ Some y → comes_before a b ≡ true → in_one_cell x y ≡ false
apart a b x y f g h = false_from_ne_true _ (λ c. false≢true (sym (not_before a b (name_is a x f ∙ one_name x y c ∙ sym (name_is b y g))) ∙ h))

-- the first row and the others
pub onto_parts : (name : List ℕ) (found : Option Row) (others : Result (List Row) (List ℕ)) (rows : List Row) → onto name found others ≡ Ok rows
    → (p : Row × List Row) × (found ≡ Some p.0) × (others ≡ Ok p.1) × (p.0 ∷ p.1 ≡ rows)
onto_parts name None others rows e = absurd cc
onto_parts name (Some x) (Err first) rows e = absurd cc
onto_parts name (Some x) (Ok rest) rows e = ((x, rest), refl, refl, cc)

all_apart : (a : RawRow) (x : Row) → row_in a ≡ Some x → (raws : List RawRow) (rows : List Row) → rows_in raws ≡ Ok rows → list_all (comes_before a) raws ≡ true
    → AllByRecursion (λ y. in_one_cell x y ≡ false) rows
unfolding rows_in
all_apart a x f [] [] e h = tt
all_apart a x f [] (y ∷ rows) e h = absurd cc
all_apart a x f (b ∷ raws) rows e h =
    let p = onto_parts b.name (row_in b) (rows_in raws) rows e in
    let two : (comes_before a b ≡ true) × (list_all (comes_before a) raws ≡ true) = and_parts _ _ h in
    subst (AllByRecursion (λ y. in_one_cell x y ≡ false)) p.3 (apart a b x p.0.0 f p.1 two.0, all_apart a x f raws p.0.1 p.2 two.1)

pub rows_are_table : (raws : List RawRow) (rows : List Row) → rows_in raws ≡ Ok rows → ascend comes_before raws ≡ true → IsTable rows
unfolding rows_in ascend IsDistinct
rows_are_table [] [] e h = tt
rows_are_table [] (y ∷ rows) e h = absurd cc
rows_are_table (a ∷ raws) rows e h =
    let p = onto_parts a.name (row_in a) (rows_in raws) rows e in
    let two : (list_all (comes_before a) raws ≡ true) × (ascend comes_before raws ≡ true) = and_parts _ _ h in
    subst IsTable p.3 (all_apart a p.0.0 p.1 raws p.0.1 p.2 two.0, rows_are_table raws p.0.1 p.2 two.1)

-- where a keeper tells them so
pub told_table : (held : Option Held) (raws : List RawRow) (rows : List Row) → IfSome held (λ told. IsTrue (ascend comes_before raws)) → rows_in raws ≡ Ok rows → IfSome held (λ told. IsTable rows)
told_table None raws rows up e = tt
told_table (Some told) raws rows up e = rows_are_table raws rows e up
