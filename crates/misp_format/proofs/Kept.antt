-- What a row gives is what its reader gives, and each reader gives only what fits.
use Rattle.std.proofs.Common.{◌≡◌, ℕ, ◌<◌, zero, suc, Bool, true, false, ◌&&◌, List, [], ◌∷◌, Option, Some, None, Result, Ok, Err, refl, subst, arith, lit<, codes, nat_le, position, ◌==◌, if◌then◌else◌, bytes_eq}
use Rattle.std.proofs.lemmas.List.Quantifiers.{position-Some}
use Rattle.misp_lists.proofs.Prelude.{bind_keeps, list_any, nat_tests, ok_keeps, option_map_or}
use Rattle.misp_fields.specs.Fields.{or_need, date_text_of}
use Rattle.misp_elem.specs.Draft.{IsOptionalDate}
use Rattle.misp_elem.specs.Fields.{is_date, IsDate}
use Rattle.misp_format.specs.Prelude.{Body, Data, Label, Need, category_of, label_at, label_kind, member_of, number_of, number_within, some_date_of, string, text_of}
use Rattle.misp_format.specs.Kinds.{category_texts, category_in_text}
use Rattle.misp_format.specs.Labels.{named_group_at, numbered_at}
use Rattle.misp_format.specs.Readers.{within, some_in}
use Rattle.misp_format.specs.Rows.{at, row}

-- ---- rows

at_ok : {A : Type 0} (it : Body) (name : List ℕ) (read : Result A Need) (x : A) → at it name read ≡ Ok x → read ≡ Ok x
at_ok it name (Ok y) x h = cc
at_ok it name (Err need) x h = absurd cc

chosen_keeps : {A : Type 0} (P : A → Type 0) (reader : Data → Result A Need) (absent : Result A Need) (o : Option Data)
    → ((d : Data) (x : A) → reader d ≡ Ok x → P x) → ((x : A) → absent ≡ Ok x → P x)
    → (x : A) → option_map_or reader o absent ≡ Ok x → P x
chosen_keeps P reader absent None there absent_fits x h = absent_fits x h
chosen_keeps P reader absent (Some d) there absent_fits x h = there d x h

-- what holds of all that a reader gives, and of what counts where the member is absent, holds of what a row gives
pub row_keeps : {A : Type 0} (P : A → Type 0) (it : Body) (name : List ℕ) (reader : Data → Result A Need) (absent : Result A Need)
    → ((d : Data) (x : A) → reader d ≡ Ok x → P x) → ((x : A) → absent ≡ Ok x → P x)
    → (x : A) → row it name reader absent ≡ Ok x → P x
row_keeps P it name reader absent there absent_fits x h =
    chosen_keeps P reader absent (member_of name it.value) there absent_fits x (at_ok it name _ x h)

-- a member that must be there has no other value
pub must_be_there : {A : Type 0} (P : A → Type 0) (x : A) (need : Need) → Err need ≡ Ok x → P x
must_be_there P x need h = absurd cc

-- ---- choices

pub choice_keeps : {A : Type 0} (P : A → Type 0) (b : Bool) (first second : Result A Need)
    → (b ≡ true → (x : A) → first ≡ Ok x → P x) → (b ≡ false → (x : A) → second ≡ Ok x → P x)
    → (x : A) → (if b then first else second) ≡ Ok x → P x
choice_keeps P true first second p q x h = p refl x h
choice_keeps P false first second p q x h = q refl x h

-- ---- readers

within_ok : (least most : ℕ) (r : Result ℕ Need) (x : ℕ) → within least most r ≡ Ok x → (nat_le least x && nat_le x most) ≡ true
within_ok least most (Ok n) x h = choice_keeps (λ y. (nat_le least y && nat_le y most) ≡ true) (nat_le least n && nat_le n most) (Ok n) (Err Need.Range) (λ holds y is. cc) (λ fails y is. absurd cc) x h
within_ok least most (Err need) x h = absurd cc

some_in_ok : (r : Result (List ℕ) Need) (x : Option (List ℕ)) → ((y : List ℕ) → r ≡ Ok y → IsDate y) → some_in r ≡ Ok x → IsOptionalDate x
some_in_ok (Ok s) x day h =
    let e : Some s ≡ x = cc in
    subst IsOptionalDate e (day s refl)
some_in_ok (Err need) x day h = absurd cc

date_ok : (d : Data) (x : List ℕ) → date_text_of d ≡ Ok x → IsDate x
date_ok (string s) x h = choice_keeps IsDate (is_date s) (Ok s) (Err Need.Date) (λ holds y is. let e : s ≡ y = cc in subst IsDate e holds) (λ fails y is. absurd cc) x h
date_ok _ x h = absurd cc

pub some_date_ok : (d : Data) (x : Option (List ℕ)) → some_date_of d ≡ Ok x → IsOptionalDate x
some_date_ok d x h = some_in_ok (date_text_of d) x (date_ok d) h

pub number_ok : (least most : ℕ) (d : Data) (x : ℕ) → number_within least most d ≡ Ok x → (nat_le least x && nat_le x most) ≡ true
number_ok least most d x h = within_ok least most (number_of d) x h

-- ---- labels

abbrev Owned : Label → Type 0
Owned label = (label_kind label == 5) ≡ false

-- by a number below 5 no label inherits
numbered_owned : (it : Body) (n : ℕ) (x : Label) → n < 5 → numbered_at it n ≡ Ok x → Owned x
numbered_owned it zero x below h = ok_keeps Owned Label.Own refl x h
numbered_owned it (suc zero) x below h = ok_keeps Owned Label.Community refl x h
numbered_owned it (suc (suc zero)) x below h = ok_keeps Owned Label.Connected refl x h
numbered_owned it (suc (suc (suc zero))) x below h = ok_keeps Owned Label.All refl x h
numbered_owned it (suc (suc (suc (suc zero)))) x below h = bind_keeps Owned (named_group_at it) _ (λ group is. ok_keeps Owned (Label.Group group) refl) x h
numbered_owned it (suc (suc (suc (suc (suc n))))) x below h = absurd (omega arith)

below_5 : (n : ℕ) → (nat_le 0 n && nat_le n 4) ≡ true → n < 5
below_5 n h = grind (arith, nat_tests)

-- an event's label does not inherit
pub label_owned : (it : Body) (x : Label) → label_at it 4 0 ≡ Ok x → (label_kind x == 5) ≡ false
unfolding label_at
label_owned it x h =
    bind_keeps Owned (row it (codes "distribution") (number_within 0 4) (Ok 0)) (numbered_at it) (λ n is y given. numbered_owned it n y (below n is) given) x h
  where
    below : (n : ℕ) → row it (codes "distribution") (number_within 0 4) (Ok 0) ≡ Ok n → n < 5
    below n is =
        row_keeps (λ m. m < 5) it (codes "distribution") (number_within 0 4) (Ok 0) (λ d m fits. below_5 m (number_ok 0 4 d m fits))
        (ok_keeps (λ m. m < 5) 0 (lit< tt)) n is

pub not_inherited : (x : Label) → (label_kind x == 5) ≡ false → list_any (λ kind. kind == label_kind x) (5 ∷ []) ≡ false
not_inherited Label.Inherit h = absurd cc
not_inherited _ h = refl

-- ---- categories

-- the number of a category is below 16
named_below : (o : Option ℕ) (x : ℕ) → ((i : ℕ) → o ≡ Some i → i < 16) → or_need Need.Range o ≡ Ok x → (nat_le 0 x && nat_le x 15) ≡ true
named_below None x below h = absurd cc
named_below (Some i) x below h =
    let e : i ≡ x = cc in
    let small : i < 16 = below i refl in
    subst (λ (n : ℕ). (nat_le 0 n && nat_le n 15) ≡ true) e (grind (arith, nat_tests))

category_below : (r : Result (List ℕ) Need) (x : ℕ) → category_in_text r ≡ Ok x → (nat_le 0 x && nat_le x 15) ≡ true
category_below (Ok text) x h = named_below (position (λ name. bytes_eq name text) category_texts) x (λ i is. (position-Some (λ name. bytes_eq name text) category_texts i [] is).0) h
category_below (Err need) x h = absurd cc

pub category_ok : (d : Data) (x : ℕ) → category_of d ≡ Ok x → (nat_le 0 x && nat_le x 15) ≡ true
category_ok d x h = category_below (text_of d) x h
