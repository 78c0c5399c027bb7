-- What is looked at from one owner on: the first owner that has a row, and the owners after it.
use Rattle.std.proofs.Common.{◌≡◌, ℕ, ◌+◌, ◌^◌, ◌<◌, ◌≤◌, ◌==◌, List, [], ◌∷◌, ◌++◌, Bool, true, false, inl, inr, refl, sym, ap, ◌∙◌, arith, filter, Some, None, ◌&&◌, ◌||◌, Less, Greater, nat_cmp, is_ge, eqb-true, eq-eqb, leb, append-nil}
use Rattle.std.proofs.lemmas.Bool.{cases_lt}
use Rattle.misp_lists.specs.Order.{ascend}
use Rattle.misp_lists.proofs.Bytes.{IsBytes}
use Rattle.misp_lists.proofs.Lists.{alike, find_passes}
use Rattle.misp_lists.proofs.Orders.{greater, in_bytes, same}
use Rattle.misp_lists.proofs.Prelude.{and_from, and_parts, nat_tests, ordering_then}
use Rattle.misp_outside.specs.Held.{comes_before, is_from, next_row, raw_name}
use Rattle.misp_elem.proofs.KeyOrder.{uid_orders}
use Rattle.misp_elem.specs.Spelling.{uid}
use Rattle.misp_effects.specs.Prelude.{RawRow}
use Rattle.misp_model.specs.declared.looks.Looks.{Looks}
use Rattle.misp_store.specs.Seeking.{is_looked, rows_from, rows_sought}
use Rattle.misp_store.specs.Seen.{is_name_looked, front_number, rows_looked}
use Rattle.misp_store.proofs.Cuts.{from_found, none_found, parts}
use Rattle.misp_store.proofs.Fronts.{number_of_uid, numbers_up, uid_bytes}
use Rattle.misp_store.proofs.LookedNames.{begins, owner_fits}
use Rattle.misp_store.proofs.NamedRows.{by_names, either, ge_from_less, is_at}
use Rattle.misp_store.proofs.OwnersSought.{org, sought_of_owner}

-- ---- numbers

pub leb-from : (m n : ℕ) → m ≤ n → leb m n ≡ true
leb-from m n h = grind (arith, nat_tests)

pub leb-to : (m n : ℕ) → leb m n ≡ true → m ≤ n
leb-to m n h = grind (arith, nat_tests)

from_or_after : (m n : ℕ) → leb m n ≡ ((n == m) || leb (m + 1) n)
from_or_after m n = grind (arith, nat_tests)

-- ---- the bytes of owners

pub no_less : (rest : List ℕ) → is_ge (in_bytes rest []) ≡ true
no_less [] = refl
no_less (x ∷ rest) = refl

-- what begins with an owner that is not less is not before the bytes of the lesser
pub as_great : (w least : ℕ) (rest : List ℕ) → w < 2 ^ 128 → least < 2 ^ 128 → least ≤ w → is_ge (in_bytes (uid (org w).0 ++ rest) (uid (org least).0)) ≡ true
as_great w least rest h k le =
    let whole : in_bytes (uid (org w).0 ++ rest) (uid (org least).0) ≡ ordering_then (nat_cmp w least) (in_bytes rest []) =
    (λ i. in_bytes (uid (org w).0 ++ rest) (sym (append-nil (uid (org least).0)) i)) ∙ uid_orders.by_bytes (org w).0 (org least).0 rest [] h k in
    ap is_ge whole
    ∙ elim (cases_lt least w) [
      | inl lt ↦ ap (λ o. is_ge (ordering_then o (in_bytes rest []))) (greater w least lt)
      | inr ge ↦
          let is : w ≡ least = omega arith in
          ap (λ o. is_ge (ordering_then o (in_bytes rest []))) (ap (λ n. nat_cmp n least) is ∙ same least) ∙ no_less rest
    ]

-- ---- from one owner on

module _ (l : Looks) where
  abbrev is_after : ℕ → RawRow → Bool
  is_after least raw = is_looked l raw && leb least (front_number raw.name)

  -- an owner that is greater is not before a lesser one
  in_order : (a b : RawRow) → is_looked l a ≡ true → is_looked l b ≡ true → in_bytes a.name b.name ≡ Less → front_number b.name < front_number a.name → ⊥
  in_order a b h k before lt =
      let first = (and_parts (is_at l.event a) (is_name_looked l a.name) h).1 in
      let second = (and_parts (is_at l.event b) (is_name_looked l b.name) k).1 in
      let x = begins l a.name first in
      let y = begins l b.name second in
      let compared : in_bytes a.name b.name ≡ Greater =
      (λ i. in_bytes (x.1 i) (y.1 i)) ∙ uid_orders.by_bytes (org (front_number a.name)).0 (org (front_number b.name)).0 x.0 y.0 (owner_fits l a.name first) (owner_fits l b.name second)
      ∙ ap (λ o. ordering_then o (in_bytes x.0 y.0)) (greater (front_number a.name) (front_number b.name) lt) in
      let never : Less ≡ Greater = sym before ∙ compared in
      absurd cc

  module _ (least : ℕ) (fits : least < 2 ^ 128) where
    abbrev sought : RawRow → Bool
    sought raw = is_from l.event (uid (org least).0) (raw_name raw)

    into : (raw : RawRow) → is_after least raw ≡ true → sought raw ≡ true
    into raw h =
        let two = and_parts (is_looked l raw) (leb least (front_number raw.name)) h in
        let both = and_parts (is_at l.event raw) (is_name_looked l raw.name) two.0 in
        let x = begins l raw.name both.1 in
        and_from _ _ both.0
        (ap (λ t. is_ge (in_bytes t (uid (org least).0))) x.1
        ∙ as_great (front_number raw.name) least x.0 (owner_fits l raw.name both.1) fits (leb-to least (front_number raw.name) two.1))

    -- where no name is found, there is no owner from here on
    pub no_owner : (raws : List RawRow) → next_row l.event (uid (org least).0) raws ≡ None → rows_from l (Some least) raws ≡ []
    unfolding next_row rows_from
    no_owner raws next = none_found comes_before sought (is_after least) into raws next

    -- the first owner from here on is that of the name that is found
    pub first_owner : (raws : List RawRow) (f : RawRow) → IsBytes f.name → ascend comes_before raws ≡ true → next_row l.event (uid (org least).0) raws ≡ Some f
        → rows_from l (Some (front_number f.name)) raws ≡ rows_from l (Some least) raws
    unfolding next_row rows_from
    first_owner raws f bytes up next =
        let found : (is_at l.event f ≡ true) × (is_ge (in_bytes f.name (uid (org least).0)) ≡ true) = and_parts _ _ (find_passes sought raws f next) in
        let number : front_number (uid (org least).0) ≡ least = sym (ap front_number (append-nil (uid (org least).0))) ∙ number_of_uid (org least).0 [] fits in
        let great : least ≤ front_number f.name = omega (arith, number, numbers_up f.name (uid (org least).0) (uid_bytes (org least).0) found.1) in
        sym (from_found comes_before sought (is_after least) into (is_after (front_number f.name))
        (λ x h.
        let two = and_parts (is_looked l x) (leb (front_number f.name) (front_number x.name)) h in
        let later : front_number f.name ≤ front_number x.name = leb-to _ _ two.1 in
        and_from _ _ two.0 (leb-from least (front_number x.name) (omega arith)))
        f (λ h. and_from _ _ (and_parts (is_looked l f) (leb least (front_number f.name)) h).0 (leb-from _ _ (omega arith)))
        (λ b before h.
        let looked = (and_parts (is_looked l b) (leb least (front_number b.name)) h).0 in
        let at = (and_parts (is_at l.event b) (is_name_looked l b.name) looked).0 in
        and_from _ _ looked (leb-from _ _ (numbers_up b.name f.name bytes (ge_from_less b.name f.name (by_names l.event f b found.0 at before)))))
        raws up next)

  module _ (m : ℕ) (fits : m < 2 ^ 128) (raws : List RawRow) (up : ascend comes_before raws ≡ true) where
    abbrev is_its : RawRow → Bool
    is_its raw = is_looked l raw && (front_number raw.name == m)

    -- an owner, and those after it
    pub owner_and_more : rows_sought l (org m) raws ++ rows_from l (Some (m + 1)) raws ≡ rows_from l (Some m) raws
    unfolding rows_from
    owner_and_more =
        ap (λ t. t ++ filter (is_after (m + 1)) raws) (sought_of_owner l (org m) fits raws)
        ∙ sym (parts comes_before is_its (is_after (m + 1))
        (λ a b before h g.
        let one = and_parts (is_looked l a) (leb (m + 1) (front_number a.name)) h in
        let two = and_parts (is_looked l b) (front_number b.name == m) g in
        let later : m + 1 ≤ front_number a.name = leb-to _ _ one.1 in
        let number : front_number b.name ≡ m = eqb-true _ _ two.1 in
        in_order a b one.0 two.0
        (by_names l.event a b (and_parts (is_at l.event a) (is_name_looked l a.name) one.0).0 (and_parts (is_at l.event b) (is_name_looked l b.name) two.0).0 before)
        (omega arith))
        (λ a g h.
        let number : front_number a.name ≡ m = eqb-true _ _ (and_parts (is_looked l a) (front_number a.name == m) g).1 in
        let later : m + 1 ≤ front_number a.name = leb-to _ _ (and_parts (is_looked l a) (leb (m + 1) (front_number a.name)) h).1 in
        absurd (omega arith))
        raws up)
        ∙ sym (ap (λ (p : RawRow → Bool). filter p raws) (λ i raw. (ap (λ t. is_looked l raw && t) (from_or_after m (front_number raw.name)) ∙ either (is_looked l raw) (front_number raw.name == m) (leb (m + 1) (front_number raw.name))) i))

    -- the last owner
    pub last_owner : 2 ^ 128 ≤ m + 1 → rows_sought l (org m) raws ≡ rows_from l (Some m) raws
    unfolding rows_from
    last_owner last =
        sought_of_owner l (org m) fits raws
        ∙ ap (λ (p : RawRow → Bool). filter p raws) (λ i raw. alike (is_its raw) (is_after m raw) (forth raw) (back raw) i)
      where
        forth : (raw : RawRow) → is_its raw ≡ true → is_after m raw ≡ true
        forth raw h =
            let two = and_parts (is_looked l raw) (front_number raw.name == m) h in
            let number : front_number raw.name ≡ m = eqb-true _ _ two.1 in
            and_from _ _ two.0 (leb-from m (front_number raw.name) (omega arith))

        back : (raw : RawRow) → is_after m raw ≡ true → is_its raw ≡ true
        back raw h =
            let two = and_parts (is_looked l raw) (leb m (front_number raw.name)) h in
            let below = owner_fits l raw.name (and_parts (is_at l.event raw) (is_name_looked l raw.name) two.0).1 in
            let later : m ≤ front_number raw.name = leb-to _ _ two.1 in
            and_from _ _ two.0 (eq-eqb (front_number raw.name) m (omega arith))

  -- from the least owner on it is all that is looked at
  pub from_first : (raws : List RawRow) → rows_from l (Some 0) raws ≡ rows_looked l raws
  unfolding rows_from rows_looked
  from_first raws = ap (λ (p : RawRow → Bool). filter p raws) (λ i raw. (ap (λ t. is_looked l raw && t) (leb-from 0 (front_number raw.name) (omega arith)) ∙ and_true (is_looked l raw)) i)
    where
      and_true : (b : Bool) → (b && true) ≡ b
      and_true true = refl
      and_true false = refl
