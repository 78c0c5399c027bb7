-- What is sought in what a keeper reports, where it reports it: what is found so far, and what is left.
use Rattle.std.proofs.Common.{◌≡◌, ℕ, ◌+◌, ◌-◌, ◌^◌, ◌<◌, ◌≤◌, max, List, [], ◌∷◌, ◌++◌, inl, inr, refl, sym, ap, ◌∙◌, ◌⊎◌, arith, filter, drop, length, get_or, Option, Some, None, IfSome, IsTrue, SomeIff, bytes_eq, append-nil, append_assoc}
use Rattle.std.specs.Int.{w128, to_be_bytes}
use Rattle.std.proofs.lemmas.Bool.{cases_lt}
use Rattle.std.proofs.lemmas.List.{drop_all, drop_more}
use Rattle.misp_lists.specs.Order.{ascend}
use Rattle.misp_lists.proofs.Bytes.{IsBytes}
use Rattle.misp_lists.proofs.Lists.{none_not_some}
use Rattle.misp_lists.proofs.Ordering.{ascend_kept}
use Rattle.misp_outside.specs.Held.{Held, comes_before, next_row, rows_named}
use Rattle.misp_outside.specs.Reporting.{StaysHeld}
use Rattle.misp_outside.proofs.Reporting.{known_still}
use Rattle.misp_elem.specs.Spelling.{name, uid}
use Rattle.misp_effects.specs.Prelude.{RawRow}
use Rattle.misp_model.proofs.Prelude.{EventId, Key, OrgId}
use Rattle.misp_model.specs.declared.looks.Looks.{Looks}
use Rattle.misp_store.specs.Seeking.{ends_among, rows_at, rows_ending, rows_from, rows_of_keys, rows_sought}
use Rattle.misp_store.specs.Seen.{front_number, rows_looked}
use Rattle.misp_store.proofs.NamedRows.{row_found, row_missing}
use Rattle.misp_store.proofs.OwnersSought.{org}
use Rattle.misp_store.proofs.OwnerSteps.{first_owner, from_first, last_owner, no_owner, owner_and_more}

-- where it is known, what is held ascends
abbrev pub Ascends : Option Held → Type 0
Ascends held = IfSome held (λ told. IsTrue (ascend comes_before told.rows))

-- so does what stays
pub ascends_still : (held after : Option Held) → StaysHeld held after → Ascends held → Ascends after
ascends_still held after same up = known_still held after (λ told. IsTrue (ascend comes_before told.rows)) same up

-- ---- one name

-- the row that is found, where this is its name
pub row_added : (held : Option Held) (e : EventId) (bytes : List ℕ) (next : Option RawRow) (row : RawRow) (start now : List RawRow)
    → IfSome held (λ told. next ≡ next_row e bytes told.rows) → Ascends held → next ≡ Some row → now ≡ start ++ filter (λ raw. bytes_eq raw.name bytes) (row ∷ [])
    → IfSome held (λ told. now ≡ start ++ rows_at e bytes told.rows)
row_added None e bytes next row start now found up some is = tt
row_added (Some told) e bytes next row start now found up some is = is ∙ ap (λ t. start ++ t) (sym (row_found e bytes told.rows row up (sym found ∙ some)))

-- and where none is found
pub row_absent : (held : Option Held) (e : EventId) (bytes : List ℕ) (next : Option RawRow) (start : List RawRow)
    → IfSome held (λ told. next ≡ next_row e bytes told.rows) → next ≡ None → IfSome held (λ told. start ≡ start ++ rows_at e bytes told.rows)
row_absent None e bytes next start found none = tt
row_absent (Some told) e bytes next start found none = sym (append-nil start) ∙ ap (λ t. start ++ t) (sym (row_missing e bytes told.rows (sym found ∙ none)))

-- ---- some keys

-- what is found, before the rows of the keys that are left
abbrev pub KeysFound : Option Held → EventId → OrgId → List RawRow → List Key → List RawRow → List Key → Type 0
KeysFound held e o start keys found left = IfSome held (λ told. found ++ rows_of_keys e o left told.rows ≡ start ++ rows_of_keys e o keys told.rows)

pub first_key : (e : EventId) (o : OrgId) (k : Key) (ks : List Key) (raws : List RawRow) → rows_of_keys e o (k ∷ ks) raws ≡ rows_at e (name o k) raws ++ rows_of_keys e o ks raws
unfolding rows_of_keys
first_key e o k ks raws = refl

pub no_key : (e : EventId) (o : OrgId) (raws : List RawRow) → rows_of_keys e o [] raws ≡ []
unfolding rows_of_keys
no_key e o raws = refl

module _ (e : EventId) (o : OrgId) (start : List RawRow) (keys : List Key) (i : ℕ) where
  pub keys_next : (held after : Option Held) (k : Key) (bytes : List ℕ) (found now : List RawRow) → i < length keys → k ≡ get_or keys i k → bytes ≡ name o k → StaysHeld held after
      → KeysFound held e o start keys found (drop i keys) → IfSome after (λ told. now ≡ found ++ rows_at e bytes told.rows) → KeysFound after e o start keys now (drop (i + 1) keys)
  keys_next held None k bytes found now inside here is same so_far added = tt
  keys_next held (Some told) k bytes found now inside here is same so_far added =
      ap (λ t. t ++ rows_of_keys e o (drop (i + 1) keys) told.rows) (added ∙ ap (λ b. found ++ rows_at e b told.rows) is)
      ∙ append_assoc found (rows_at e (name o k) told.rows) (rows_of_keys e o (drop (i + 1) keys) told.rows)
      ∙ ap (λ t. found ++ t) (sym (first_key e o k (drop (i + 1) keys) told.rows) ∙ ap (λ ks. rows_of_keys e o ks told.rows) (sym first))
      ∙ known_still held (Some told) (λ told. found ++ rows_of_keys e o (drop i keys) told.rows ≡ start ++ rows_of_keys e o keys told.rows) same so_far
    where
      first : drop i keys ≡ k ∷ drop (i + 1) keys
      first = drop_more keys i k inside ∙ ap (λ x. x ∷ drop (i + 1) keys) (sym here)

  pub keys_done : (held : Option Held) (found : List RawRow) → length keys ≤ i → KeysFound held e o start keys found (drop i keys) → IfSome held (λ told. found ≡ start ++ rows_of_keys e o keys told.rows)
  keys_done None found past so_far = tt
  keys_done (Some told) found past so_far = sym (append-nil found) ∙ ap (λ t. found ++ t) (sym (ap (λ ks. rows_of_keys e o ks told.rows) (drop_all i keys past) ∙ no_key e o told.rows)) ∙ so_far

-- ---- one part after the other

-- what is found in one part, and then in the next
pub joined : (held after : Option Held) (f g : List RawRow → List RawRow) (start mid now : List RawRow) → StaysHeld held after
    → IfSome held (λ told. mid ≡ start ++ f told.rows) → IfSome after (λ told. now ≡ mid ++ g told.rows) → IfSome after (λ told. now ≡ start ++ (f told.rows ++ g told.rows))
joined held None f g start mid now same first next = tt
joined held (Some told) f g start mid now same first next =
    next ∙ ap (λ t. t ++ g told.rows) (known_still held (Some told) (λ told. mid ≡ start ++ f told.rows) same first) ∙ append_assoc start (f told.rows) (g told.rows)

-- what begins so and ends with one of the numbers
pub ending_added : (held : Option Held) (e : EventId) (front : List ℕ) (ns : List ℕ) (rows kept start now : List RawRow)
    → IfSome held (λ told. rows ≡ rows_named e front told.rows) → kept ≡ filter (ends_among ns) rows → now ≡ start ++ kept → IfSome held (λ told. now ≡ start ++ rows_ending e front ns told.rows)
unfolding rows_ending
ending_added None e front ns rows kept start now found ends added = tt
ending_added (Some told) e front ns rows kept start now found ends added = added ∙ ap (λ t. start ++ t) (ends ∙ ap (filter (ends_among ns)) found)

-- ---- one owner after the other

-- the number after that of an owner, or none
abbrev pub IsAfter : ℕ → Option ℕ → Type 0
IsAfter m next = (next ≡ Some (m + 1)) ⊎ ((next ≡ None) × (2 ^ 128 ≤ m + 1))

pub after_of : (m : ℕ) (next : Option ℕ) → SomeIff next (m + 1 < 2 ^ 128) (m + 1) → IsAfter m next
after_of m None h = inr (refl, elim (cases_lt (m + 1) (2 ^ 128)) [ inl lt ↦ absurd (h lt) | inr ge ↦ ge ])
after_of m (Some x) h = inl (ap Some h.1)

module _ (l : Looks) where
  from_none : (raws : List RawRow) → rows_from l None raws ≡ []
  unfolding rows_from
  from_none raws = refl

  -- the first owner that has a row
  pub owner_next : (held : Option Held) (least : ℕ) (next : Option RawRow) (row : RawRow) → least < 2 ^ 128 → IsBytes row.name
      → IfSome held (λ told. next ≡ next_row l.event (uid (org least).0) told.rows) → Ascends held → next ≡ Some row
      → IfSome held (λ told. rows_from l (Some (front_number row.name)) told.rows ≡ rows_from l (Some least) told.rows)
  owner_next None least next row fits bytes found up some = tt
  owner_next (Some told) least next row fits bytes found up some = first_owner l least fits told.rows row bytes up (sym found ∙ some)

  pub owner_none : (held : Option Held) (least : ℕ) (next : Option RawRow) (start : List RawRow) → least < 2 ^ 128
      → IfSome held (λ told. next ≡ next_row l.event (uid (org least).0) told.rows) → next ≡ None
      → IfSome held (λ told. start ++ rows_from l None told.rows ≡ start ++ rows_from l (Some least) told.rows)
  unfolding rows_from
  owner_none None least next start fits found none = tt
  owner_none (Some told) least next start fits found none = ap (λ t. start ++ t) (sym (no_owner l least fits told.rows (sym found ∙ none)))

  -- from the greater of the two on
  from_greater : (raws : List RawRow) (number least : ℕ) → rows_from l (Some number) raws ≡ rows_from l (Some least) raws → rows_from l (Some (max number least)) raws ≡ rows_from l (Some least) raws
  from_greater raws number least e = elim (cases_lt number least) [
    | inl lt ↦ ap (λ n. rows_from l (Some n) raws) (omega arith)
    | inr ge ↦ ap (λ n. rows_from l (Some n) raws) (omega arith) ∙ e
  ]

  pub owner_added : (held later : Option Held) (least number m : ℕ) (next : Option ℕ) (start now : List RawRow) → m ≡ max number least → m < 2 ^ 128 → IsAfter m next → StaysHeld held later → Ascends held
      → IfSome held (λ told. rows_from l (Some number) told.rows ≡ rows_from l (Some least) told.rows)
      → IfSome later (λ told. now ≡ start ++ rows_sought l (org m) told.rows)
      → IfSome later (λ told. now ++ rows_from l next told.rows ≡ start ++ rows_from l (Some least) told.rows)
  owner_added held None least number m next start now greatest fits after kept up same added = tt
  owner_added held (Some told) least number m next start now greatest fits after kept up same added =
      ap (λ t. t ++ rows_from l next told.rows) added
      ∙ append_assoc start (rows_sought l (org m) told.rows) (rows_from l next told.rows)
      ∙ ap (λ t. start ++ t) (whole after ∙ ap (λ n. rows_from l (Some n) told.rows) greatest
      ∙ from_greater told.rows number least (known_still held (Some told) (λ told. rows_from l (Some number) told.rows ≡ rows_from l (Some least) told.rows) kept same))
    where
      whole : IsAfter m next → rows_sought l (org m) told.rows ++ rows_from l next told.rows ≡ rows_from l (Some m) told.rows
      whole (inl some) = ap (λ n. rows_sought l (org m) told.rows ++ rows_from l n told.rows) some ∙ owner_and_more l m fits told.rows (ascends_still held (Some told) kept up)
      whole (inr last) =
          ap (λ n. rows_sought l (org m) told.rows ++ rows_from l n told.rows) last.0
          ∙ ap (λ t. rows_sought l (org m) told.rows ++ t) (from_none told.rows)
          ∙ append-nil (rows_sought l (org m) told.rows) ∙ last_owner l m fits told.rows (ascends_still held (Some told) kept up) last.1

  -- ---- all owners

  -- what is found, before what is looked at of the owners that are left
  abbrev pub OwnersFound : Option Held → List RawRow → Option ℕ → Type 0
  OwnersFound held found left = IfSome held (λ told. found ++ rows_from l left told.rows ≡ rows_looked l told.rows)

  pub owners_first : (held : Option Held) (found : List RawRow) → found ≡ [] → OwnersFound held found (Some 0)
  owners_first None found none = tt
  owners_first (Some told) found none = ap (λ t. t ++ rows_from l (Some 0) told.rows) none ∙ from_first l told.rows

  pub owners_next : (held after : Option Held) (found now : List RawRow) (left next : Option ℕ) → StaysHeld held after → OwnersFound held found left
      → IfSome after (λ told. now ++ rows_from l next told.rows ≡ found ++ rows_from l left told.rows) → OwnersFound after now next
  owners_next held None found now left next same so_far added = tt
  owners_next held (Some told) found now left next same so_far added =
      added ∙ known_still held (Some told) (λ told. found ++ rows_from l left told.rows ≡ rows_looked l told.rows) same so_far

  pub owners_done : (held : Option Held) (found : List RawRow) → OwnersFound held found None → IfSome held (λ told. found ≡ rows_looked l told.rows)
  owners_done None found so_far = tt
  owners_done (Some told) found so_far = sym (append-nil found) ∙ ap (λ t. found ++ t) (sym (from_none told.rows)) ∙ so_far

  -- what is found of rows that ascend does
  pub found_ascends : (held : Option Held) (found : List RawRow) → Ascends held → IfSome held (λ told. found ≡ rows_looked l told.rows) → IfSome held (λ told. IsTrue (ascend comes_before found))
  unfolding rows_looked
  found_ascends None found up is = tt
  found_ascends (Some told) found up is = ap (ascend comes_before) is ∙ ascend_kept comes_before _ told.rows up

-- ---- what ascends

-- what is held ascends, once a name has been sought
abbrev pub AscendsOnce : Option Held → Option ℕ → Type 0
AscendsOnce held left = (left ≡ Some 0) ⊎ Ascends held

-- how many numbers of owners are left
abbrev pub owners_left : Option ℕ → ℕ
owners_left None = 0
owners_left (Some least) = 2 ^ 128 - least

-- after the last owner a name has been sought
pub ascends_after : (held : Option Held) (left : Option ℕ) → left ≡ None → AscendsOnce held left → Ascends held
ascends_after held left none (inl first) = absurd (none_not_some (sym none ∙ first))
ascends_after held left none (inr up) = up

-- the bytes of a number are those of its owner
pub number_bytes : (n : ℕ) → to_be_bytes w128 n ≡ uid (org n).0
unfolding uid
number_bytes n = refl
