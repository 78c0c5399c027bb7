-- Where of the rows of others none is looked at, all that is looked at begins with the one owner.
use Rattle.std.proofs.Common.{◌≡◌, ℕ, ◌<◌, List, [], ◌∷◌, ◌++◌, Bool, true, false, inl, inr, refl, sym, ap, subst, ◌∙◌, arith, filter, cond, ◌&&◌, leb, eqb-true, Option, Some, None, IfSome, append-nil}
use Rattle.misp_lists.proofs.Lists.{alike, filter_never}
use Rattle.misp_lists.proofs.Prelude.{and_from, and_parts, cases_Bool, false_from_ne_true, false≢true}
use Rattle.misp_outside.specs.Held.{Held}
use Rattle.misp_effects.specs.Prelude.{RawRow}
use Rattle.misp_model.proofs.Prelude.{EventId, OrgId, same_org}
use Rattle.misp_model.specs.declared.looks.Look.{Look}
use Rattle.misp_model.specs.declared.looks.Looks.{Looks}
use Rattle.misp_store.specs.Seeking.{is_looked, is_of_none, is_own_alone, rows_from}
use Rattle.misp_store.specs.Seen.{front_number, is_name_looked, names_in, owner_in, rows_looked}
use Rattle.misp_store.proofs.NamedRows.{is_at}
use Rattle.misp_store.proofs.OwnerSteps.{leb-from, leb-to}

-- a look of no key names none
names_none : (look : Look) (e : EventId) (o : OrgId) (bytes : List ℕ) → is_of_none look ≡ true → names_in look e o bytes ≡ false
unfolding names_in
names_none (Look.Keys []) e o bytes h = refl
names_none (Look.Keys (k ∷ keys)) e o bytes h = absurd cc
names_none (Look.Uuids us keys) e o bytes h = absurd cc
names_none Look.Statements e o bytes h = absurd cc
names_none Look.All e o bytes h = absurd cc

module _ (l : Looks) (alone : is_own_alone l ≡ true) where
  own_named : (bytes : List ℕ) → is_name_looked l bytes ≡ true → front_number bytes ≡ l.of.0.0
  unfolding is_name_looked same_org
  own_named bytes h = elim (cases_Bool (same_org (owner_in bytes) l.of)) [
    | inl own ↦ eqb-true _ _ own
    | inr other ↦
        absurd (false≢true
        (sym (names_none l.others l.event (owner_in bytes) bytes alone)
        ∙ subst (λ b. names_in (cond b l.own l.others) l.event (owner_in bytes) bytes ≡ true) other h))
  ]

  own_looked : (raw : RawRow) → is_looked l raw ≡ true → front_number raw.name ≡ l.of.0.0
  own_looked raw h = own_named raw.name (and_parts (is_at l.event raw) _ h).1

  -- from the owner on it is all that is looked at
  own_from : (raws : List RawRow) → rows_from l (Some l.of.0.0) raws ≡ rows_looked l raws
  unfolding rows_from rows_looked
  own_from raws = ap (λ (p : RawRow → Bool). filter p raws) (λ i raw. alike (is_looked l raw && leb l.of.0.0 (front_number raw.name)) (is_looked l raw) (forth raw) (back raw) i)
    where
      forth : (raw : RawRow) → (is_looked l raw && leb l.of.0.0 (front_number raw.name)) ≡ true → is_looked l raw ≡ true
      forth raw h = (and_parts (is_looked l raw) _ h).0

      back : (raw : RawRow) → is_looked l raw ≡ true → (is_looked l raw && leb l.of.0.0 (front_number raw.name)) ≡ true
      back raw h = and_from _ _ h (leb-from l.of.0.0 (front_number raw.name) (omega (arith, own_looked raw h)))

  -- after it there is nothing
  own_after : (next : Option ℕ) → IfSome next (λ n. l.of.0.0 < n) → (raws : List RawRow) → rows_from l next raws ≡ []
  unfolding rows_from
  own_after None more raws = refl
  own_after (Some n) more raws = filter_never _ (λ raw. false_from_ne_true _ (never raw)) raws
    where
      never : (raw : RawRow) → (is_looked l raw && leb n (front_number raw.name)) ≡ true → ⊥
      never raw h =
          let two = and_parts (is_looked l raw) (leb n (front_number raw.name)) h in
          omega (arith, more, own_looked raw two.0, leb-to n (front_number raw.name) two.1)

  -- what is found of the owner is all that is looked at
  pub own_found : (held : Option Held) (next : Option ℕ) (start found : List RawRow) → start ≡ [] → IfSome next (λ n. l.of.0.0 < n)
      → IfSome held (λ told. found ++ rows_from l next told.rows ≡ start ++ rows_from l (Some l.of.0.0) told.rows) → IfSome held (λ told. found ≡ rows_looked l told.rows)
  own_found None next start found none more added = tt
  own_found (Some told) next start found none more added =
      sym (append-nil found) ∙ ap (λ t. found ++ t) (sym (own_after next more told.rows)) ∙ added
      ∙ ap (λ t. t ++ rows_from l (Some l.of.0.0) told.rows) none ∙ own_from told.rows
