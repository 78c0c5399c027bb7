-- What is sought of one owner is what is looked at of it.
use Rattle.std.proofs.Common.{◌≡◌, ℕ, ◌==◌, List, true, sym, ap, subst, ◌∙◌, filter, Bool, ◌&&◌, eqb-true, eq-eqb}
use Rattle.misp_lists.proofs.Lists.{alike}
use Rattle.misp_lists.proofs.Prelude.{and_from, and_parts}
use Rattle.misp_elem.specs.Prelude.{IsUid}
use Rattle.misp_effects.specs.Prelude.{RawRow}
use Rattle.misp_model.proofs.Prelude.{OrgId}
use Rattle.misp_model.specs.declared.looks.Looks.{Looks}
use Rattle.misp_store.specs.Seeking.{is_looked, rows_in_look, rows_sought}
use Rattle.misp_store.specs.Seen.{is_name_looked, look_at, names_in, owner_in, front_number}
use Rattle.misp_store.proofs.Fronts.{number_of_uid}
use Rattle.misp_store.proofs.LookedNames.{look_begins}
use Rattle.misp_store.proofs.NamedRows.{is_at}

-- the owner of this number
abbrev pub org : ℕ → OrgId
org n = record { 0 = record { 0 = n } }

module _ (l : Looks) (o : OrgId) (is : IsUid o.0) where
  of_owner : (raw : RawRow) → (is_looked l raw && (front_number raw.name == o.0.0)) ≡ (is_at l.event raw && names_in (look_at l o) l.event o raw.name)
  unfolding is_name_looked
  of_owner raw = alike _ _ forth back
    where
      forth : (is_looked l raw && (front_number raw.name == o.0.0)) ≡ true → (is_at l.event raw && names_in (look_at l o) l.event o raw.name) ≡ true
      forth h =
          let two = and_parts (is_looked l raw) _ h in
          let its : owner_in raw.name ≡ o = ap org (eqb-true _ _ two.1) in
          subst (λ w. (is_at l.event raw && names_in (look_at l w) l.event w raw.name) ≡ true) its two.0

      back : (is_at l.event raw && names_in (look_at l o) l.event o raw.name) ≡ true → (is_looked l raw && (front_number raw.name == o.0.0)) ≡ true
      back h =
          let begin = look_begins l.event o raw.name (look_at l o) (and_parts (is_at l.event raw) _ h).1 in
          let number : front_number raw.name ≡ o.0.0 = ap front_number begin.1 ∙ number_of_uid o.0 begin.0 is in
          and_from _ _ (subst (λ w. (is_at l.event raw && names_in (look_at l w) l.event w raw.name) ≡ true) (ap org (sym number)) h) (eq-eqb _ _ number)

  pub sought_of_owner : (raws : List RawRow) → rows_sought l o raws ≡ filter (λ raw. is_looked l raw && (front_number raw.name == o.0.0)) raws
  unfolding rows_in_look
  sought_of_owner raws = sym (ap (λ (p : RawRow → Bool). filter p raws) (λ i raw. of_owner raw i))
