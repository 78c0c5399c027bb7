-- Rows that are put anew one after another: what is had so far.
use Rattle.std.proofs.Common.{◌≡◌, ℕ, ◌+◌, ◌<◌, ◌≤◌, List, [], ◌∷◌, ◌++◌, refl, sym, ap, subst, ◌∙◌, cond, inl, inr, map, take, drop, get_or, length, Option, Some, None, Err, IsOk, take_all}
use Rattle.std.proofs.lemmas.Bool.{cases_Bool}
use Rattle.std.proofs.lemmas.List.{drop_all, drop_more, take_more}
use Rattle.misp_effects.specs.Prelude.{RawRow}
use Rattle.misp_store.specs.Decoding.{IsNoRow, NamesBadRow}
use Rattle.misp_store.specs.Raw.{rows_in}
use Rattle.misp_store.specs.Renewing.{IsRead, is_old, put_anew, renewed_row, rewritten}
use Rattle.misp_store.specs.declared.fault.RowFault.{RowFault}
use Rattle.misp_store.proofs.Renewed.{Reads, more_anew, reads_all, reads_bad, reads_next}

-- ---- one row

module _ (raw : RawRow) (found : Option RawRow) (is : found ≡ cond (is_old raw) (Some (rewritten raw)) None) where
  pub one_anew : (row : RawRow) → found ≡ Some row → put_anew (raw ∷ []) ≡ row ∷ []
  unfolding put_anew
  one_anew row some = elim (cases_Bool (is_old raw)) [
    | inl old ↦ let same : rewritten raw ≡ row = cc in rw old (ap (λ x. x ∷ []) same)
    | inr not_old ↦ absurd cc
  ]

  pub not_anew : found ≡ None → put_anew (raw ∷ []) ≡ []
  unfolding put_anew
  not_anew none = elim (cases_Bool (is_old raw)) [
    | inl old ↦ absurd cc
    | inr not_old ↦ rw not_old refl
  ]

-- ---- one after another

module _ (raws : List RawRow) (i : ℕ) (raw : RawRow) (inside : i < length raws) (here : raw ≡ get_or raws i raw) where
  first : drop i raws ≡ raw ∷ drop (i + 1) raws
  first = drop_more raws i raw inside ∙ ap (λ x. x ∷ drop (i + 1) raws) (sym here)

  pub anew_next : (anew more : List RawRow) → anew ≡ put_anew (take i raws) → more ≡ anew ++ put_anew (raw ∷ []) → more ≡ put_anew (take (i + 1) raws)
  anew_next anew more so_far next =
      next
      ∙ ap (λ rows. rows ++ put_anew (raw ∷ [])) so_far
      ∙ sym (more_anew (take i raws) raw)
      ∙ ap (λ x. put_anew (take i raws ++ x ∷ [])) here
      ∙ ap put_anew (sym (take_more raws i raw inside))

  pub reads_more : IsRead raw → Reads raws (drop i raws) → Reads raws (drop (i + 1) raws)
  reads_more is reads = reads_next raws (drop (i + 1) raws) raw (subst (Reads raws) first reads) is

  pub bad_here : (fault : RowFault) → IsNoRow raw fault → Reads raws (drop i raws) → NamesBadRow (rows_in raws) fault
  bad_here (RowFault.BadRow name) bad reads = reads_bad raws (drop (i + 1) raws) raw (subst (Reads raws) first reads) bad.1 ∙ ap Err (sym bad.0)
  bad_here RowFault.NoMemory bad reads = tt

-- all of them
module _ (raws : List RawRow) (i : ℕ) (past : length raws ≤ i) where
  pub anew_all : (anew : List RawRow) → anew ≡ put_anew (take i raws) → anew ≡ put_anew raws
  anew_all anew is = is ∙ ap put_anew (take_all i raws past)

  pub read_all : Reads raws (drop i raws) → IsOk (rows_in raws) × (rows_in (map renewed_row raws) ≡ rows_in raws)
  read_all reads = reads_all raws (subst (Reads raws) (drop_all i raws past) reads)
