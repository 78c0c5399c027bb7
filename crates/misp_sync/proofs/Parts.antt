-- What is taken of packages of one event is what these bring of all that comes.
use Rattle.std.proofs.Common.{◌≡◌, ◌&&◌, ◌||◌, not, Bool, true, false, List, [], ◌∷◌, ◌++◌, Contains, append-nil, append_assoc, arith, refl, sym, ap, ◌∙◌, inl, inr, map}
use Rattle.std.proofs.lemmas.List.Elements.{Contains-append_cases}
use Rattle.std.proofs.lemmas.List.Folds.{list_any-append}
use Rattle.misp_effects.specs.Batches.{Batch, batch}
use Rattle.misp_lists.proofs.All.{all_last}
use Rattle.misp_lists.proofs.Elements.{here, of_part, there}
use Rattle.misp_model.proofs.Prelude.{AllByRecursion, Group, Inst, IsTable, OrgId, Row, is_row_of, list_all, list_any}
use Rattle.misp_history.specs.Merging.{IsPackageOf, arrives, brought, fresh, is_taken, merged, merged_by}
use Rattle.misp_history.proofs.ByPackages.{next_taken}
use Rattle.misp_package.proofs.Going.{filter_alike}
use Rattle.misp_core.specs.Effects.{row_batches}
use Rattle.misp_sync.specs.Pulled.{package_batches}
use Rattle.misp_history.proofs.Bringing.{parts, with_some}

-- each part is a batch
abbrev pub as_batches : List (List Row) → List Batch
as_batches ps = map (λ rows. batch rows []) ps

-- ---- lists

with_append : (f : List Row) (ps qs : List (List Row)) → with_some f ps ++ qs ≡ with_some f (ps ++ qs)
with_append [] ps qs = refl
with_append (x ∷ f) ps qs = refl

batches_with : (f : List Row) (ps : List (List Row)) → row_batches f ++ as_batches ps ≡ as_batches (with_some f ps)
batches_with [] ps = refl
batches_with (x ∷ f) ps = refl

merged_last : (i : Inst) (groups : List Group) (rows : List Row) (ps : List (List Row)) (p : List Row) → merged i (merged_by i rows groups ps) groups p ≡ merged_by i rows groups (ps ++ p ∷ [])
unfolding merged_by
merged_last i groups rows [] p = refl
merged_last i groups rows (q ∷ ps) p = merged_last i groups (merged i rows groups q) ps p

module _ (test : Row → Bool) where
  brought_last : (so : List Row) (ps : List (List Row)) (p : List Row) → so ++ brought test so (ps ++ p ∷ []) ≡ (so ++ brought test so ps) ++ fresh test (so ++ brought test so ps) p
  unfolding brought
  brought_last so [] p = ap (λ rs. so ++ rs) (append-nil (fresh test so p)) ∙ ap (λ rs. rs ++ fresh test rs p) (sym (append-nil so))
  brought_last so (q ∷ ps) p =
      sym (append_assoc so (fresh test so q) (brought test (so ++ fresh test so q) (ps ++ p ∷ [])))
      ∙ brought_last (so ++ fresh test so q) ps p
      ∙ ap (λ rs. rs ++ fresh test rs p) (append_assoc so (fresh test so q) (brought test (so ++ fresh test so q) ps))

  pub parts_append : (so : List Row) (ps qs : List (List Row)) → parts test so (ps ++ qs) ≡ parts test so ps ++ parts test (so ++ brought test so ps) qs
  unfolding parts brought
  parts_append so [] qs = ap (λ rs. parts test rs qs) (sym (append-nil so))
  parts_append so (p ∷ ps) qs =
      ap (with_some (fresh test so p))
      (parts_append (so ++ fresh test so p) ps qs
      ∙ ap (λ rs. parts test (so ++ fresh test so p) ps ++ parts test rs qs) (append_assoc so (fresh test so p) (brought test (so ++ fresh test so p) ps)))
      ∙ sym (with_append (fresh test so p) (parts test (so ++ fresh test so p) ps) (parts test (so ++ brought test so (p ∷ ps)) qs))

  -- what is brought is of one of the packages
  pub brought_from : (so : List Row) (ps : List (List Row)) (z : Row) → Contains (brought test so ps) z → (p : List Row) × (Contains ps p × Contains p z)
  unfolding brought
  brought_from so [] z m = let lt = m.1 in absurd (omega arith)
  brought_from so (p ∷ ps) z m = elim (Contains-append_cases (fresh test so p) (brought test (so ++ fresh test so p) ps) z m) [
    | inl n ↦ (p, (here p ps, (of_part _ p z n).1))
    | inr n ↦ (let f = brought_from (so ++ fresh test so p) ps z n in (f.0, (there p ps f.0 f.1.0, f.1.1)))
  ]

  -- rows that came before and have none of the names change nothing
  module _ (so : List Row) where
    abbrev pub Apart : List Row → Type 0
    Apart p = (x : Row) → Contains p x → list_any (is_row_of x.owner x.key) so ≡ false

    fresh_apart : (u p : List Row) → Apart p → fresh test (so ++ u) p ≡ fresh test u p
    fresh_apart u p h = filter_alike _ _ p (λ x m. ap (λ b. test x && not b) (list_any-append (is_row_of x.owner x.key) so u ∙ ap (λ b. b || list_any (is_row_of x.owner x.key) u) (h x m)))

    pub parts_apart : (u : List Row) (ps : List (List Row)) → ((p : List Row) → Contains ps p → Apart p) → parts test (so ++ u) ps ≡ parts test u ps
    unfolding parts
    parts_apart u [] h = refl
    parts_apart u (p ∷ ps) h =
        let same : fresh test (so ++ u) p ≡ fresh test u p = fresh_apart u p (h p (here p ps)) in
        ap (λ f. with_some f (parts test ((so ++ u) ++ f) ps)) same
        ∙ ap (λ rs. with_some (fresh test u p) (parts test rs ps)) (append_assoc so u (fresh test u p))
        ∙ ap (with_some (fresh test u p)) (parts_apart (u ++ fresh test u p) ps (λ q m. h q (there p ps q m)))

-- by tests that agree on the rows of packages these bring the same
pub parts_alike : (p q : Row → Bool) (so : List Row) (ps : List (List Row)) → ((c : List Row) → Contains ps c → (x : Row) → Contains c x → p x ≡ q x) → parts p so ps ≡ parts q so ps
unfolding parts
parts_alike p q so [] h = refl
parts_alike p q so (c ∷ ps) h =
    ap (λ f. with_some f (parts p (so ++ f) ps)) (filter_alike _ _ c (λ x m. ap (λ b. b && not (list_any (is_row_of x.owner x.key) so)) (h c (here c ps) x m)))
    ∙ ap (with_some (fresh q so c)) (parts_alike p q (so ++ fresh q so c) ps (λ d m. h d (there c ps d m)))

-- ---- packages

module _ (i : Inst) (groups : List Group) (coming : List Row) (table : IsTable coming) (w : OrgId) (owned : list_all (arrives w) coming ≡ true) (rows : List Row) where
  abbrev taken : Row → Bool
  taken = is_taken i rows groups coming

  batches_so : (done ps : List (List Row)) → AllByRecursion (IsPackageOf coming) done → AllByRecursion (IsPackageOf coming) ps
      → package_batches i groups (merged_by i rows groups done) ps ≡ as_batches (parts taken (brought taken [] done) ps)
  unfolding package_batches parts
  batches_so done [] before are = refl
  batches_so done (p ∷ ps) before are =
      let f : List Row = fresh taken (brought taken [] done) p in
      ap (λ rs. row_batches rs ++ package_batches i groups (merged i (merged_by i rows groups done) groups p) ps) (next_taken i rows groups coming table w owned done before p are.0)
      ∙ ap (λ rs. row_batches f ++ package_batches i groups rs ps) (merged_last i groups rows done p)
      ∙ ap (λ bs. row_batches f ++ bs) (batches_so (done ++ p ∷ []) ps (all_last (IsPackageOf coming) done p before are.0) are.1)
      ∙ ap (λ rs. row_batches f ++ as_batches (parts taken rs ps)) (brought_last taken [] done p)
      ∙ batches_with f (parts taken (brought taken [] done ++ f) ps)

  -- what is taken of packages one after another is what they bring
  pub batches_are : (ps : List (List Row)) → AllByRecursion (IsPackageOf coming) ps → package_batches i groups rows ps ≡ as_batches (parts taken [] ps)
  unfolding merged_by brought
  batches_are ps are = batches_so [] ps tt are
