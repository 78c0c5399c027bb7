-- What packages bring, part by part.
use Rattle.std.proofs.Common.{◌≡◌, ℕ, zero, suc, Bool, true, List, [], ◌∷◌, ◌++◌, refl, sym, ap, ◌∙◌, cond, filter, flat_map, take}
use Rattle.misp_lists.proofs.All.{all_take}
use Rattle.misp_model.proofs.Prelude.{AreRows, Group, IsTable, Row, is_row_of, list_all, list_any, put_all}
use Rattle.misp_history.specs.Acts.{World, synced, synced_groups}
use Rattle.misp_history.specs.History.{tables}
use Rattle.misp_history.specs.Merging.{IsPackageOf, arrives, bringing, brought, count_bringing, fewer_where, fresh, is_taken, more_where, packages}
use Rattle.misp_history.specs.Outcomes.{arriving, coming, first_brought, synced_partly, takes}
use Rattle.misp_history.specs.Passing.{Route}
use Rattle.misp_history.proofs.AsNew.{tables_are_tables}
use Rattle.misp_history.proofs.ByPackages.{merged_packages}
use Rattle.misp_history.proofs.Merging.{done_here, stopped_here}
use Rattle.misp_history.proofs.Packing.{packages_are}
use Rattle.misp_history.proofs.Passed.{all_arrive}
use Rattle.misp_history.proofs.Sent.{arriving_table}

-- rows before others, where there are some
abbrev pub with_some : List Row → List (List Row) → List (List Row)
with_some [] rest = rest
with_some (x ∷ xs) rest = (x ∷ xs) ∷ rest

-- of each package what it brings, if it brings something
unfoldable pub parts : (Row → Bool) → List Row → List (List Row) → List (List Row)
parts test so [] = []
parts test so (p ∷ ps) = with_some (fresh test so p) (parts test (so ++ fresh test so p) ps)

abbrev pub joined : List (List Row) → List Row
joined cs = flat_map (λ c. c) cs

module _ (test : Row → Bool) where
  -- the first of the parts are what the first packages bring
  pub joined_first : (n : ℕ) (so : List Row) (ps : List (List Row)) → joined (take n (parts test so ps)) ≡ brought test so (bringing n test so ps)
  unfolding parts brought bringing
  joined_first zero so ps = refl
  joined_first (suc n) so [] = refl
  joined_first (suc n) so (p ∷ ps) = one (fresh test so p) refl (λ m. joined_first m (so ++ fresh test so p) ps)
    where
      one : (f : List Row) → fresh test so p ≡ f → ((m : ℕ) → joined (take m (parts test (so ++ f) ps)) ≡ brought test (so ++ f) (bringing m test (so ++ f) ps))
          → joined (take (suc n) (with_some f (parts test (so ++ f) ps))) ≡ brought test so (p ∷ bringing (fewer_where f n) test (so ++ f) ps)
      one [] e ih = rw e (ih (suc n))
      one (x ∷ f) e ih = rw e (ap (λ rs. (x ∷ f) ++ rs) (ih n))

  -- and all of them what all bring
  pub joined_all : (so : List Row) (ps : List (List Row)) → joined (parts test so ps) ≡ brought test so ps
  unfolding parts brought
  joined_all so [] = refl
  joined_all so (p ∷ ps) = one (fresh test so p) (parts test (so ++ fresh test so p) ps) ∙ ap (λ rs. fresh test so p ++ rs) (joined_all (so ++ fresh test so p) ps)
    where
      one : (f : List Row) (rest : List (List Row)) → joined (with_some f rest) ≡ f ++ joined rest
      one [] rest = refl
      one (x ∷ f) rest = refl

  -- the packages up to the last that is to bring a row are the first
  first_ones : (n : ℕ) (so : List Row) (ps : List (List Row)) → (k : ℕ) × (bringing n test so ps ≡ take k ps)
  unfolding bringing
  first_ones zero so ps = (0, refl)
  first_ones (suc n) so [] = (0, refl)
  first_ones (suc n) so (p ∷ ps) =
      let more : (k : ℕ) × (bringing (fewer_where (fresh test so p) n) test (so ++ fresh test so p) ps ≡ take k ps) = first_ones (fewer_where (fresh test so p) n) (so ++ fresh test so p) ps in
      (suc more.0, ap (λ qs. p ∷ qs) more.1)

  -- the packages up to the last of the first that brings a row bring what these bring
  brought_through : (k : ℕ) (so : List Row) (ps : List (List Row)) → brought test so (take k ps) ≡ brought test so (bringing (count_bringing test so (take k ps)) test so ps)
  unfolding brought bringing count_bringing
  brought_through zero so ps = refl
  brought_through (suc k) so [] = refl
  brought_through (suc k) so (p ∷ ps) = one (fresh test so p) refl (brought_through k (so ++ fresh test so p) ps)
    where
      one : (f : List Row) → fresh test so p ≡ f → brought test (so ++ f) (take k ps) ≡ brought test (so ++ f) (bringing (count_bringing test (so ++ f) (take k ps)) test (so ++ f) ps)
          → f ++ brought test (so ++ f) (take k ps) ≡ brought test so (bringing (more_where f (count_bringing test (so ++ f) (take k ps))) test so (p ∷ ps))
      one [] e ih = none (count_bringing test (so ++ []) (take k ps)) ih
        where
          none : (n : ℕ) → brought test (so ++ []) (take k ps) ≡ brought test (so ++ []) (bringing n test (so ++ []) ps)
              → brought test (so ++ []) (take k ps) ≡ brought test so (bringing n test so (p ∷ ps))
          none zero h = h
          none (suc n) h = rw e h
      one (x ∷ f) e ih = rw e (ap (λ rs. (x ∷ f) ++ rs) ih)

-- ---- tables

module _ (w : World) (r : Route) (are : AreRows (tables w.log r.from)) where
  pub table : IsTable (arriving w r)
  unfolding arriving
  table = arriving_table w.log (w.groups r.from) r

  pub owned : list_all (arrives r.holder) (arriving w r) ≡ true
  unfolding arriving
  owned = all_arrive (tables w.log r.from) (w.groups r.from) r (tables_are_tables w.log r.from) are

  -- the tables of a synchronisation that stopped have what the packages brought until then
  pub partly_put : (p : ℕ) (g : Bool)
      → tables (synced_partly w r g p).log r.into ≡ put_all (first_brought p w r (cond g (synced_groups w.groups r) w.groups r.into)) (tables w.log r.into)
  unfolding synced_partly first_brought takes
  partly_put p g =
      let groups : List Group = cond g (synced_groups w.groups r) w.groups r.into in
      let test : (Row → Bool) = is_taken r.into (tables w.log r.into) groups (arriving w r) in
      let ps : List (List Row) = packages (arriving w r) in
      let k : (k : ℕ) × (bringing p test [] ps ≡ take k ps) = first_ones test p [] ps in
      ap (λ rs. tables (w.log ++ filter (λ v. list_any (is_row_of v.owner v.key) rs) (coming w r)) r.into) (ap (brought test []) k.1 ∙ brought_through test k.0 [] ps)
      ∙ stopped_here k.0 w r g are
      ∙ merged_packages r.into (tables w.log r.into) groups (arriving w r) table r.holder owned (take k.0 ps) (all_take (IsPackageOf (arriving w r)) k.0 ps (packages_are (arriving w r) table))
      ∙ ap (λ rs. put_all rs (tables w.log r.into)) (sym (ap (brought test []) k.1))

  -- and those of one that is done have what all brought
  pub done_put : tables (synced w r).log r.into ≡ put_all (brought (takes w r (synced_groups w.groups r r.into)) [] (packages (arriving w r))) (tables w.log r.into)
  unfolding synced takes
  done_put =
      done_here w r are
      ∙ merged_packages r.into (tables w.log r.into) (synced_groups w.groups r r.into) (arriving w r) table r.holder owned (packages (arriving w r)) (packages_are (arriving w r) table)
