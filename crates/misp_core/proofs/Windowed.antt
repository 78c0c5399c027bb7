-- What comes to a window of the events that are seen, one after another, is what is asked for of the index.
use Rattle.std.proofs.Common.{◌≡◌, ℕ, ◌+◌, ◌<◌, ◌≤◌, List, [], ◌∷◌, ◌++◌, Bool, false, true, Option, Some, None, ap, append-nil, cond, eqb, filter, filter_map, flat_map, get_or, length, map, option_to_list, refl, subst, sym, take, take_all, ◌∙◌}
use Rattle.std.specs.List.{dedup}
use Rattle.std.proofs.lemmas.Grind.{flat_map-append}
use Rattle.std.proofs.lemmas.List.Elements.{filter-append}
use Rattle.misp_model.specs.Machine.{event_number, seeing}
use Rattle.misp_model.specs.Prelude.{IsTable, Row, VisibleAttribute, VisibleEvent}
use Rattle.misp_model.specs.Shown.{index}
use Rattle.misp_search.specs.Fitting.{attributes_of, fits, has_hit, hits, whole_events}
use Rattle.misp_search.specs.Page.{PageNumbers, page_of}
use Rattle.misp_search.specs.Window.{HaveCome, PageWindow, window_of}
use Rattle.misp_search.specs.declared.fitting.Filter.{Filter}
use Rattle.misp_core.specs.Handing.{scene_in}
use Rattle.misp_core.specs.Listing.{seen_at}
use Rattle.misp_core.specs.Pulling.{IsByEvent}
use Rattle.misp_core.specs.declared.site.Site.{Site}
use Rattle.misp_core.proofs.Indexed.{index_of}
use Rattle.misp_core.proofs.Pulled.{one_more}

-- ---- what is asked for of lists, one after another

pub record IsPiecewise {A B : Type 0} (g : List A → List B) : Type 0 where
  pub none : g [] ≡ []
  pub both : (xs ys : List A) → g (xs ++ ys) ≡ g xs ++ g ys

pub events_piecewise : IsPiecewise (λ (events : List VisibleEvent). events)
events_piecewise = record { none = refl; both = λ xs ys. refl }

pub hits_piecewise : (f : Filter) → IsPiecewise (hits f)
unfolding hits
hits_piecewise f = record { none = refl; both = flat_map-append (λ (e : VisibleEvent). filter (fits f e) (attributes_of e)) }

pub whole_piecewise : (f : Filter) → IsPiecewise (whole_events f)
unfolding whole_events
whole_piecewise f = record { none = refl; both = filter-append (has_hit f) }

-- ---- what comes of one event, where it is seen

pub none_comes : {B : Type 0} (w : PageWindow B) → HaveCome [] w w
unfolding HaveCome
none_comes w = λ p all is. is ∙ ap (window_of p) (sym (append-nil all))

module _ {A B : Type 0} (g : List A → List B) (P : List B → Type 0) (seen : Option A) where
  pub where_seen : (x : A) → seen ≡ Some x → P (g (x ∷ [])) → P (g (option_to_list seen))
  where_seen x is so = subst (λ (o : Option A). P (g (option_to_list o))) (sym is) so

  pub where_unseen : seen ≡ None → P (g []) → P (g (option_to_list seen))
  where_unseen is so = subst (λ (o : Option A). P (g (option_to_list o))) (sym is) so

module _ (f : Filter) (e : VisibleEvent) where
  pub one_hits : filter (fits f e) (attributes_of e) ≡ hits f (e ∷ [])
  unfolding hits
  one_hits = sym (append-nil (filter (fits f e) (attributes_of e)))

  pub one_whole : (has : Bool) → has ≡ has_hit f e → cond has (e ∷ []) [] ≡ whole_events f (e ∷ [])
  unfolding whole_events
  one_whole has is = ap (λ b. cond b (e ∷ []) []) is

-- an event comes, or none
module _ {B : Type 0} (b : Bool) (xs : List B) (P : List B → Type 0) where
  pub come_if : b ≡ true → P xs → P (cond b xs [])
  come_if is so = subst (λ c. P (cond c xs [])) (sym is) so

  pub come_not : b ≡ false → P [] → P (cond b xs [])
  come_not is so = subst (λ c. P (cond c xs [])) (sym is) so

-- ---- event after event

module _ {A B : Type 0} (g : List A → List B) (piecewise : IsPiecewise g) (there : ℕ → Option A) (p : PageNumbers) (numbers : List ℕ) where
  pub none_come : (w : PageWindow B) → w ≡ window_of p [] → w ≡ window_of p (g (filter_map there (take 0 numbers)))
  none_come w is = is ∙ ap (window_of p) (sym piecewise.none)

  pub one_comes : (i : ℕ) (old new : PageWindow B) → i < length numbers → HaveCome (g (option_to_list (there (get_or numbers i 0)))) old new
      → old ≡ window_of p (g (filter_map there (take i numbers))) → new ≡ window_of p (g (filter_map there (take (i + 1) numbers)))
  unfolding HaveCome
  one_comes i old new below come so =
      let done : List A = filter_map there (take i numbers) in
      let found : Option A = there (get_or numbers i 0) in
      come p (g done) so
      ∙ ap (window_of p) (sym (piecewise.both done (option_to_list found)) ∙ ap g (one_more there numbers i 0 found done below refl refl))

-- ---- the index

module _ {B : Type 0} (g : List VisibleEvent → List B) (site : Site) (list rows : List Row) (table : IsTable rows) (by : IsByEvent list rows) (p : PageNumbers) where
  pub all_come : (numbers : List ℕ) (i : ℕ) (w : PageWindow B) → length numbers ≤ i → numbers ≡ dedup eqb (map event_number list) → w ≡ window_of p (g (filter_map (seen_at site rows) (take i numbers)))
      → w.items ≡ page_of p (g (index (seeing (scene_in site) rows)))
  unfolding window_of
  all_come numbers i w end are so =
      ap (λ (v : PageWindow B). v.items) so
      ∙ ap (λ l. page_of p (g l)) (ap (filter_map (seen_at site rows)) (take_all i numbers end ∙ are) ∙ sym (index_of (scene_in site) list rows table by))
