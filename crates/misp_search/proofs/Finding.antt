-- What is found of an event.
use Rattle.std.proofs.Common.{subst, ◌≡◌, List, [], ◌∷◌, ◌++◌, Bool, true, false, refl, ap, sym, ◌∙◌, cond, ◌&&◌, ◌||◌, filter, flat_map}
use Rattle.std.specs.List.{list_any}
use Rattle.misp_elem.specs.declared.visible.VisibleAttribute.{VisibleAttribute}
use Rattle.misp_elem.specs.declared.visible.VisibleEvent.{VisibleEvent}
use Rattle.misp_elem.specs.declared.visible.VisibleObject.{VisibleObject}
use Rattle.misp_search.specs.Fitting.{attribute_fits, attributes_of, event_fits, fits, has_hit, tags_of, wants_tags}
use Rattle.misp_search.specs.Window.{HaveCome, PageWindow}
use Rattle.misp_search.proofs.Coming.{filter_with}
use Rattle.misp_search.specs.declared.fitting.Filter.{Filter}

module _ {X : Type 0} (p : X → Bool) where
  -- ---- a test that holds of no item, or of those that pass another

  pub filter_where : (c : Bool) (xs : List X) → c ≡ true → filter (λ x. c && p x) xs ≡ filter p xs
  filter_where c xs h = ap (λ d. filter (λ x. d && p x) xs) h

  none_kept : (xs : List X) → filter (λ x. false && p x) xs ≡ []
  none_kept [] = refl
  none_kept (x ∷ xs) = none_kept xs

  pub filter_none : (c : Bool) (xs : List X) → c ≡ false → filter (λ x. c && p x) xs ≡ []
  filter_none c xs h = ap (λ d. filter (λ x. d && p x) xs) h ∙ none_kept xs

  -- ---- whether one fits

  none_any : (xs : List X) → list_any (λ x. false && p x) xs ≡ false
  none_any [] = refl
  none_any (x ∷ xs) = none_any xs

  any_both : (xs ys : List X) → list_any p (xs ++ ys) ≡ (list_any p xs || list_any p ys)
  any_both [] ys = refl
  any_both (x ∷ xs) ys = ap (λ b. p x || b) (any_both xs ys) ∙ turn (p x) (list_any p xs) (list_any p ys)
    where
      turn : (a b c : Bool) → (a || (b || c)) ≡ ((a || b) || c)
      turn true b c = refl
      turn false b c = refl

  any_each : {Y : Type 0} (g : Y → List X) (ys : List Y) → list_any p (flat_map g ys) ≡ list_any (λ y. list_any p (g y)) ys
  any_each g [] = refl
  any_each g (y ∷ ys) = any_both (g y) (flat_map g ys) ∙ ap (λ b. list_any p (g y) || b) (any_each g ys)

  pub any_of_all : {Y : Type 0} (g : Y → List X) (c : Bool) (xs : List X) (ys : List Y) → (c && (list_any p xs || list_any (λ y. list_any p (g y)) ys)) ≡ list_any (λ x. c && p x) (xs ++ flat_map g ys)
  any_of_all g true xs ys = sym (any_both xs (flat_map g ys) ∙ ap (λ b. list_any p xs || b) (any_each g ys))
  any_of_all g false xs ys = sym (none_any (xs ++ flat_map g ys))

-- ---- one event

module _ (f : Filter) (e : VisibleEvent) where
  module _ (tagged : Bool) (tags : tagged ≡ wants_tags f.tags (tags_of e.row.content)) where
    abbrev found : List VisibleAttribute
    found = filter (attribute_fits f tagged) e.attributes ++ filter (attribute_fits f tagged) (flat_map (λ (o : VisibleObject). o.attributes) e.objects)

    -- what fits of an event, where it is wanted; else nothing
    found_is : (wanted : Bool) → wanted ≡ event_fits f e.row → cond wanted found [] ≡ filter (fits f e) (attributes_of e)
    unfolding fits attributes_of
    found_is true is =
        sym (filter_with (attribute_fits f tagged) e.attributes (flat_map (λ (o : VisibleObject). o.attributes) e.objects))
        ∙ (λ i. filter (attribute_fits f (tags i)) (attributes_of e))
        ∙ sym (filter_where (attribute_fits f (wants_tags f.tags (tags_of e.row.content))) (event_fits f e.row) (attributes_of e) (sym is))
    found_is false is = sym (filter_none (attribute_fits f (wants_tags f.tags (tags_of e.row.content))) (event_fits f e.row) (attributes_of e) (sym is))

    pub of_event : (wanted : Bool) (old new : PageWindow VisibleAttribute) (attributes : List VisibleAttribute) (objects : List VisibleObject) → wanted ≡ event_fits f e.row → attributes ≡ e.attributes → objects ≡ e.objects
        → HaveCome (cond wanted (filter (attribute_fits f tagged) attributes ++ filter (attribute_fits f tagged) (flat_map (λ (o : VisibleObject). o.attributes) objects)) []) old new
        → HaveCome (filter (fits f e) (attributes_of e)) old new
    of_event wanted old new attributes objects is all inner come =
        subst (λ l. HaveCome l old new)
        ((λ i. cond wanted (filter (attribute_fits f tagged) (all i) ++ filter (attribute_fits f tagged) (flat_map (λ (o : VisibleObject). o.attributes) (inner i))) []) ∙ found_is wanted is)
        come

    abbrev one_fits : List VisibleAttribute → Bool
    one_fits = list_any (attribute_fits f tagged)

    abbrev inner_fits : List VisibleObject → Bool
    inner_fits = list_any (λ (o : VisibleObject). list_any (attribute_fits f tagged) o.attributes)

    hit_is : (event_fits f e.row && (one_fits e.attributes || inner_fits e.objects)) ≡ has_hit f e
    unfolding has_hit fits attributes_of
    hit_is =
        any_of_all (attribute_fits f tagged) (λ (o : VisibleObject). o.attributes) (event_fits f e.row) e.attributes e.objects
        ∙ (λ i. list_any (λ a. event_fits f e.row && attribute_fits f (tags i) a) (attributes_of e))

    -- an event that is not wanted has no hit; one that is has one outside objects or in objects
    pub no_hit : (wanted : Bool) → wanted ≡ event_fits f e.row → wanted ≡ false → wanted ≡ has_hit f e
    no_hit wanted is never =
        let event : event_fits f e.row ≡ false = sym is ∙ never in
        never ∙ sym (λ i. event i && (one_fits e.attributes || inner_fits e.objects)) ∙ hit_is

    pub outer_hit : (wanted one : Bool) (list : List VisibleAttribute) → wanted ≡ event_fits f e.row → wanted ≡ true → list ≡ e.attributes → one ≡ one_fits list → one ≡ true → one ≡ has_hit f e
    outer_hit wanted one list is said all tested found =
        let event : event_fits f e.row ≡ true = sym is ∙ said in
        let outer : one_fits e.attributes ≡ true = ap one_fits (sym all) ∙ sym tested ∙ found in
        found ∙ sym (λ i. event i && (outer i || inner_fits e.objects)) ∙ hit_is

    pub inner_hit : (wanted one two : Bool) (list : List VisibleAttribute) (others : List VisibleObject) → wanted ≡ event_fits f e.row → wanted ≡ true → list ≡ e.attributes → one ≡ one_fits list → one ≡ false
        → others ≡ e.objects → two ≡ inner_fits others → two ≡ has_hit f e
    inner_hit wanted one two list others is said all tested none rest inner =
        let event : event_fits f e.row ≡ true = sym is ∙ said in
        let outer : one_fits e.attributes ≡ false = ap one_fits (sym all) ∙ sym tested ∙ none in
        let within : inner_fits e.objects ≡ two = ap inner_fits (sym rest) ∙ sym inner in
        sym (λ i. event i && (outer i || within i)) ∙ hit_is
