-- What is asked once of a row says as much as what was asked twice.
use Rattle.std.proofs.Common.{◌≡◌, List, Bool, true, false, refl, ap, sym, ◌∙◌, ◌&&◌, ◌||◌, not, Option, filter}
use Rattle.std.proofs.lemmas.Bool.{or_right}
use Rattle.misp_lists.proofs.Lists.{filter_within}
use Rattle.misp_model.proofs.Prelude.{Element, EventId, Group, Key, OrgId, Proposal, Reference, Row, Sighting, Verdict, event_key, is_statement, list_all, list_any, parents, same_key, same_key-sound}
use Rattle.misp_history.specs.Passing.{Route, lets_out}
use Rattle.misp_copies.specs.Keys.{is_about}
use Rattle.misp_copies.specs.StatementsByKey.{is_lesser}
use Rattle.misp_copies.specs.StatementsByTarget.{IsByTarget}
use Rattle.misp_package.specs.declared.passing.Passage.{Passage}
use Rattle.misp_package.specs.Passing.{goes, goes_by, goes_on, is_all_out, is_at, is_eligible, is_out, is_owner_sent}

-- of what is known, that of others is granted
module _ {X : Type 0} (own granted : X → Bool) where
  of_known : (xs : List X) → filter (λ x. not (own x) || granted x) (filter (λ x. own x || granted x) xs) ≡ filter granted (filter (λ x. own x || granted x) xs)
  of_known xs =
      filter_within (λ x. not (own x) || granted x) granted (λ x. own x || granted x) (λ x. same (own x) (granted x)) part xs
      ∙ sym (filter_within granted granted (λ x. own x || granted x) (λ x h. refl) part xs)
    where
      same : (o g : Bool) → (o || g) ≡ true → (not o || g) ≡ g
      same true g h = refl
      same false g h = sym h

      part : (x : X) → granted x ≡ true → (own x || granted x) ≡ true
      part x h = or_right _ _ h

  pub granted_once : (rows ks gs : List X) → ks ≡ filter (λ x. own x || granted x) rows → gs ≡ filter (λ x. not (own x) || granted x) ks → gs ≡ filter granted ks
  granted_once rows ks gs k g = g ∙ ap (filter (λ x. not (own x) || granted x)) k ∙ of_known rows ∙ ap (filter granted) (sym k)

-- the eligible rows that are no statements are the elements and references that pass
module _ (sent : Option OrgId) (out : List Row) (groups : List Group) (route : Route) where
  no_statements : (gs : List Row) → filter (λ r. not (is_statement r.key)) (filter (is_eligible sent out groups route) gs) ≡ filter (is_all_out sent out groups route) gs
  unfolding is_eligible is_all_out is_out
  no_statements gs =
      filter_within (λ r. not (is_statement r.key)) (is_all_out sent out groups route) (is_eligible sent out groups route)
      (λ r. same (is_statement r.key) (is_owner_sent sent r.owner) (lets_out groups route r) (list_all (is_at out) (parents r.key))) (λ r h. or_right _ _ h) gs
    where
      same : (s o l a : Bool) → (s || (not s && o && l && a)) ≡ true → not s ≡ (not s && o && l && a)
      same true o l a h = refl
      same false o l a h = sym h

  pub elements_are : (list es gs : List Row) (told : Bool) → told ≡ true → es ≡ filter (is_eligible sent out groups route) gs → IsByTarget list (filter (λ r. told && not (is_statement r.key)) es) →
      IsByTarget list (filter (is_all_out sent out groups route) gs)
  elements_are list es gs told t e h = λ k.
      h k ∙ ap (λ b. filter (λ r. is_about k r.key) (filter (λ r. b && not (is_statement r.key)) es)) t
      ∙ ap (filter (λ r. is_about k r.key)) (ap (filter (λ r. not (is_statement r.key))) e ∙ no_statements gs)

-- the eligible rows that pass are the granted rows that pass
module _ (p : Passage) (groups : List Group) (route : Route) where
  same_by : (a least : Bool) (k : Key) → (is_statement k || a) ≡ true → goes_by p.elements true least k ≡ goes_by p.elements a least k
  unfolding is_statement goes_by
  same_by a least (Element e t) h = sym h
  same_by a least (Reference e x t u) h = sym h
  same_by a least (Proposal e n) h = refl
  same_by a least (Verdict e n j v) h = refl
  same_by a least (Sighting e t j v u) h = refl

  part_by : (a least : Bool) (k : Key) → goes_by p.elements a least k ≡ true → (is_statement k || a) ≡ true
  unfolding is_statement goes_by
  part_by a least (Element e t) h = h
  part_by a least (Reference e x t u) h = h
  part_by a least (Proposal e n) h = refl
  part_by a least (Verdict e n j v) h = refl
  part_by a least (Sighting e t j v u) h = refl

  going_on : (gs : List Row) → filter (goes_on p) (filter (is_eligible p.sent p.out groups route) gs) ≡ filter (goes p groups route) gs
  unfolding goes goes_on is_eligible
  going_on gs =
      filter_within (goes_on p) (goes p groups route) (is_eligible p.sent p.out groups route)
      (λ x h. same_by (is_all_out p.sent p.out groups route x) (not (list_any (is_lesser x) p.by_key)) x.key h)
      (λ x h. part_by (is_all_out p.sent p.out groups route x) (not (list_any (is_lesser x) p.by_key)) x.key h) gs

  pub going_once : (gs es list : List Row) → es ≡ filter (is_eligible p.sent p.out groups route) gs → list ≡ filter (goes_on p) es → list ≡ filter (goes p groups route) gs
  going_once gs es list e l = l ∙ ap (filter (goes_on p)) e ∙ going_on gs

-- the rows have one about the event where they have one about a key that is the same
pub at_event : (rows : List Row) (k : Key) (e : EventId) (has : Bool) → has ≡ list_any (λ r. is_about (event_key e) r.key) rows → same_key k (event_key e) ≡ true → has ≡ is_at rows k
unfolding is_at
at_event rows k e has h s = h ∙ ap (λ j. list_any (λ r. is_about j r.key) rows) (sym (same_key-sound k (event_key e) s))
