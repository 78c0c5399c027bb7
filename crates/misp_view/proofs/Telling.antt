-- Which statements show, of those that are granted.
use Rattle.std.proofs.Common.{◌≡◌, Bool, ap, sym, ◌∙◌, List, not, ◌&&◌, filter, IsPermutation}
use Rattle.std.proofs.lemmas.List.Sorted.{list_any-IsPermutation}
use Rattle.misp_lists.proofs.Lists.{any_of_kept, any_alike}
use Rattle.misp_model.specs.Prelude.{Key, OrgId, Row, in_order, list_any}
use Rattle.misp_copies.specs.Keys.{is_about}
use Rattle.misp_copies.specs.StatementsByTarget.{IsByTarget}
use Rattle.misp_copies.specs.StatementsByKey.{is_lesser}
use Rattle.misp_view.specs.Order.{goes_before}
use Rattle.misp_view.specs.Statements.{is_proposal, is_sighting, is_verdict_of, is_least_of, is_closed_by, is_open_among, is_open_proposal, is_least_sighting}
use Rattle.misp_view.proofs.StatementKeys.{by_is}

-- the verdicts of the judge by what they are about
pub verdicts_are : (told list verdicts : List Row) (judge : OrgId) → list ≡ filter (λ (r : Row). is_verdict_of judge r.key) told → IsByTarget verdicts list →
    (k : Key) → list_any (λ (r : Row). is_about k r.key) verdicts ≡ is_closed_by told judge k
unfolding is_closed_by
verdicts_are told list verdicts judge e h k =
    any_alike (λ (r : Row). is_about k r.key) verdicts list (h k)
    ∙ ap (list_any (λ (r : Row). is_about k r.key)) e
    ∙ any_of_kept (λ (r : Row). is_about k r.key) (λ (r : Row). is_verdict_of judge r.key) told
    ∙ ap (λ (test : Row → Bool). list_any test told) (λ j r. by_is k r.key judge j)

module _ (told by_key : List Row) (same : IsPermutation told by_key) where
  least_same : (row : Row) → is_least_of by_key row ≡ is_least_of told row
  unfolding is_least_of
  least_same row = ap not (sym (list_any-IsPermutation (is_lesser row) told by_key same))

  pub sightings_are : (list ordered sightings : List Row) → list ≡ filter (is_least_sighting by_key) told → ordered ≡ in_order goes_before list → IsByTarget sightings ordered →
      IsByTarget sightings (in_order goes_before (filter (is_least_sighting told) told))
  unfolding is_least_sighting
  sightings_are list ordered sightings e f h k =
      h k ∙ ap (filter (λ (r : Row). is_about k r.key))
      (f ∙ ap (in_order goes_before) (e ∙ ap (λ (test : Row → Bool). filter test told) (λ j row. is_sighting row.key && least_same row j)))

  pub proposals_are : (verdicts : List Row) (judge : OrgId) → ((k : Key) → list_any (λ (r : Row). is_about k r.key) verdicts ≡ is_closed_by told judge k) →
      (list ordered proposals : List Row) → list ≡ filter (is_open_among by_key verdicts) told → ordered ≡ in_order goes_before list → IsByTarget proposals ordered →
      IsByTarget proposals (in_order goes_before (filter (is_open_proposal told judge) told))
  unfolding is_open_among is_open_proposal
  proposals_are verdicts judge closed list ordered proposals e f h k =
      h k ∙ ap (filter (λ (r : Row). is_about k r.key))
      (f ∙ ap (in_order goes_before) (e ∙ ap (λ (test : Row → Bool). filter test told) (λ j row. is_proposal row.key && least_same row j && not (closed row.key j))))
