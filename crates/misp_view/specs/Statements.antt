-- The statements that show, of those that are granted.
use Rattle.std.specs.Prelude.{Bool, true, false, not, ◌&&◌, List}
use Rattle.misp_model.specs.Prelude.{Element, Key, OrgId, Proposal, Reference, Row, Sighting, Verdict, is_statement, list_any, same_org}
use Rattle.misp_model.specs.Shown.{is_verdict_on}
use Rattle.misp_copies.specs.declared.copy_view.CopyView.{CopyView}
use Rattle.misp_copies.specs.Keys.{is_about}
use Rattle.misp_copies.specs.StatementsByKey.{is_lesser}
use Rattle.misp_copies.specs.Grants.{granted_in}

-- it is a statement, and granted
unfoldable pub is_told : CopyView → Row → Bool
is_told v row =
    is_statement row.key
    && granted_in v.grants v.who.now.groups.now v.who.now.here v.who.now.org row

-- it is a proposal; a sighting
unfoldable pub is_proposal : Key → Bool
is_proposal (Proposal e n) = true
is_proposal (Element e p) = false
is_proposal (Reference e x t u) = false
is_proposal (Verdict e n i o) = false
is_proposal (Sighting e t i o u) = false

unfoldable pub is_sighting : Key → Bool
is_sighting (Sighting e t i o u) = true
is_sighting (Element e p) = false
is_sighting (Reference e x t u) = false
is_sighting (Proposal e n) = false
is_sighting (Verdict e n i o) = false

-- of these none is of the row's key and of a lesser owner
unfoldable pub is_least_of : List Row → Row → Bool
is_least_of told row = not (list_any (is_lesser row) told)

-- one of these is a verdict on the proposal by the judge
unfoldable pub is_closed_by : List Row → OrgId → Key → Bool
is_closed_by told judge k = list_any (λ row. is_verdict_on k judge row.key) told

-- it is a verdict of the judge
unfoldable pub is_verdict_of : OrgId → Key → Bool
is_verdict_of judge (Verdict e n i o) = same_org o judge
is_verdict_of judge (Element e p) = false
is_verdict_of judge (Reference e x t u) = false
is_verdict_of judge (Proposal e n) = false
is_verdict_of judge (Sighting e t i o u) = false

-- it is a proposal of the least of these owners, and none of these verdicts is about it
unfoldable pub is_open_among : List Row → List Row → Row → Bool
is_open_among by_key verdicts row =
    is_proposal row.key && is_least_of by_key row
    && not (list_any (λ r. is_about row.key r.key) verdicts)

-- it is a proposal of the least owner, and not closed
unfoldable pub is_open_proposal : List Row → OrgId → Row → Bool
is_open_proposal told judge row =
    is_proposal row.key && is_least_of told row && not (is_closed_by told judge row.key)

-- it is a sighting of the least owner
unfoldable pub is_least_sighting : List Row → Row → Bool
is_least_sighting told row = is_sighting row.key && is_least_of told row
