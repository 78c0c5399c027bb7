-- Proposals and sightings, as bodies bring them.
use Rattle.std.specs.Prelude.{◌≡◌, Bool, nat_le, []}
use Rattle.misp_elem.specs.Prelude.{IsPlaceBut, IsUid, of_proposal, place_kind}
use Rattle.misp_elem.specs.Fields.{IsText, IsBetween, text_limit}
use Rattle.misp_elem.specs.Contents.{IsProposalBody}
use Rattle.misp_model.specs.declared.statement.ProposalDraftFields.{ProposalDraftFields}
use Rattle.misp_model.specs.declared.statement.SightingDraftFields.{SightingDraftFields}

-- what is there may be asked to be deleted, and so not a new attribute of the event
abbrev pub may_remove : ProposalDraftFields → Bool
may_remove d = nat_le 1 (place_kind d.target)

-- a proposal for the event or an attribute, without the name of its organisation
abbrev pub IsProposalDraft : ProposalDraftFields → Type 0
IsProposalDraft d =
    IsUid d.event.0
    × (IsPlaceBut of_proposal d.target
    × (IsUid d.uuid.0
    × ((d.body.by_name ≡ [])
    × IsProposalBody (may_remove d) d.body)))

-- a sighting of one of the three kinds
abbrev pub IsSightingDraft : SightingDraftFields → Type 0
IsSightingDraft d =
    IsUid d.uuid.0
    × (IsBetween 0 2 d.kind
    × IsText 0 text_limit d.source)
