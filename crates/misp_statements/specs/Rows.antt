-- The rows of statements.
use Rattle.std.specs.Prelude.{ℕ, List, Option, Some, None, false}
use Rattle.misp_elem.specs.declared.content.SightingBody.{SightingBody}
use Rattle.misp_model.specs.Prelude.{Content, EventId, Inst, Key, Label, OrgId, Place, Proposal, ProposalBody, Row, Sighting, Stamp}
use Rattle.misp_model.specs.declared.statement.ProposalDraftFields.{ProposalDraftFields as ProposalDraft}
use Rattle.misp_model.specs.declared.statement.SightingDraftFields.{SightingDraftFields as SightingDraft}

-- the row of a statement that its owner makes at this moment
abbrev pub statement_row : OrgId → Stamp → Key → Content → Row
statement_row w now k c =
    record {
      owner = w;
      key = k;
      stamp = now;
      label = Label.Inherit;
      held = false;
      carried = false;
      content = c;
    }

-- the key of a proposal that the organisation makes at the instance
abbrev pub key_of_proposal : Inst → OrgId → ProposalDraft → Key
key_of_proposal i o d =
    Proposal d.event (record { target = d.target; at = i; by = o; uuid = d.uuid })

-- the body, under the name of its organisation
abbrev pub named : List ℕ → ProposalBody → ProposalBody
named name body = record body { by_name = name }

-- the row of a proposal
abbrev pub proposal_row : Inst → OrgId → List ℕ → Stamp → ProposalDraft → Row
proposal_row i o name now d =
    statement_row o now (key_of_proposal i o d) (Content.Proposal (named name d.body))

-- the date that a sighting gives, or else the moment
abbrev pub date_of_sighting : Stamp → Option Stamp → Stamp
date_of_sighting now (Some date) = date
date_of_sighting now None = now

-- the body of a sighting, under the name of its organisation
abbrev pub sighting_body : List ℕ → Stamp → SightingDraft → SightingBody
sighting_body name now d =
    record {
      by_name = name;
      kind = d.kind;
      date = date_of_sighting now d.date;
      source = d.source;
    }

-- the row of a sighting
abbrev pub sighting_row : Inst → OrgId → List ℕ → Stamp → EventId → Place → SightingDraft → Row
sighting_row i o name now e t d =
    statement_row o now (Sighting e t i o d.uuid) (Content.Sighting (sighting_body name now d))
