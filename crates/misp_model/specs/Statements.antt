-- Proposals, sightings and verdicts: the rules that refuse them, and what they write.
use Rattle.std.specs.Prelude.{Bool, not, List, [], ◌∷◌, Some, None, true, false, ◌&&◌, Option, cond, ◌||◌, ◌++◌, find}
use Rattle.misp_elem.specs.declared.key.KeyForm.{KeyForm as Key}
use Rattle.misp_elem.specs.declared.key.KeyForm.TheVariants.{Proposal, Element, Sighting, Verdict}
use Rattle.misp_elem.specs.Prelude.{ElemId, EventId, Label, event_key, list_any, same_key, uuid_at}
use Rattle.misp_elem.specs.declared.key.Place.{Place}
use Rattle.misp_elem.specs.declared.key.ProposalName.{ProposalName}
use Rattle.misp_elem.specs.declared.row.RowFields.{RowFields as Row}
use Rattle.misp_elem.specs.declared.content.Content.{Content}
use Rattle.misp_elem.specs.declared.content.ProposalBody.{ProposalBody}
use Rattle.misp_elem.specs.declared.content.AttributeBody.{AttributeBody}
use Rattle.misp_model.specs.declared.statement.ProposalDraftFields.{ProposalDraftFields as ProposalDraft}
use Rattle.misp_model.specs.Scene.{Scene, sees, sees_live, Rule, NotGranted, EventGone, ProposalExists, holds_tombstone, written, ElementExists, changed_row, own_live, TimeLimit, ProposalClosed, ElementFull, is_too_long, own_row_is}
use Rattle.misp_model.specs.Scene.{is_at_limit, bars}
use Rattle.misp_model.specs.View.{is_row_of, is_least, granted}
use Rattle.misp_model.specs.Version.{Version}
use Rattle.misp_model.specs.declared.statement.SightingDraftFields.{SightingDraftFields as SightingDraft}
use Rattle.misp_model.specs.Edits.{at_attribute}
use Rattle.misp_model.specs.Adding.{is_taken}

-- the key of the caller's own proposal
unfoldable pub proposal_key : Scene → ProposalDraft → Key
proposal_key s d =
    Proposal d.event (record { target = d.target; at = s.at; by = s.by; uuid = d.uuid })

-- what a statement on a place wants: the event granted, or the element granted and live
unfoldable pub sees_target : Scene → EventId → Place → Bool
sees_target s e Place.Event = sees s (event_key e)
sees_target s e (Place.Object x) = sees_live s (Element e (Place.Object x))
sees_target s e (Place.Attribute a) = sees_live s (Element e (Place.Attribute a))
sees_target s e (Place.ObjectAttribute x a) = sees_live s (Element e (Place.ObjectAttribute x a))

unfoldable pub propose_rules : Scene → ProposalDraft → List (Bool × Rule)
propose_rules s d =
    (not (sees_target s d.event d.target), NotGranted) ∷ (holds_tombstone s d.event, EventGone)
    ∷ (list_any (is_row_of s.by (proposal_key s d)) s.rows, ProposalExists) ∷ []

unfoldable pub propose_writes : Scene → ProposalDraft → List Version
propose_writes s d =
    written s (proposal_key s d) s.now Label.Inherit
    (Content.Proposal (record d.body { by_name = s.by_name }))
    ∷ []

-- the key of the caller's own sighting
unfoldable pub sighting_key : Scene → EventId → Place → SightingDraft → Key
sighting_key s e t d = Sighting e t s.at s.by d.uuid

unfoldable pub sight_rules : Scene → EventId → Place → SightingDraft → List (Bool × Rule)
sight_rules s e t d =
    (not (sees_live s (Element e t)), NotGranted) ∷ (holds_tombstone s e, EventGone)
    ∷ (list_any (is_row_of s.by (sighting_key s e t d)) s.rows, ElementExists) ∷ []

unfoldable pub sight_writes : Scene → EventId → Place → SightingDraft → List Version
sight_writes s e t d =
    written s (sighting_key s e t d) s.now Label.Inherit
    (Content.Sighting (record {
      by_name = s.by_name;
      kind = d.kind;
      date = elim d.date [ Some x ↦ x | None ↦ s.now ];
      source = d.source;
    }))
    ∷ []

-- the place that the acceptance of a proposal changes or makes
unfoldable pub judged_at : Place → ElemId → Place
judged_at Place.Event u = Place.Attribute u
judged_at (Place.Object x) u = Place.Object x
judged_at (Place.Attribute a) u = Place.Attribute a
judged_at (Place.ObjectAttribute x a) u = Place.ObjectAttribute x a

unfoldable pub judged_place : ProposalName → Place
judged_place n = judged_at n.target n.uuid

-- the proposal is for a new attribute
unfoldable pub is_for_new : ProposalName → Bool
is_for_new n =
    elim n.target [
      | Place.Event ↦ true
      | Place.Object x ↦ false
      | Place.Attribute a ↦ false
      | Place.ObjectAttribute x a ↦ false
    ]

-- the proposal as the caller sees it: the row of the least owner whose row is granted
unfoldable pub proposal_row : Scene → EventId → ProposalName → Option Row
proposal_row s e n =
    find (λ row. same_key row.key (Proposal e n) && is_least s.rows s.groups s.at s.by row) s.rows

-- the body in a proposal's row
unfoldable pub proposal_body : Content → Option ProposalBody
proposal_body (Content.Proposal b) = Some b
proposal_body (Content.Attribute b) = None
proposal_body (Content.Event b) = None
proposal_body (Content.Object b) = None
proposal_body (Content.Reference b) = None
proposal_body (Content.Verdict b) = None
proposal_body (Content.Sighting b) = None
proposal_body Content.Gone = None

-- an attribute as the proposal makes it: deleted, or with the proposal's texts and the rest its own
unfoldable pub accepted : ProposalBody → AttributeBody → AttributeBody
accepted p b =
    cond p.remove (record b { deleted = true })
    (record b {
      kind = p.kind;
      category = p.category;
      to_ids = p.to_ids;
      comment = p.comment;
      value = p.value;
    })

-- a new attribute as the proposal makes it
unfoldable pub made : ProposalBody → AttributeBody
made p =
    record {
      kind = p.kind;
      category = p.category;
      to_ids = p.to_ids;
      comment = p.comment;
      deleted = false;
      value = p.value;
      tags = [];
      object_relation = [];
      first_seen = None;
      last_seen = None;
    }

unfoldable pub body_seen : Scene → EventId → ProposalName → Option ProposalBody
body_seen s e n = elim (proposal_row s e n) [ None ↦ None | Some row ↦ proposal_body row.content ]

-- the change that an acceptance writes
unfoldable pub acceptance : Scene → EventId → ProposalName → ProposalBody → List Version
acceptance s e n p =
    cond (is_for_new n)
    (written s (Element e (judged_place n)) s.now Label.Inherit (Content.Attribute (made p)) ∷ [])
    (changed_row s (Element e (judged_place n)) (λ row. row.label) (at_attribute (accepted p)))

unfoldable pub judge_writes : Scene → EventId → ProposalName → Bool → List Version
judge_writes s e n accept =
    written s (Verdict e n s.at s.by) s.now Label.Inherit (Content.Verdict accept)
    ∷ cond accept (elim (body_seen s e n) [ None ↦ [] | Some p ↦ acceptance s e n p ]) []

-- the proposal is granted, and its target is live in the own copy
unfoldable pub can_judge : Scene → EventId → ProposalName → Bool
can_judge s e n =
    list_any
    (λ row. same_key row.key (Proposal e n) && granted s.rows s.groups s.at s.by row) s.rows
    && (is_for_new n || own_live s (Element e n.target))

unfoldable pub judge_rules : Scene → EventId → ProposalName → Bool → List (Bool × Rule)
judge_rules s e n accept =
    bars s e (can_judge s e n)
    ++ (accept && (is_for_new n && is_taken s e (uuid_at e (judged_place n))), ElementExists)
    ∷ (accept && is_at_limit s (Element e (judged_place n)), TimeLimit)
    ∷ (list_any (is_row_of s.by (Verdict e n s.at s.by)) s.rows, ProposalClosed)
    ∷ (
      accept && elim (body_seen s e n) [
        | None ↦ false
        | Some p ↦ own_row_is s (Element e (judged_place n))
            (λ row. is_too_long (at_attribute (accepted p) row.content))
      ],
      ElementFull,
    )
    ∷ []
