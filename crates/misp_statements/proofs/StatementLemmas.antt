-- Rules and rows of statements.
use Rattle.std.proofs.Common.{◌≡◌, List, [], ◌∷◌, Bool, refl, ap, sym, ◌∙◌, not, subst, Option, Some, None, ℕ, nat_le, ◌==◌}
use Rattle.misp_elem.specs.Fields.{IsText, IsStamp}
use Rattle.misp_elem.specs.Key.{IsKey, place_kind}
use Rattle.misp_elem.specs.Contents.{IsProposalBody}
use Rattle.misp_elem.specs.declared.content.SightingBody.{SightingBody}
use Rattle.misp_elem.specs.Row.{IsRow}
use Rattle.misp_model.specs.Prelude.{Content, EventId, Inst, Key, OrgId, Place, ProposalBody, Row, Rule, Scene, Stamp, ask_rules, brings, first_rule, propose_rules, propose_writes, proposal_key, sight_rules, sight_writes}
use Rattle.misp_model.specs.Prelude.{sighting_key, Sighting, written}
use Rattle.misp_model.specs.declared.ask.Ask.TheVariants.{Propose, Sight}
use Rattle.misp_model.specs.declared.statement.ProposalDraftFields.{ProposalDraftFields as ProposalDraft}
use Rattle.misp_model.specs.declared.statement.SightingDraftFields.{SightingDraftFields as SightingDraft}
use Rattle.misp_model.specs.Statement.{IsProposalDraft, IsSightingDraft}
use Rattle.misp_history.proofs.Prelude.{fresh_row, is_statement}
use Rattle.misp_copies.specs.Barring.{Refuses, rule_of}
use Rattle.misp_copies.specs.declared.change_fault.ChangeFault.{ChangeFault}
use Rattle.misp_copies.specs.declared.change_fault.ChangeFault.TheVariants.{NoMemory}
use Rattle.misp_statements.specs.Rows.{date_of_sighting, key_of_proposal, named, proposal_row, sighting_body, sighting_row, statement_row}
use Rattle.misp_statements.specs.Saving.{Saves}

-- ---- rules

-- rules whose tests agree
pub same_rules : (p q r : Rule) (a b c x y z : Bool) → a ≡ x → b ≡ y → c ≡ z →
    first_rule ((not a, p) ∷ (b, q) ∷ (c, r) ∷ []) ≡ first_rule ((not x, p) ∷ (y, q) ∷ (z, r) ∷ [])
same_rules p q r a b c x y z f g h = λ i. first_rule ((not (f i), p) ∷ (g i, q) ∷ (h i, r) ∷ [])

-- the fault whose rule is the first
pub refused : (rules : List (Bool × Rule)) (fault : ChangeFault) → rule_of fault ≡ first_rule rules → Refuses rules fault
refused rules NoMemory h = tt
refused rules _ h = sym h

-- ---- rows

-- the row of a proposal that nothing refuses is what it brings
pub proposed : (s : Scene) (d : ProposalDraft) (rows : List Row) → None ≡ first_rule (propose_rules s d) → rows ≡ proposal_row s.at s.by s.by_name s.now d ∷ [] → Saves s (Propose d) rows
unfolding ask_rules brings propose_writes proposal_key written fresh_row is_statement
proposed s d rows n h = (sym n, h)

-- who may ask to delete, as a draft and as a key say it
may_same : (p : Place) → nat_le 1 (place_kind p) ≡ not (place_kind p == 0)
may_same Place.Event = refl
may_same (Place.Object x) = refl
may_same (Place.Attribute a) = refl
may_same (Place.ObjectAttribute x a) = refl

-- the row of a proposal is one
own_proposal : (i : Inst) (o : OrgId) (name : List ℕ) (now : Stamp) (d : ProposalDraft) → IsKey (key_of_proposal i o d) → IsText 0 64 name → IsStamp now → IsProposalDraft d → IsRow (proposal_row i o name now d)
own_proposal i o name now d (event, (target, (at, (by, uuid)))) text stamp (e, (t, (u, (none, (removal, (by_name, rest)))))) =
    (by, ((event, (target, (at, (by, uuid)))), (stamp, ((refl, tt), (tt, (refl, subst (λ may. IsProposalBody may (named name d.body)) (may_same d.target) (removal, (text, rest))))))))

-- the same by what the key and the body are
pub proposal_is_row : (i : Inst) (o : OrgId) (name : List ℕ) (now : Stamp) (d : ProposalDraft) (k : Key) (b : ProposalBody) → k ≡ key_of_proposal i o d → b ≡ named name d.body →
    IsKey k → IsText 0 64 name → IsStamp now → IsProposalDraft d → IsRow (statement_row o now k (Content.Proposal b))
proposal_is_row i o name now d k b f g key text stamp fits =
    subst (λ x. IsRow (statement_row o now x (Content.Proposal b))) (sym f)
    (subst (λ x. IsRow (statement_row o now (key_of_proposal i o d) (Content.Proposal x))) (sym g)
    (own_proposal i o name now d (subst IsKey f key) text stamp fits))

-- the date of a sighting, as misp_model has it
given_date : (now : Stamp) (o : Option Stamp) → date_of_sighting now o ≡ (elim o as (λ x. Stamp) [ Some x ↦ x | None ↦ now ])
given_date now (Some x) = refl
given_date now None = refl

-- the row of a sighting of this date
sighting_with : Inst → OrgId → List ℕ → Stamp → EventId → Place → SightingDraft → Stamp → Row
sighting_with i o name now e t d date =
    statement_row o now (Sighting e t i o d.uuid) (Content.Sighting (record { by_name = name; kind = d.kind; date = date; source = d.source }))

-- the row of a sighting that nothing refuses is what it brings
pub sighted : (s : Scene) (e : EventId) (t : Place) (d : SightingDraft) (rows : List Row) → None ≡ first_rule (sight_rules s e t d) → rows ≡ sighting_row s.at s.by s.by_name s.now e t d ∷ [] → Saves s (Sight e t d) rows
unfolding ask_rules brings sight_writes sighting_key written fresh_row is_statement sighting_with
sighted s e t d rows n h = (sym n, h ∙ ap (λ date. sighting_with s.at s.by s.by_name s.now e t d date ∷ []) (given_date s.now d.date))

-- the row of a sighting is one
own_sighting : (i : Inst) (o : OrgId) (name : List ℕ) (now : Stamp) (e : EventId) (t : Place) (d : SightingDraft) → IsKey (Sighting e t i o d.uuid) → IsText 0 64 name → IsStamp now → IsStamp (date_of_sighting now d.date) →
    IsSightingDraft d →
    IsRow (sighting_row i o name now e t d)
own_sighting i o name now e t d (event, (target, (at, (by, uuid)))) text stamp date (u, (kind, source)) =
    (by, ((event, (target, (at, (by, uuid)))), (stamp, ((refl, tt), (tt, (refl, (text, (kind, (date, source)))))))))

-- the same by what the key and the body are
pub sighting_is_row : (i : Inst) (o : OrgId) (name : List ℕ) (now : Stamp) (e : EventId) (t : Place) (d : SightingDraft) (k : Key) (b : SightingBody) → k ≡ Sighting e t i o d.uuid → b ≡ sighting_body name now d →
    IsKey k → IsText 0 64 name → IsStamp now → IsStamp b.date → IsSightingDraft d → IsRow (statement_row o now k (Content.Sighting b))
sighting_is_row i o name now e t d k b f g key text stamp date fits =
    subst (λ x. IsRow (statement_row o now x (Content.Sighting b))) (sym f)
    (subst (λ x. IsRow (statement_row o now (Sighting e t i o d.uuid) (Content.Sighting x))) (sym g)
    (own_sighting i o name now e t d (subst IsKey f key) text stamp (subst (λ (x : SightingBody). IsStamp x.date) g date) fits))
