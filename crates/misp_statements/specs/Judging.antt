-- Accepting and discarding a proposal, without a scene.
use Rattle.std.specs.Prelude.{◌≡◌, ℕ, Bool, true, false, ◌&&◌, ◌||◌, ltb, eqb, cond, List, [], ◌∷◌, Option, Some, None, find}
use Rattle.misp_model.specs.Prelude.{Content, Element, EventId, Group, Inst, Key, Label, OrgId, Proposal, ProposalBody, ProposalName, Row, Rule, Stamp, Verdict, accepted, at_attribute, event_key, first_rule, granted}
use Rattle.misp_model.specs.Prelude.{granted_somewhere, has_copy}
use Rattle.misp_model.specs.Prelude.{has_home, is_for_new, is_least, is_row_of, is_too_long, judged_place, last_stamp, list_any, made, row_passes, same_key, uuid_at}
use Rattle.misp_model.specs.Statements.{proposal_body}
use Rattle.misp_copies.specs.Barring.{barring, or_else}
use Rattle.misp_copies.specs.OwnRows.{has_live}
use Rattle.misp_copies.specs.Renewing.{renewed}
use Rattle.misp_copies.specs.Uuids.{is_used}
use Rattle.misp_copies.specs.declared.change_fault.ChangeFault.{ChangeFault}
use Rattle.misp_copies.specs.declared.change_fault.ChangeFault.TheVariants.{ElementFull, NoMemory}
use Rattle.misp_statements.specs.Rows.{statement_row}
use Rattle.misp_model.specs.Scene as rule

-- ---- the proposal as its judge sees it

-- there is a number, and it is below this one
abbrev pub is_below : Option ℕ → ℕ → Bool
is_below None n = false
is_below (Some m) n = ltb m n

-- the row is a granted one of the key, of an owner below this number
unfoldable pub is_lesser : List Row → List Group → Inst → OrgId → Key → ℕ → Row → Bool
is_lesser rows groups here o k n row =
    same_key row.key k && ltb row.owner.0.0 n && granted rows groups here o row

-- the least number of an owner who has a granted row of the key
abbrev pub IsLeastOwner :
    Option ℕ → List Row → List Group → Inst → OrgId → Key → List Row → Type 0
IsLeastOwner least rows groups here o k those =
    (n : ℕ) → is_below least n ≡ list_any (is_lesser rows groups here o k n) those

-- the row is that of the key of the least owner whose row is granted
unfoldable pub is_seen : List Row → List Group → Inst → OrgId → Key → Row → Bool
is_seen rows groups here o k row = same_key row.key k && is_least rows groups here o row

-- the body in such a row
abbrev pub body_in : Option Row → Option ProposalBody
body_in None = None
body_in (Some row) = proposal_body row.content

-- it, where it is accepted
unfoldable pub if_accepted : {A : Type 0} → Bool → Option A → Option A
if_accepted accept x = cond accept x None

-- the body of the proposal that is accepted
unfoldable pub body_accepted :
    List Row → List Group → Inst → OrgId → EventId → ProposalName → Bool → Option ProposalBody
body_accepted rows groups here o e n accept =
    if_accepted accept (body_in (find (is_seen rows groups here o (Proposal e n)) rows))

-- the caller's row of what is accepted
unfoldable pub own_accepted : List Row → OrgId → EventId → ProposalName → Bool → Option Row
own_accepted rows o e n accept =
    if_accepted accept (find (is_row_of o (Element e (judged_place n))) rows)

-- ---- rules

-- the row of the key is granted
unfoldable pub is_granted_of : List Row → List Group → Inst → OrgId → Key → Row → Bool
is_granted_of rows groups here o k row =
    same_key row.key k && granted rows groups here o row

-- the proposal is granted, and is for a new attribute or for one that is live
unfoldable pub may_judge : List Row → List Group → Inst → OrgId → EventId → ProposalName → Bool
may_judge rows groups here o e n =
    list_any (is_granted_of rows groups here o (Proposal e n)) rows
    && (is_for_new n || has_live rows o (Element e n.target))

-- the caller has judged it
unfoldable pub has_verdict : List Row → Inst → OrgId → EventId → ProposalName → Bool
has_verdict rows here o e n = list_any (is_row_of o (Verdict e n here o)) rows

-- what is accepted is a new attribute whose uuid the copy has
unfoldable pub is_there : List Row → OrgId → EventId → ProposalName → Bool → Bool
is_there rows o e n accept =
    accept && (is_for_new n && is_used rows o e (uuid_at e (judged_place n)))

-- the rules that look at what is accepted, and at the caller's verdict
unfoldable pub late_rules :
    List Row → Inst → OrgId → EventId → ProposalName → Bool → List (Bool × Rule)
late_rules rows here o e n accept =
    (is_there rows o e n accept, rule.ElementExists)
    ∷ (
      row_passes (λ row. eqb row.stamp last_stamp) (own_accepted rows o e n accept),
      rule.TimeLimit,
    )
    ∷ (has_verdict rows here o e n, rule.ProposalClosed) ∷ []

-- which rule refuses the verdict, before the texts of what is accepted are looked at
unfoldable pub ruling :
    List Row → List Group → Inst → OrgId → EventId → ProposalName → Bool → Option Rule
ruling rows groups here o e n accept =
    or_else (barring (has_home rows o e) (has_copy rows o e)
    (granted_somewhere rows groups here o (event_key e)) (may_judge rows groups here o e n))
    (first_rule (late_rules rows here o e n accept))

-- the row would be too long with what is accepted
unfoldable pub is_full : Option ProposalBody → Option Row → Bool
is_full None own = false
is_full (Some p) own = row_passes (λ row. is_too_long (at_attribute (accepted p) row.content)) own

-- it is, or memory ran out
abbrev pub IsFullBy : Option ProposalBody → Option Row → ChangeFault → Type 0
IsFullBy body own ElementFull = is_full body own ≡ true
IsFullBy body own NoMemory = Unit {0}
IsFullBy body own fault = ⊥

-- ---- what is written

-- the row of the verdict
unfoldable pub verdict_row : OrgId → Inst → EventId → ProposalName → Bool → Stamp → Row
verdict_row o here e n accept now =
    statement_row o now (Verdict e n here o) (Content.Verdict accept)

-- a row that is not published and inherits its label
unfoldable pub held_row : OrgId → Key → Stamp → Content → Row
held_row o k now c =
    record {
      owner = o;
      key = k;
      stamp = now;
      label = Label.Inherit;
      held = true;
      carried = false;
      content = c;
    }

-- the row of a new attribute
unfoldable pub made_row : OrgId → EventId → ProposalName → Stamp → ProposalBody → Row
made_row o e n now p = held_row o (Element e (judged_place n)) now (Content.Attribute (made p))

-- the caller's row, as the proposal changes it
unfoldable pub changed_rows : Stamp → ProposalBody → Option Row → List Row
changed_rows now p None = []
changed_rows now p (Some row) =
    renewed now row row.label (at_attribute (accepted p) row.content) ∷ []

-- the rows of what is accepted
unfoldable pub accepted_rows :
    OrgId → EventId → ProposalName → Stamp → Option ProposalBody → Option Row → List Row
accepted_rows o e n now None own = []
accepted_rows o e n now (Some p) own =
    cond (is_for_new n) (made_row o e n now p ∷ []) (changed_rows now p own)
