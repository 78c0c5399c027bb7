-- Rows, versions and requests without those keys that are not kept, for a closed set of keys.
use Rattle.std.specs.Prelude.{Bool, List, filter, false, Some, None, true, [], ◌∷◌, Option, not, ◌&&◌, ◌≡◌}
use Rattle.misp_elem.specs.declared.key.KeyForm.{KeyForm as Key}
use Rattle.misp_elem.specs.declared.row.RowFields.{RowFields as Row}
use Rattle.misp_elem.specs.Prelude.{ReferenceDraft, Submission, event_key, list_all, parents}
use Rattle.misp_elem.specs.declared.key.KeyForm.TheVariants.{Element, Verdict, Reference, Proposal, Sighting}
use Rattle.misp_elem.specs.declared.key.Place.{Place}
use Rattle.misp_model.specs.Version.{Version}
use Rattle.misp_model.specs.Scene.{Scene}
use Rattle.misp_model.specs.Adding.{reference_key}
use Rattle.misp_model.specs.declared.ask.Ask.{Ask}
use Rattle.misp_model.specs.declared.change.Change.TheVariants.{AddEvent, AddParts, EditEvent, EditAttribute, EditObject, Delete, DeleteReference, DeleteEvent, Publish}
use Rattle.misp_model.specs.declared.change.Change.{Change}
use Rattle.misp_model.specs.declared.ask.Ask.TheVariants.{View, Propose, Judge, Sight, Index, Search, Groups, SyncGroups, SyncEvents, SyncPart, SyncManifest, SyncRows, TakePart}
use Rattle.misp_model.specs.Statements.{proposal_key, sighting_key, judged_place}
use Rattle.misp_model.specs.Changing.{own_reference, row_passes}
use Rattle.misp_model.specs.Answers.{is_accepted}

-- the rows, the versions, whose keys are kept
unfoldable pub cut_rows : (Key → Bool) → List Row → List Row
cut_rows keep rows = filter (λ row. keep row.key) rows

unfoldable pub cut : (Key → Bool) → List Version → List Version
cut keep log = filter (λ v. keep v.key) log

-- the reference has a target, and its key is kept
unfoldable pub keeps_reference : (Key → Bool) → Scene → Submission → ReferenceDraft → Bool
keeps_reference keep s b r =
    elim (reference_key s b.event b.parts r) [ None ↦ false | Some k ↦ keep k ]

-- a body with only those parts and references whose keys are kept
unfoldable pub cut_body : (Key → Bool) → Scene → Submission → Submission
cut_body keep s b =
    record b {
      parts = filter (λ d. keep (Element b.event d.place)) b.parts;
      references = filter (keeps_reference keep s b) b.references;
    }

-- nothing is left
unfoldable pub is_empty : {A : Type 0} → List A → Bool
is_empty [] = true
is_empty (x ∷ xs) = false

-- the request where the test holds
unfoldable pub where_kept : Bool → Ask → Option Ask
where_kept true a = Some a
where_kept false a = None

-- what is left of another's accepted request
unfoldable pub erased_ask : (Key → Bool) → Scene → Ask → Option Ask
erased_ask keep s (View e owner) = None
erased_ask keep s (Ask.Change (AddEvent b)) =
    where_kept (keep (event_key b.event)) (Ask.Change (AddEvent (cut_body keep s b)))
erased_ask keep s (Ask.Change (AddParts e b)) =
    let left : Submission = cut_body keep s b in
    where_kept (not (is_empty left.parts && is_empty left.references))
    (Ask.Change (AddParts e left))
erased_ask keep s (Ask.Change (EditEvent e edit)) =
    where_kept (keep (event_key e)) (Ask.Change (EditEvent e edit))
erased_ask keep s (Ask.Change (EditObject e x edit)) =
    where_kept (keep (Element e (Place.Object x))) (Ask.Change (EditObject e x edit))
erased_ask keep s (Ask.Change (Delete e p)) =
    where_kept (keep (Element e p)) (Ask.Change (Delete e p))
erased_ask keep s (Ask.Change (DeleteReference e x u)) =
    where_kept (row_passes (λ row. keep row.key) (own_reference s e x u))
    (Ask.Change (DeleteReference e x u))
erased_ask keep s (Ask.Change (Change.Tag e p tag)) =
    where_kept (keep (Element e p)) (Ask.Change (Change.Tag e p tag))
erased_ask keep s (Ask.Change (Change.Untag e p name)) =
    where_kept (keep (Element e p)) (Ask.Change (Change.Untag e p name))
erased_ask keep s (Sight e t d) = where_kept (keep (sighting_key s e t d)) (Sight e t d)
erased_ask keep s (Index page) = None
erased_ask keep s (Search filter whole) = None
erased_ask keep s Groups = None
erased_ask keep s SyncGroups = None
erased_ask keep s SyncEvents = None
erased_ask keep s (SyncPart e n) = None
erased_ask keep s SyncManifest = None
erased_ask keep s (SyncRows w) = None
erased_ask keep s (Ask.Change (EditAttribute e p edit)) =
    where_kept (keep (Element e p)) (Ask.Change (EditAttribute e p edit))
erased_ask keep s (Ask.Change (DeleteEvent e)) =
    where_kept (keep (event_key e)) (Ask.Change (DeleteEvent e))
erased_ask keep s (Ask.Change (Publish e)) =
    where_kept (keep (event_key e)) (Ask.Change (Publish e))
erased_ask keep s (Propose d) = where_kept (keep (proposal_key s d)) (Propose d)
erased_ask keep s (Judge e n accept) = where_kept (keep (Verdict e n s.at s.by)) (Judge e n accept)
erased_ask keep s (TakePart p) =
    where_kept (not (is_empty (cut_rows keep p.rows)))
    (TakePart (record p { rows = cut_rows keep p.rows }))

-- the proposal of a verdict
unfoldable pub is_proposal_of : Key → Key → Type 0
is_proposal_of (Verdict e n i o) k = k ≡ Proposal e n
is_proposal_of (Element e p) k = ⊥
is_proposal_of (Reference e x t u) k = ⊥
is_proposal_of (Proposal e n) k = ⊥
is_proposal_of (Sighting e t i o u) k = ⊥

-- with each of its keys the set has the key's parents, and with each verdict the proposal
pub record IsClosed (keep : Key → Bool) : Type 0 where
  pub above : (k : Key) → keep k ≡ true → list_all keep (parents k) ≡ true
  pub proposals : (k p : Key) → keep k ≡ true → is_proposal_of k p → keep p ≡ true

-- of an accepted judging that accepts, the set has both the verdict and what it changed or made, or
-- neither
unfoldable pub HasPair : (Key → Bool) → Scene → Ask → Type 0
HasPair keep s (Judge e n true) =
    is_accepted s (Judge e n true) ≡ true
    → keep (Verdict e n s.at s.by) ≡ keep (Element e (judged_place n))
HasPair keep s (Judge e n false) = Unit {0}
HasPair keep s (View e owner) = Unit {0}
HasPair keep s (Ask.Change c) = Unit {0}
HasPair keep s (Propose d) = Unit {0}
HasPair keep s (Sight e t d) = Unit {0}
HasPair keep s (Index page) = Unit {0}
HasPair keep s (Search filter whole) = Unit {0}
HasPair keep s Groups = Unit {0}
HasPair keep s SyncGroups = Unit {0}
HasPair keep s SyncEvents = Unit {0}
HasPair keep s (SyncPart e n) = Unit {0}
HasPair keep s SyncManifest = Unit {0}
HasPair keep s (SyncRows w) = Unit {0}
HasPair keep s (TakePart p) = Unit {0}
