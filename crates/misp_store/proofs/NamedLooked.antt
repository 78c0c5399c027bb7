-- The rows under the names that a request looks at, of which those that it looks at are those of all.
use Rattle.std.proofs.Common.{◌≡◌, Bool, true, false, cond, List, [], ◌∷◌, ◌++◌, refl, sym, ap, subst, ◌∙◌, inl, inr, arith, map, filter, ◌&&◌, Some}
use Rattle.std.proofs.lemmas.List.Folds.{list_all-append}
use Rattle.misp_lists.proofs.Lists.{some_same}
use Rattle.misp_elem.specs.Spelling.{name}
use Rattle.misp_elem.specs.declared.key.Place.{Place}
use Rattle.misp_model.proofs.Prelude.{AreRows, EventId, Inst, IsRow, Key, OrgId, Row, and_from, and_parts, event_key, event_of, false≢true, list_all, list_any, name_bytes, or_cases, same_event, same_event-refl, same_key, same_key-sound, same_org}
use Rattle.misp_elem.specs.Prelude.{Submission}
use Rattle.misp_model.specs.Prelude.{ProposalName, above, is_for_new, up_to}
use Rattle.misp_model.specs.Looking.{at_copy, at_event, at_parts, at_place, at_proposal, at_shown, at_target, beside, change_looks, is_in_look, looks_at, looks_of, proposal_keys, rows_seen_by}
use Rattle.misp_model.specs.declared.ask.Ask.{Ask}
use Rattle.misp_model.specs.declared.ask.Ask.TheVariants.{Judge, Propose, Sight, View}
use Rattle.misp_model.specs.declared.change.Change.{Change}
use Rattle.misp_model.specs.declared.change.Change.TheVariants.{AddParts, Delete, DeleteEvent, DeleteReference, EditAttribute, EditEvent, EditObject, Publish}
use Rattle.misp_model.specs.declared.looks.Look.{Look}
use Rattle.misp_model.specs.declared.looks.Looks.{Looks}
use Rattle.misp_store.specs.Raw.{raw_row}
use Rattle.misp_store.specs.Seen.{is_name_looked, look_at, names_in, rows_looked}
use Rattle.misp_store.proofs.HeldRows.{rows_filtered}
use Rattle.misp_store.proofs.LookedKeys.{look_named}
use Rattle.misp_store.proofs.LookedRows.{as_owners, its_owner}

-- ---- the rows of names

-- the row has a name that is looked at
abbrev pub named_so : Looks → Row → Bool
named_so l r = same_event (event_of r.key) l.event && is_name_looked l (name_bytes r)

abbrev pub named_looked : Looks → List Row → List Row
named_looked l rows = filter (named_so l) rows

-- what is looked at of rows as they are held
pub looked_held : (l : Looks) (rows : List Row) → rows_looked l (map raw_row rows) ≡ map raw_row (named_looked l rows)
unfolding rows_looked raw_row same_event
looked_held l [] = refl
looked_held l (r ∷ rs) = grind (arith, looked_held l rs)

pub named_looked_kept : (l : Looks) (rows : List Row) → AreRows rows → AreRows (named_looked l rows)
named_looked_kept l rows are = rows_filtered (named_so l) rows are

-- ---- keys of the event

-- each is one of the event
abbrev are_of : EventId → List Key → Bool
are_of e keys = list_all (λ k. same_event (event_of k) e) keys

one_of : (e : EventId) (keys : List Key) (k : Key) → are_of e keys ≡ true → list_any (same_key k) keys ≡ true → same_event (event_of k) e ≡ true
one_of e [] k all any = absurd (false≢true any)
one_of e (j ∷ keys) k all any = elim (or_cases (same_key k j) (list_any (same_key k) keys) any) [
  | inl is ↦ ap (λ x. same_event (event_of x) e) (same_key-sound k j is) ∙ (and_parts _ _ all).0
  | inr more ↦ one_of e keys k (and_parts _ _ all).1 more
]

up_to_are : (e : EventId) (p : Place) → are_of e (up_to e p) ≡ true
unfolding up_to above event_of
up_to_are e Place.Event = and_from _ _ (same_event-refl e) refl
up_to_are e (Place.Object x) = and_from _ _ (same_event-refl e) (and_from _ _ (same_event-refl e) refl)
up_to_are e (Place.Attribute a) = and_from _ _ (same_event-refl e) (and_from _ _ (same_event-refl e) refl)
up_to_are e (Place.ObjectAttribute x a) = and_from _ _ (same_event-refl e) (and_from _ _ (same_event-refl e) (and_from _ _ (same_event-refl e) refl))

event_is : (e : EventId) → are_of e (event_key e ∷ []) ≡ true
unfolding event_key event_of
event_is e = and_from _ _ (same_event-refl e) refl

-- with one more of the event
with_one : (e : EventId) (keys : List Key) (k : Key) → are_of e keys ≡ true → same_event (event_of k) e ≡ true → are_of e (keys ++ k ∷ []) ≡ true
with_one e keys k all is = list_all-append (λ j. same_event (event_of j) e) keys (k ∷ []) ∙ and_from _ _ all (and_from _ _ is refl)

-- ---- looks of the event

-- the keys of a look are of the event
abbrev pub IsLookOf : EventId → Look → Type 0
IsLookOf e (Look.Keys keys) = are_of e keys ≡ true
IsLookOf e (Look.Uuids us keys) = are_of e keys ≡ true
IsLookOf e Look.Statements = Unit {0}
IsLookOf e Look.All = Unit {0}

-- so are those of what a request looks at
pub record IsFit (l : Looks) : Type 0 where
  pub own : IsLookOf l.event l.own
  pub others : IsLookOf l.event l.others

place_fits : (by : OrgId) (e : EventId) (p : Place) → IsFit (at_place by e p)
place_fits by e p = record { own = up_to_are e p; others = refl }

copy_fits : (by : OrgId) (e : EventId) → IsFit (at_copy by e)
copy_fits by e = record { own = tt; others = refl }

parts_fit : (by : OrgId) (b : Submission) → IsFit (at_parts by b)
parts_fit by b = record { own = refl; others = refl }

event_fits : (by : OrgId) (e : EventId) → IsFit (at_event by e)
event_fits by e = record { own = event_is e; others = event_is e }

target_fits : (by : OrgId) (e : EventId) (p : Place) (k : Key) → same_event (event_of k) e ≡ true → IsFit (at_target by e p k)
target_fits by e p k of = record { own = with_one e (up_to e p) k (up_to_are e p) of; others = up_to_are e p }

module _ (by : OrgId) (e : EventId) (n : ProposalName) (k : Key) (of : same_event (event_of k) e ≡ true) where
  proposal_are : are_of e (proposal_keys e n) ≡ true
  unfolding event_of
  proposal_are = with_one e (up_to e n.target) (Key.Proposal e n) (up_to_are e n.target) (same_event-refl e)

  both_are : are_of e (Key.Proposal e n ∷ k ∷ []) ≡ true
  unfolding event_of
  both_are = and_from _ _ (same_event-refl e) (and_from _ _ of refl)

  proposal_fits : (makes : Bool) → IsFit (at_proposal by e n makes k)
  proposal_fits true = record { own = both_are; others = proposal_are }
  proposal_fits false = record { own = with_one e (proposal_keys e n) k proposal_are of; others = proposal_are }

fits_as : (x l : Looks) → Some x ≡ Some l → IsFit x → IsFit l
fits_as x l is fits = subst IsFit (some_same x l is) fits

change_fits : (by : OrgId) (c : Change) (l : Looks) → change_looks by c ≡ Some l → IsFit l
change_fits by (Change.AddEvent b) l is = absurd cc
change_fits by (AddParts e b) l is = fits_as _ l is (parts_fit by b)
change_fits by (EditEvent e edit) l is = fits_as _ l is (place_fits by e Place.Event)
change_fits by (EditAttribute e p edit) l is = fits_as _ l is (place_fits by e p)
change_fits by (EditObject e x edit) l is = fits_as _ l is (place_fits by e (Place.Object x))
change_fits by (Delete e p) l is = fits_as _ l is (place_fits by e p)
change_fits by (DeleteReference e x u) l is = fits_as _ l is (copy_fits by e)
change_fits by (Change.Tag e p tag) l is = fits_as _ l is (place_fits by e p)
change_fits by (Change.Untag e p name) l is = fits_as _ l is (place_fits by e p)
change_fits by (DeleteEvent e) l is = fits_as _ l is (place_fits by e Place.Event)
change_fits by (Publish e) l is = fits_as _ l is (copy_fits by e)

pub looks_fit : (i : Inst) (o : OrgId) (ask : Ask) (l : Looks) → looks_of i o ask ≡ Some l → IsFit l
unfolding event_of
looks_fit i o (Ask.Change c) l is = change_fits o c l is
looks_fit i o (Propose d) l is = fits_as _ l is (target_fits o d.event d.target _ (same_event-refl d.event))
looks_fit i o (Sight e t d) l is = fits_as _ l is (target_fits o e t _ (same_event-refl e))
looks_fit i o (Judge e n accept) l is = fits_as _ l is (proposal_fits o e n _ (same_event-refl e) (accept && is_for_new n))
looks_fit i o (View e owner) l is = fits_as _ l is (event_fits o e)
looks_fit i o ask l is = absurd cc

pub beside_fits : (l : Looks) → IsFit l → IsFit (beside l)
beside_fits l fits = record { own = fits.own; others = event_is l.event }

pub shown_fits : (w : OrgId) (e : EventId) → IsFit (at_shown w e)
shown_fits w e = record { own = tt; others = tt }

-- ---- rows that are looked at have such names

and_first : (a b : Bool) → (a && b) ≡ true → a ≡ true
and_first a b h = (and_parts a b h).0

in_event : (e : EventId) (look : Look) (k : Key) → IsLookOf e look → is_in_look look e k ≡ true → same_event (event_of k) e ≡ true
unfolding is_in_look
in_event e (Look.Keys keys) k of is = one_of e keys k of is
in_event e (Look.Uuids us keys) k of is = elim (or_cases _ (list_any (same_key k) keys) is) [
  | inl by ↦ and_first (same_event (event_of k) e) _ by
  | inr one ↦ one_of e keys k of one
]
in_event e Look.Statements k of is = and_first (same_event (event_of k) e) _ is
in_event e Look.All k of is = is

module _ (l : Looks) (fits : IsFit l) where
  look_fits : (w : OrgId) → IsLookOf l.event (look_at l w)
  look_fits w = chosen (same_org w l.of)
    where
      chosen : (own : Bool) → IsLookOf l.event (cond own l.own l.others)
      chosen true = fits.own
      chosen false = fits.others

  pub looked_named : (r : Row) → IsRow r → looks_at l r.owner r.key ≡ true → named_so l r ≡ true
  unfolding is_name_looked name_bytes
  looked_named r is looked =
      let by : is_in_look (look_at l r.owner) l.event r.key ≡ true = sym (as_owners l r.owner r.key) ∙ looked in
      let at = in_event l.event (look_at l r.owner) r.key (look_fits r.owner) by in
      and_from _ _ at
      (ap (λ w. names_in (look_at l w) l.event w (name_bytes r)) (its_owner r is) ∙ look_named l.event (look_at l r.owner) r.owner r.key is.1.0 at by)

  -- of the rows of such names it looks at those that it looks at of all
  pub seen_named : (rows : List Row) → AreRows rows → rows_seen_by l (named_looked l rows) ≡ rows_seen_by l rows
  unfolding rows_seen_by
  seen_named [] are = refl
  seen_named (r ∷ rs) are = grind (arith, seen_named rs are.1, looked_named r are.0)
