-- What is asked of one event is answered from the event's own rows, and writes the same.
use Rattle.std.proofs.Common.{◌≡◌, ℕ, Bool, true, false, [], ◌∷◌, refl, ap, List, ◌∙◌, Some, None, Option, option_map}
use Rattle.misp_manifest.specs.declared.wanted.WantedFields.{WantedFields as Wanted}
use Rattle.misp_model.specs.Prelude.{SyncPart, SyncRows, View}
use Rattle.misp_model.proofs.Prelude.{EventId, Group, Inst, NotGranted, OrgId, Other, ReferenceDraft, Reply, Row, Scene, Seen, Submission, ask_rules, brings, cut_rows, cut_scene, event_is_closed, event_rows, has_target, known, known_cut}
use Rattle.misp_model.proofs.Prelude.{of_event, ok_answer, seeing, shown}
use Rattle.misp_model.proofs.Knowing.{by_key}
use Rattle.misp_model.proofs.LookedRows.{IsClosedFor, looked_rows}
use Rattle.misp_model.proofs.LookedScenes.{looked_scene}
use Rattle.misp_model.proofs.LookedBodies.{has_target_looked}
use Rattle.misp_model.proofs.LookedCopy.{HasCopy}
pub use Rattle.misp_model.proofs.SameAnswers.{IsSame, accepted_from, from_rules}
use Rattle.misp_model.proofs.ShownHere.{shown_from_here}
use Rattle.misp_model.proofs.Passing.{part_here}
use Rattle.misp_model.specs.Answers.{Packed, part_rules}
use Rattle.misp_model.specs.Manifests.{only_of, pulled_only}

module _ (e : EventId) (s : Scene) where
  abbrev here : Scene
  here = cut_scene (of_event e) s

  pub view_here : (owner : Option OrgId) → IsSame here s (View e owner)
  unfolding ask_rules brings ok_answer
  view_here owner = record {
    rules = rules;
    accepted = accepted_from here s (View e owner) rules;
    answers = from_rules here s (View e owner) rules (λ i. elim (shown_from_here e s owner i) as (λ x. Reply) [ None ↦ Other | Some v ↦ Seen v ]);
    brought = refl;
  }
    where
      rules : ask_rules here (View e owner) ≡ ask_rules s (View e owner)
      rules = λ i. (elim (shown_from_here e s owner i) as (λ x. Bool) [ None ↦ true | Some v ↦ false ], NotGranted) ∷ []

  part_rules_here : (n : ℕ) → part_rules here e n ≡ part_rules s e n
  part_rules_here n = λ i. (elim (part_here e s n i) as (λ x. Bool) [ None ↦ true | Some p ↦ false ], NotGranted) ∷ []

  pub sync_part_here : (n : ℕ) → IsSame here s (SyncPart e n)
  unfolding ask_rules brings ok_answer
  sync_part_here n = record {
    rules = part_rules_here n;
    accepted = accepted_from here s (SyncPart e n) (part_rules_here n);
    answers = from_rules here s (SyncPart e n) (part_rules_here n) (λ i. elim (part_here e s n i) as (λ x. Reply) [ None ↦ Other | Some p ↦ Packed p ]);
    brought = refl;
  }

-- the wanted rows of a package
pub sync_rows_here : (w : Wanted) (s : Scene) → IsSame (here w.event s) s (SyncRows w)
unfolding ask_rules brings ok_answer pulled_only
sync_rows_here w s = record {
  rules = part_rules_here w.event s w.part;
  accepted = accepted_from (here w.event s) s (SyncRows w) (part_rules_here w.event s w.part);
  answers = from_rules (here w.event s) s (SyncRows w) (part_rules_here w.event s w.part) (λ i. elim (option_map (only_of w.keys) (part_here w.event s w.part i)) as (λ x. Reply) [ None ↦ Other | Some p ↦ Packed p ]);
  brought = refl;
}

-- the keys of the event are closed for each organisation
pub closed_here : (e : EventId) (o : OrgId) → IsClosedFor o (λ w. of_event e)
closed_here e o = by_key (of_event e) (event_is_closed e) o

-- the own copy of the event is among them
pub copy_here : (e : EventId) (o : OrgId) → HasCopy (λ w. of_event e) o e
unfolding of_event
copy_here e o k h = h

module _ (b : Submission) (s : Scene) where
  pub has_target_same : (r : ReferenceDraft) → has_target (cut_scene (of_event b.event) s) b r ≡ has_target s b r
  unfolding cut_scene cut_rows looked_scene looked_rows
  has_target_same r = has_target_looked (λ w. of_event b.event) s (closed_here b.event s.by) b r (λ k h g. copy_here b.event s.by k h)

-- ---- from the rows of a keeper

-- what is known of the event's rows is what is of the event in what is known
pub known_here : (e : EventId) (rows : List Row) (groups : List Group) (i : Inst) (o : OrgId) →
    known (event_rows e rows) groups i o ≡ event_rows e (known rows groups i o)
unfolding of_event cut_rows
known_here e rows groups i o = known_cut (of_event e) (event_is_closed e) rows groups i o

pub seeing_here : (e : EventId) (rows : List Row) (s : Scene) → seeing s (event_rows e rows) ≡ cut_scene (of_event e) (seeing s rows)
unfolding cut_scene cut_rows of_event
seeing_here e rows s = λ i. record s { rows = known_here e rows s.groups s.at s.by i }

pub shown_of_event : (e : EventId) (rows : List Row) (s : Scene) (owner : Option OrgId) → shown (seeing s (event_rows e rows)) e owner ≡ shown (seeing s rows) e owner
shown_of_event e rows s owner = ap (λ t. shown t e owner) (seeing_here e rows s) ∙ shown_from_here e (seeing s rows) owner
