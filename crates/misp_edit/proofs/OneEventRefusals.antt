-- A change is refused, answered, written and named the same from the event's own rows as from all.
use Rattle.std.proofs.Common.{◌≡◌, List, [], ◌++◌, ◌||◌, ap, sym, ◌∙◌, refl, map, eqb, option_map, filter, find}
use Rattle.misp_model.proofs.Prelude.{Row, Rule, Scene, Submission, cut_scene, event_rows, in_order, list_any, of_event, seeing, uuid_at}
use Rattle.misp_model.specs.declared.change.Change.{Change}
use Rattle.misp_model.specs.declared.change.Change.TheVariants.{AddEvent, AddParts}
use Rattle.misp_model.specs.Machine.{event_changed, event_asked}
use Rattle.misp_model.proofs.Local.{is_taken_here}
use Rattle.misp_model.proofs.OneEvent.{has_target_same, seeing_here}
use Rattle.misp_model.proofs.OneEventChanges.{ask_of_event}
use Rattle.misp_history.proofs.Prelude.{Ask}
use Rattle.misp_edit.specs.Adding.{numbered_uuids, is_read_before, read_uuids, with_those_before, is_clash, first_clash, labels_of, first_unusable}
use Rattle.misp_edit.specs.Refusals.{named, added_place, refusal_of}
use Rattle.misp_edit.proofs.LateRules.{usable_is}
use Rattle.misp_edit.proofs.OwnCopy.{IsAlike}

module _ (b : Submission) (s : Scene) where
  abbrev near : Scene
  near = cut_scene (of_event b.event) s

  -- the first clash is the same
  clash_near : first_clash near b ≡ first_clash s b
  unfolding first_clash is_clash read_uuids numbered_uuids
  clash_near = λ i. option_map (λ p. p.1) (find (λ p. is_taken_here b.event s p.1 i || list_any (eqb p.1) p.0) (with_those_before [] (map (λ p. p.1) (in_order is_read_before (map (λ d. (d.number, uuid_at b.event d.place)) b.parts
      ++ map (λ r. (r.number, r.uuid.0.0)) (filter (λ r. has_target_same b s r i) b.references))))))

  -- and so is the first unusable label
  unusable_near : first_unusable near b ≡ first_unusable s b
  unfolding first_unusable cut_scene
  unusable_near = λ i. find (λ l. (sym (usable_is near l) ∙ usable_is s l) i) (labels_of b)

refusal_near : (s : Scene) (c : Change) (rule : Rule) → refusal_of (cut_scene (of_event (event_changed c)) s) (Ask.Change c) rule ≡ refusal_of s (Ask.Change c) rule
unfolding event_changed
refusal_near s (AddEvent b) rule = λ i. record { name = named rule; place = added_place (clash_near b s i) (unusable_near b s i) rule }
refusal_near s (AddParts e b) rule = λ i. record { name = named rule; place = added_place (clash_near b s i) (unusable_near b s i) rule }
refusal_near s c rule = refl

pub change_of_event : (rows : List Row) (s : Scene) (c : Change) → IsAlike (seeing s (event_rows (event_changed c) rows)) (seeing s rows) (Ask.Change c)
unfolding event_asked
change_of_event rows s c = record {
  same = ask_of_event (event_changed c) rows s (Ask.Change c) refl;
  refusals = λ rule. ap (λ (t : Scene). refusal_of t (Ask.Change c) rule) (seeing_here (event_changed c) rows s) ∙ refusal_near (seeing s rows) c rule;
}
