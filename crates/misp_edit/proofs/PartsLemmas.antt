-- Which rule refuses to add parts.
use Rattle.std.proofs.Common.{◌≡◌, ◌∙◌, ℕ, Bool, true, false, [], Option, Some, None, option_map, is_some, ap, sym, refl, BTreeMap}
use Rattle.misp_ids.specs.declared.refusal.Refusal.{Refusal}
use Rattle.misp_model.specs.Prelude.{EventId, Rule, Scene, Submission, change_rules, event_key, first_rule, fits_parts, granted_somewhere, has_copy, has_home, bars, Place}
use Rattle.misp_model.specs.declared.ask.Ask.{Ask}
use Rattle.misp_model.specs.declared.change.Change.TheVariants.{AddParts}
use Rattle.misp_model.proofs.Prelude.{false≢true}
use Rattle.misp_copies.specs.Barring.{barring, or_else}
use Rattle.misp_copies.proofs.Barred.{first_of, bars_are}
use Rattle.misp_edit.specs.declared.fault.AddFault.{AddFault}
use Rattle.misp_edit.specs.declared.fault.AddFault.TheVariants.{Refused, NoMemory}
use Rattle.misp_edit.specs.Objects.{is_brought, is_live_object, all_belong}
use Rattle.misp_edit.specs.Targets.{target_places, target_in, AreTargets}
use Rattle.misp_edit.specs.Refusals.{named, refusal_of, Refuses, Tells, brought_rules, brought_refusal, bare_fault}
use Rattle.misp_edit.proofs.TargetLemmas.{target_is}
use Rattle.misp_edit.proofs.ObjectLemmas.{fits_is}

-- the rules that bar a change name no place
no_place : (s : Scene) (e : EventId) (b : Submission) (home copy seen fits : Bool) →
    option_map (refusal_of s (Ask.Change (AddParts e b))) (barring home copy seen fits) ≡ option_map (λ rule. record { name = named rule; place = [] }) (barring home copy seen fits)
unfolding barring
no_place s e b true copy seen true = refl
no_place s e b true copy seen false = refl
no_place s e b false true seen fits = refl
no_place s e b false false true fits = refl
no_place s e b false false false fits = refl

module _ (s : Scene) (e : EventId) (b : Submission) (m : BTreeMap ℕ Place) (targets : AreTargets m (target_places s.rows s.by b.event b.parts))
    (fits : Bool) (belong : fits ≡ all_belong (is_brought b.parts) (is_live_object s.rows s.by b.event) (target_in m) b) where
  -- what is found to belong to its objects fits
  is : fits ≡ fits_parts s b
  is = belong ∙ fits_is s b (target_in m) (λ u. targets u ∙ sym (target_is s b.event u b.parts))

  abbrev barred : Option Rule
  barred = barring (has_home s.rows s.by b.event) (has_copy s.rows s.by b.event) (granted_somewhere s.rows s.groups s.at s.by (event_key b.event)) fits

  rules_are : first_rule (change_rules s (AddParts e b)) ≡ or_else barred (first_rule (brought_rules s b))
  unfolding change_rules brought_rules
  rules_are =
      first_of (bars s b.event (fits_parts s b)) (brought_rules s b)
      ∙ ap (λ r. or_else r (first_rule (brought_rules s b)))
      (bars_are s b.event (fits_parts s b) ∙ ap (barring (has_home s.rows s.by b.event) (has_copy s.rows s.by b.event) (granted_somewhere s.rows s.groups s.at s.by (event_key b.event))) (sym is))

  -- one of them bars it
  pub parts_barred : (r : Option Rule) → r ≡ barred → is_some r ≡ true → Refuses s (AddParts e b) (bare_fault r)
  unfolding bare_fault or_else
  parts_barred None h k = absurd (false≢true k)
  parts_barred (Some rule) h k =
      ap (option_map (refusal_of s (Ask.Change (AddParts e b)))) (rules_are ∙ ap (λ r. or_else r (first_rule (brought_rules s b))) (sym h) ∙ h)
      ∙ no_place s e b (has_home s.rows s.by b.event) (has_copy s.rows s.by b.event) (granted_somewhere s.rows s.groups s.at s.by (event_key b.event)) fits
      ∙ ap {B = Option Refusal} (option_map (λ r. record { name = named r; place = [] })) (sym h)

  module _ (h : None ≡ barred) where
    -- none does, and what it brings is looked at
    pub parts_looked_at : first_rule (change_rules s (AddParts e b)) ≡ first_rule (brought_rules s b)
    unfolding or_else
    parts_looked_at = rules_are ∙ ap (λ r. or_else r (first_rule (brought_rules s b))) (sym h)

    pub parts_refused : (fault : AddFault) → Tells (brought_refusal s b) fault → Refuses s (AddParts e b) fault
    parts_refused (Refused refusal) t = ap (option_map (refusal_of s (Ask.Change (AddParts e b)))) parts_looked_at ∙ t
    parts_refused NoMemory t = tt
