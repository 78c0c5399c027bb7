-- Which rule refuses to add an event, and what the refusal names.
use Rattle.std.proofs.Common.{◌≡◌, ◌∙◌, ℕ, Bool, true, false, not, ◌||◌, [], ◌∷◌, map, Option, Some, None, option_map, BTreeMap, ap, sym, refl, find, is_some}
use Rattle.misp_ids.specs.Uid.{text_of}
use Rattle.misp_lists.proofs.Lists.{any_found, any_map, find_by}
use Rattle.misp_ids.specs.declared.refusal.Refusal.{Refusal}
use Rattle.misp_groups.specs.Prelude.{RuleName, bare}
use Rattle.misp_model.specs.Scene.{Partner}
use Rattle.misp_model.specs.Prelude.{ElementExists, ElemId, GroupId, GroupNotUsable, Label, Place, Rule, Scene, Submission, change_rules, clashes, first_rule, has_copy, has_gone, has_unusable, holds_copy}
use Rattle.misp_model.specs.Prelude.{holds_tombstone, in_order, is_taken, is_usable, list_any, scene_as, target_in_copy}
use Rattle.misp_model.specs.Adding.{target_of, has_target, are_distinct}
use Rattle.misp_model.proofs.Numbers.{usable_alike}
use Rattle.misp_history.proofs.Prelude.{AddEvent, AddParts, Ask}
use Rattle.misp_edit.specs.declared.fault.AddFault.{AddFault}
use Rattle.misp_edit.specs.declared.fault.AddFault.TheVariants.{Refused, NoMemory}
use Rattle.misp_edit.specs.Adding.{refusing, numbered_uuids, is_read_before, read_uuids, is_clash, first_clash, labels_of, first_unusable}
use Rattle.misp_edit.specs.Refusals.{named, added_place, refusal_of, uuid_text, group_text, Refuses, Tells, brought_rules, brought_refusal}
use Rattle.misp_edit.specs.Labels.{is_unusable}
use Rattle.misp_copies.specs.Uuids.{has_uuid, is_used}
use Rattle.misp_edit.specs.Uuids.{numbered_in, clash_in}
use Rattle.misp_edit.specs.Targets.{target_places, target_in, AreTargets}
use Rattle.misp_edit.proofs.LateRules.{usable_is}
use Rattle.misp_edit.proofs.UuidLemmas.{is_clash_in, first_clash_is, any_in_order, distinct_in_order, unnumbered, numbered_is}
use Rattle.misp_edit.proofs.TargetLemmas.{target_is}

module _ (s : Scene) (b : Submission) where
  -- the clash of the definition, by the recursion
  pub clash_is : first_clash s b ≡ clash_in (is_taken s b.event) (read_uuids s b)
  unfolding first_clash is_clash
  clash_is = first_clash_is (is_taken s b.event) [] (read_uuids s b)

  -- there is a first clash exactly where the body clashes
  pub clash_known : is_some (first_clash s b) ≡ clashes s b
  unfolding clashes read_uuids
  clash_known =
      ap is_some clash_is ∙ is_clash_in (is_taken s b.event) (read_uuids s b)
      ∙ (λ i.
      not (distinct_in_order is_read_before (λ p. p.1) (numbered_uuids s b) i)
      || any_in_order is_read_before (λ p. p.1) (is_taken s b.event) (numbered_uuids s b) i)
      ∙ ap (λ us. not (are_distinct us) || list_any (is_taken s b.event) us) (unnumbered s b)

  -- there is a first unusable label exactly where the body has one
  pub unusable_known : is_some (first_unusable s b) ≡ has_unusable s b
  unfolding first_unusable labels_of has_unusable
  unusable_known =
      sym (any_found (λ l. not (is_usable s l)) (b.label ∷ map (λ d. d.label) b.parts))
      ∙ ap (λ x. not (is_usable s b.label) || x) (any_map (λ d. d.label) (λ l. not (is_usable s l)) b.parts)

-- the first of the two rules that look at what a body brings
abbrev first_of : (clash group : Bool) → Option Rule
first_of clash group = first_rule ((clash, ElementExists) ∷ (group, GroupNotUsable) ∷ [])

-- the rule, by what is found
brought_is : (s : Scene) (b : Submission) → first_rule (brought_rules s b) ≡ first_of (is_some (first_clash s b)) (is_some (first_unusable s b))
unfolding brought_rules
brought_is s b = rw (clash_known s b, unusable_known s b) refl

-- a scene's rows, its groups and its caller say all
module _ (s : Scene) (b : Submission) where
  abbrev bars : Label → Bool
  bars = is_unusable s.groups s.at s.by

  unusable_by : (found : Option Label) → find bars (b.label ∷ map (λ d. d.label) b.parts) ≡ found → first_unusable s b ≡ found
  unfolding first_unusable labels_of
  unusable_by found h = find_by (λ l. not (is_usable s l)) bars (λ l. sym (usable_is s l)) (b.label ∷ map (λ d. d.label) b.parts) ∙ h

  -- the refusal by the first rule that refuses
  by_rule : (rule : Rule) → first_rule (brought_rules s b) ≡ Some rule → brought_refusal s b ≡ Some (record { name = named rule; place = added_place (first_clash s b) (first_unusable s b) rule })
  by_rule rule h = ap (option_map (λ r. record { name = named r; place = added_place (first_clash s b) (first_unusable s b) r })) h

  -- with what the references name
  module _ (m : BTreeMap ℕ Place) (targets : AreTargets m (target_places s.rows s.by b.event b.parts)) where
    -- the clash that is found
    abbrev found_clash : Option ℕ
    found_clash = clash_in (is_used s.rows s.by b.event) (map (λ p. p.1) (in_order is_read_before (numbered_in (target_in m) b)))

    -- what the definition says that they name
    target_by : (u : ElemId) → target_in m u ≡ target_of s b.event b.parts u
    target_by u = targets u ∙ sym (target_is s b.event u b.parts)

    clash_by : (found : Option ℕ) → found_clash ≡ found → first_clash s b ≡ found
    unfolding read_uuids is_taken is_used has_uuid
    clash_by found h =
        clash_is s b
        ∙ ap (λ ps. clash_in (is_taken s b.event) (map (λ p. p.1) (in_order is_read_before ps))) (numbered_is s b (target_in m) target_by)
        ∙ h

    -- a uuid clashes
    pub clash : (u : ℕ) → found_clash ≡ Some u → Tells (brought_refusal s b) (Refused (record { name = RuleName.ElementExists; place = text_of (record { 0 = u }) }))
    unfolding first_rule
    clash u e =
        by_rule ElementExists (brought_is s b ∙ rw (clash_by _ e) refl)
        ∙ ap {B = Option Refusal} (λ (c : Option ℕ). Some (record { name = RuleName.ElementExists; place = uuid_text c })) (clash_by _ e)

    module _ (e : found_clash ≡ None) where
      -- a label is that of a group that is not usable
      pub group : (g : GroupId) → find bars (b.label ∷ map (λ d. d.label) b.parts) ≡ Some (Label.Group g) →
          Tells (brought_refusal s b) (Refused (record { name = RuleName.GroupNotUsable; place = text_of g.uuid }))
      unfolding first_rule
      group g f =
          by_rule GroupNotUsable (brought_is s b ∙ rw (clash_by _ e, unusable_by _ f) refl)
          ∙ ap {B = Option Refusal} (λ (l : Option Label). Some (record { name = RuleName.GroupNotUsable; place = group_text l })) (unusable_by _ f)

      -- nothing refuses
      pub free : find bars (b.label ∷ map (λ d. d.label) b.parts) ≡ None → first_rule (brought_rules s b) ≡ None
      unfolding first_rule
      free f = brought_is s b ∙ rw (clash_by _ e, unusable_by _ f) refl

-- ---- adding an event

module _ (s : Scene) (b : Submission) where
  -- the caller has the event
  pub exists : has_copy s.rows s.by b.event ≡ true → Refuses s (AddEvent b) (Refused (bare RuleName.EventExists))
  unfolding change_rules first_rule holds_copy
  exists h = rw h refl

  module _ (h : has_copy s.rows s.by b.event ≡ false) where
    -- the caller has its tombstone
    pub gone : has_gone s.rows s.by b.event ≡ true → Refuses s (AddEvent b) (Refused (bare RuleName.EventGone))
    unfolding change_rules first_rule holds_copy holds_tombstone
    gone k = rw (h, k) refl

    module _ (k : has_gone s.rows s.by b.event ≡ false) where
      -- else what it brings is looked at
      pub looked_at : refusing s b ≡ first_rule (brought_rules s b)
      unfolding change_rules brought_rules first_rule holds_copy holds_tombstone
      looked_at = rw (h, k) refl

      pub refused : (fault : AddFault) → Tells (brought_refusal s b) fault → Refuses s (AddEvent b) fault
      refused (Refused refusal) t = ap (option_map (refusal_of s (Ask.Change (AddEvent b)))) looked_at ∙ t
      refused NoMemory t = tt

-- a refusal depends on neither the number of its act nor the partner of its caller's key
pub refusal_alike : (n : ℕ) (partner : Option Partner) (s : Scene) (a : Ask) (rule : Rule) → refusal_of (record s { act = n; partner = partner }) a rule ≡ refusal_of s a rule
unfolding first_clash read_uuids numbered_uuids is_clash is_taken has_target target_of target_in_copy first_unusable
refusal_alike n partner s (Ask.Change (AddEvent b)) rule = λ i. record { name = named rule; place = added_place (first_clash s b) (find (λ l. not (usable_alike n partner s l i)) (labels_of b)) rule }
refusal_alike n partner s (Ask.Change (AddParts e b)) rule = λ i. record { name = named rule; place = added_place (first_clash s b) (find (λ l. not (usable_alike n partner s l i)) (labels_of b)) rule }
refusal_alike n partner s a rule = refl

pub refusal_as : (n : ℕ) (s : Scene) (a : Ask) (rule : Rule) → refusal_of (scene_as n s) a rule ≡ refusal_of s a rule
refusal_as n s = refusal_alike n s.partner s
