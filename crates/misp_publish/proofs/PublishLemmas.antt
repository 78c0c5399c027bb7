-- Which rule refuses to publish an event.
use Rattle.std.proofs.Common.{◌≡◌, List, [], ◌∷◌, Bool, true, false, refl, ap, sym, ◌∙◌, arith, ◌&&◌, not, Option, Some, None, is_some, find}
use Rattle.misp_model.specs.Prelude.{first_rule, granted_somewhere, has_home}
use Rattle.misp_history.proofs.Prelude.{EventId, Publish, Row, Rule, Scene, bars, change_rules, event_key, false≢true, has_copy, is_at_limit, is_row_of, is_tombstone, list_any}
use Rattle.misp_copies.specs.Barring.{rule_of, Refuses, barring, or_else}
use Rattle.misp_copies.specs.declared.change_fault.ChangeFault.{ChangeFault}
use Rattle.misp_copies.proofs.Barred.{first_of, bars_are, refuses_first}
use Rattle.misp_model.specs.Scene as rule

home_of : (a b c d : Bool) → None ≡ barring a b c d → (a ≡ true) × (d ≡ true)
unfolding barring
home_of true b c true h = (refl, refl)
home_of true b c false h = absurd (false≢true (ap is_some h))
home_of false true c d h = absurd (false≢true (ap is_some h))
home_of false false true d h = absurd (false≢true (ap is_some h))
home_of false false false d h = absurd (false≢true (ap is_some h))

found_some : (p q : Row → Bool) (rows : List Row) → list_any (λ row. p row && q row) rows ≡ true → is_some (find p rows) ≡ true
found_some p q [] h = absurd (false≢true h)
found_some p q (row ∷ rows) h = grind (arith, found_some p q rows)

-- an event that may be changed has its caller's row
pub own_there : (s : Scene) (e : EventId) → None ≡ barring (has_home s.rows s.by e) (has_copy s.rows s.by e) (granted_somewhere s.rows s.groups s.at s.by (event_key e)) true
    → find (is_row_of s.by (event_key e)) s.rows ≡ None → ⊥
unfolding has_home
own_there s e h none =
    false≢true (sym (ap is_some none)
    ∙ found_some (is_row_of s.by (event_key e)) (λ row. not (is_tombstone row) && not row.carried) s.rows (home_of (has_home s.rows s.by e) (has_copy s.rows s.by e) (granted_somewhere s.rows s.groups s.at s.by (event_key e)) true h).0)

module _ (s : Scene) (e : EventId) where
  abbrev may : Option Rule
  may = barring (has_home s.rows s.by e) (has_copy s.rows s.by e) (granted_somewhere s.rows s.groups s.at s.by (event_key e)) true

  publish_rules : first_rule (change_rules s (Publish e)) ≡ or_else may (first_rule ((is_at_limit s (event_key e), rule.TimeLimit) ∷ []))
  unfolding change_rules
  publish_rules = first_of (bars s e true) ((is_at_limit s (event_key e), rule.TimeLimit) ∷ []) ∙ ap (λ x. or_else x (first_rule ((is_at_limit s (event_key e), rule.TimeLimit) ∷ []))) (bars_are s e true)

  pub publish_refused : (fault : ChangeFault) → rule_of fault ≡ may → Refuses (change_rules s (Publish e)) fault
  publish_refused fault h = refuses_first fault may (first_rule ((is_at_limit s (event_key e), rule.TimeLimit) ∷ [])) (change_rules s (Publish e)) publish_rules h

  publish_left : (b : Bool) → None ≡ may → is_at_limit s (event_key e) ≡ b → first_rule (change_rules s (Publish e)) ≡ first_rule ((b, rule.TimeLimit) ∷ [])
  unfolding or_else
  publish_left b n h = publish_rules ∙ (λ i. or_else (sym n i) (first_rule ((h i, rule.TimeLimit) ∷ [])))

  pub publish_late : None ≡ may → is_at_limit s (event_key e) ≡ true → first_rule (change_rules s (Publish e)) ≡ Some rule.TimeLimit
  unfolding first_rule
  publish_late n h = publish_left true n h

  pub publish_free : None ≡ may → is_at_limit s (event_key e) ≡ false → first_rule (change_rules s (Publish e)) ≡ None
  unfolding first_rule
  publish_free n h = publish_left false n h
