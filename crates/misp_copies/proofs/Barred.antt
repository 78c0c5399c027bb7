-- The rules that bar a change of an event, by what the caller has.
use Rattle.std.proofs.Common.{◌≡◌, List, [], ◌∷◌, ◌++◌, Bool, true, false, refl, ap, sym, ◌∙◌, ◌&&◌, ◌||◌, not, Option, Some, None, is_some}
use Rattle.misp_model.proofs.Prelude.{Content, ElemId, EventId, Label, OrgId, Row, Rule, Scene, any_implies, bars, event_key, false≢true, first_rule, granted_somewhere, has_copy, has_home, holds_copy, is_row_of, is_tombstone, sees}
use Rattle.misp_model.specs.Scene.{holds_home}
use Rattle.misp_copies.specs.Barring.{rule_of, Names, NamesUuid, Refuses, barring, or_else}
use Rattle.misp_copies.specs.Renewing.{IsFull}
use Rattle.misp_copies.specs.declared.change_fault.ChangeFault.{ChangeFault}
use Rattle.misp_copies.specs.declared.change_fault.ChangeFault.TheVariants.{ElementExists, GroupNotUsable, NoMemory}
use Rattle.misp_model.specs.Scene as rule

-- ---- the first of rules

pub first_of : (xs ys : List (Bool × Rule)) → first_rule (xs ++ ys) ≡ or_else (first_rule xs) (first_rule ys)
unfolding first_rule or_else
first_of [] ys = refl
first_of (x ∷ xs) ys = one x.0 (first_of xs ys)
  where
    one : (b : Bool) → first_rule (xs ++ ys) ≡ or_else (first_rule xs) (first_rule ys) →
        (elim b as (λ t. Option Rule) [ true ↦ Some x.1 | false ↦ first_rule (xs ++ ys) ]) ≡ or_else (elim b as (λ t. Option Rule) [ true ↦ Some x.1 | false ↦ first_rule xs ]) (first_rule ys)
    one true ih = refl
    one false ih = ih

pub or_assoc : (a b c : Option Rule) → or_else a (or_else b c) ≡ or_else (or_else a b) c
unfolding or_else
or_assoc None b c = refl
or_assoc (Some r) b c = refl

-- where one of two is known
pub or_first : (a b c : Option Rule) → is_some a ≡ true → a ≡ b → a ≡ or_else b c
unfolding or_else
or_first None b c s h = absurd (false≢true s)
or_first (Some r) b c s h = ap (λ x. or_else x c) h

pub or_second : (a b c : Option Rule) → None ≡ b → a ≡ c → a ≡ or_else b c
unfolding or_else
or_second a b c n h = h ∙ ap (λ x. or_else x c) n

bars_by : (home copy seen fits : Bool) → (home ≡ true → copy ≡ true) →
    first_rule ((not copy && not seen || home && not fits, rule.NotGranted) ∷ (not copy && seen, rule.NotOwner) ∷ (copy && not home, rule.LockedCopy) ∷ []) ≡ barring home copy seen fits
unfolding first_rule barring
bars_by true true seen true h = refl
bars_by true true seen false h = refl
bars_by true false seen fits h = absurd (false≢true (h refl))
bars_by false true seen fits h = refl
bars_by false false true fits h = refl
bars_by false false false fits h = refl

keep_two : (a b c : Bool) → (a && (b && c)) ≡ true → (a && b) ≡ true
keep_two true true c h = refl
keep_two true false c h = h
keep_two false b c h = h

home_is_copy : (rows : List Row) (o : OrgId) (e : EventId) → has_home rows o e ≡ true → has_copy rows o e ≡ true
unfolding has_home has_copy
home_is_copy rows o e h =
    any_implies (λ row. is_row_of o (event_key e) row && (not (is_tombstone row) && not row.carried)) (λ row. is_row_of o (event_key e) row && not (is_tombstone row))
    (λ row g. keep_two (is_row_of o (event_key e) row) (not (is_tombstone row)) (not row.carried) g) rows h

pub bars_are : (s : Scene) (e : EventId) (fits : Bool) → first_rule (bars s e fits) ≡ barring (has_home s.rows s.by e) (has_copy s.rows s.by e) (granted_somewhere s.rows s.groups s.at s.by (event_key e)) fits
unfolding bars holds_copy holds_home sees
bars_are s e fits = bars_by (has_home s.rows s.by e) (has_copy s.rows s.by e) (granted_somewhere s.rows s.groups s.at s.by (event_key e)) fits (home_is_copy s.rows s.by e)

-- ---- faults

-- the fault of the first rules
pub refuses_first : (fault : ChangeFault) (a b : Option Rule) (rules : List (Bool × Rule)) → first_rule rules ≡ or_else a b → rule_of fault ≡ a → Refuses rules fault
unfolding or_else rule_of
refuses_first NoMemory a b rules h k = tt
refuses_first _ a b rules h k = h ∙ ap (λ x. or_else x b) (sym k)

-- that of an element that is too long names no group, and no uuid
pub full_names : (l : Option Label) (c : Content) (fault : ChangeFault) → IsFull c fault → Names l fault
full_names l c (GroupNotUsable g) h = absurd h
full_names l c (ElementExists x) h = absurd h
full_names l c _ h = tt

pub full_uuid : (u : ElemId) (c : Content) (fault : ChangeFault) → IsFull c fault → NamesUuid u fault
full_uuid u c (ElementExists x) h = absurd h
full_uuid u c (GroupNotUsable g) h = absurd h
full_uuid u c _ h = tt
