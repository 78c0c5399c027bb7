-- The rules that look at the label, the stamp and the row of a change.
use Rattle.std.proofs.Common.{◌≡◌, List, [], ◌∷◌, Bool, not, true, false, refl, ap, sym, eqb, Option, Some, None, is_some, option_to_list, find}
use Rattle.misp_model.specs.Prelude.{Scene, Stamp, first_rule, is_newer_than, is_usable, row_passes}
use Rattle.misp_history.proofs.Prelude.{Group, Inst, Label, OrgId, Row, false≢true, last_stamp}
use Rattle.misp_edit.specs.Labels.{is_unusable}
use Rattle.misp_edit.specs.Changing.{unusable_given, late_rules}
use Rattle.misp_model.specs.Scene as rule

-- a label may be used where it is usable
pub usable_is : (s : Scene) (l : Label) → is_unusable s.groups s.at s.by l ≡ not (is_usable s l)
unfolding is_unusable is_usable
usable_is s (Label.Group g) = refl
usable_is s _ = refl

module _ (groups : List Group) (here : Inst) (o : OrgId) (l : Option Label) (t : Option Stamp) where
  abbrev given_one : Option Label
  given_one = find (is_unusable groups here o) (option_to_list l)

  pub late_group : (own : Option Row) (g : Label) → Some g ≡ given_one → Some rule.GroupNotUsable ≡ first_rule (late_rules groups here o own l t)
  unfolding late_rules unusable_given first_rule
  late_group own g h = rw (sym h) refl

  pub late_nothing : None ≡ given_one → None ≡ first_rule (late_rules groups here o None l t)
  unfolding late_rules unusable_given first_rule row_passes
  late_nothing h = rw (sym h) refl

  module _ (row : Row) (h : None ≡ given_one) where
    pub late_older : is_newer_than t row ≡ true → Some rule.OlderTime ≡ first_rule (late_rules groups here o (Some row) l t)
    unfolding late_rules unusable_given first_rule row_passes
    late_older n = rw (sym h, n) refl

    pub late_limit : is_newer_than t row ≡ false → eqb row.stamp last_stamp ≡ true → Some rule.TimeLimit ≡ first_rule (late_rules groups here o (Some row) l t)
    unfolding late_rules unusable_given first_rule row_passes
    late_limit n m = rw (sym h, n, m) refl

    pub late_free : is_newer_than t row ≡ false → eqb row.stamp last_stamp ≡ false → None ≡ first_rule (late_rules groups here o (Some row) l t)
    unfolding late_rules unusable_given first_rule row_passes
    late_free n m = rw (sym h, n, m) refl

  -- where they are passed, the row has not the last stamp
  pub not_last : (row : Row) → None ≡ first_rule (late_rules groups here o (Some row) l t) → eqb row.stamp last_stamp ≡ false
  unfolding late_rules unusable_given first_rule row_passes
  not_last row h = one (is_some given_one) (is_newer_than t row) (eqb row.stamp last_stamp) h
    where
      one : (a b c : Bool) → None ≡ first_rule ((a, rule.GroupNotUsable) ∷ (b, rule.OlderTime) ∷ (c, rule.TimeLimit) ∷ []) → c ≡ false
      one true b c g = absurd (false≢true (ap is_some g))
      one false true c g = absurd (false≢true (ap is_some g))
      one false false true g = absurd (false≢true (ap is_some g))
      one false false false g = refl
