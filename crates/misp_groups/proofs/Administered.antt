-- Changes at an instance, and what the history makes of the groups.
use Rattle.std.proofs.Common.{◌≡◌, true, List, is_some, refl, inl, inr, Bool, false, Option, Some, None, [], ◌∷◌, subst, not, eqb, if◌then◌else◌, sym, ap, ◌∙◌, ◌&&◌, Less}
use Rattle.std.proofs.lemmas.Bool.{cases_Bool}
use Rattle.misp_ids.specs.Moments.{last_stamp}
use Rattle.misp_ids.specs.declared.refusal.RuleName.TheVariants.{NotCreator}
use Rattle.misp_groups.specs.Prelude.{AllByRecursion, Group, GroupId, IsStrictlySortedBy, OrgId, Stamp, by_id, by_name, group_now, is_known_group, known_group, list_any, put_group, same_group, same_org, why_not}
use Rattle.misp_groups.specs.Changes.{administration_fails, administered}
use Rattle.misp_groups.specs.Groups.{why_not_added, why_kept, why_not_edited}
use Rattle.misp_groups.proofs.Ids.{greater_apart, same_group-sound}

-- ---- when it fails
pub added_fails : (old : List Group) (by : OrgId) (g : Group) → is_some (why_not_added old by g.id) ≡ administration_fails by true g old
unfolding administration_fails is_known_group
added_fails old by g = elim (cases_Bool (same_org by g.id.creator)) [
  | inl own ↦ elim (cases_Bool (list_any (λ h. same_group h.id g.id) old)) [
    | inl hit ↦ rw (own, hit) refl
    | inr miss ↦ rw (own, miss) refl
  ]
  | inr other ↦ rw other refl
]

-- the test that the group of a name passes, where one is known
abbrev pub passes : (Group → Bool) → Option Group → Bool
passes test None = false
passes test (Some h) = test h

none_after : (test : Group → Bool) (id : GroupId) (xs : List Group) → AllByRecursion (λ z. by_id id z.id ≡ Less) xs → list_any (λ h. same_group h.id id && test h) xs ≡ false
none_after test id [] all = refl
none_after test id (x ∷ xs) all = rw (greater_apart x.id id all.0) (none_after test id xs all.1)

-- of an ascending list at most one group has the name
pub any_known : (test : Group → Bool) (id : GroupId) (xs : List Group) → IsStrictlySortedBy by_name xs → list_any (λ h. same_group h.id id && test h) xs ≡ passes test (known_group xs id)
unfolding IsStrictlySortedBy known_group
any_known test id [] up = refl
any_known test id (x ∷ xs) up = elim (cases_Bool (same_group x.id id)) [
  | inl hit ↦
      let rest : list_any (λ h. same_group h.id id && test h) xs ≡ false = none_after test id xs (subst (λ i. AllByRecursion (λ z. by_id i z.id ≡ Less) xs) (same_group-sound x.id id hit) up.0) in
      elim (cases_Bool (test x)) [
        | inl good ↦ rw (hit, good) refl
        | inr bad ↦ rw (hit, bad, rest) refl
      ]
  | inr miss ↦ rw miss (any_known test id xs up.1)
]

abbrev may_change : Group → Bool
may_change h = not h.carried && not (eqb h.modified last_stamp)

kept_where : (held : Option Group) → is_some (why_kept held) ≡ not (passes may_change held)
kept_where None = refl
kept_where (Some h) = elim (cases_Bool h.carried) [
  | inl hit ↦ rw hit refl
  | inr miss ↦ elim (cases_Bool (eqb h.modified last_stamp)) [
    | inl last ↦ rw (miss, last) refl
    | inr more ↦ rw (miss, more) refl
  ]
]

pub edited_fails : (old : List Group) (by : OrgId) (g : Group) → IsStrictlySortedBy by_name old → is_some (why_not_edited old by g.id) ≡ administration_fails by false g old
unfolding administration_fails
edited_fails old by g up = elim (cases_Bool (same_org by g.id.creator)) [
  | inl own ↦ rw (own, any_known may_change g.id old up) (kept_where (known_group old g.id))
  | inr other ↦ rw other refl
]

-- an administration fails where there is a rule against it
pub fails_where : (add : Bool) (old : List Group) (by : OrgId) (g : Group) → IsStrictlySortedBy by_name old → is_some (why_not add old by g.id) ≡ administration_fails by add g old
fails_where true old by g up = added_fails old by g
fails_where false old by g up = edited_fails old by g up

-- ---- what it does
free_from : (own : Bool) (k : Option Group) → (if not own then Some NotCreator else why_kept k) ≡ None → (own ≡ true) × (passes may_change k ≡ true)
free_from false k free = absurd cc
free_from true k free = (refl, opposite (passes may_change k) (sym (kept_where k) ∙ ap is_some free))
  where
    opposite : (b : Bool) → not b ≡ false → b ≡ true
    opposite true h = refl
    opposite false h = absurd cc

any_from_known : (test : Group → Bool) (id : GroupId) (xs : List Group) → passes test (known_group xs id) ≡ true → list_any (λ h. same_group h.id id && test h) xs ≡ true
unfolding known_group
any_from_known test id [] h = h
any_from_known test id (x ∷ xs) h = elim (cases_Bool (same_group x.id id)) [
  | inl hit ↦ let good : test x ≡ true = rw hit at h in rw (hit, good) refl
  | inr miss ↦ rw miss (any_from_known test id xs (rw miss at h))
]

module _ (old : List Group) (by : OrgId) (g : Group) (now : Stamp) where
  pub added_is : why_not_added old by g.id ≡ None → put_group (group_now now g old) old ≡ administered now by true g old
  unfolding administered
  added_is free =
      let passes : administration_fails by true g old ≡ false = sym (added_fails old by g) ∙ ap is_some free in
      rw passes refl

  pub edited_is : why_not_edited old by g.id ≡ None → put_group (group_now now g old) old ≡ administered now by false g old
  unfolding administered administration_fails
  edited_is free =
      let is : (same_org by g.id.creator ≡ true) × (passes may_change (known_group old g.id) ≡ true) = free_from (same_org by g.id.creator) (known_group old g.id) free in
      rw (is.0, any_from_known may_change g.id old is.1) refl
