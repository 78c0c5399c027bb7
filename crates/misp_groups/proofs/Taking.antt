-- What becomes of a group that comes by a synchronisation, by what is known of its name.
use Rattle.std.proofs.Common.{◌≡◌, ℕ, Bool, true, false, List, get_or, Option, Some, None, refl, sym, ap, ◌∙◌, cond, arith, leb, ltb, ◌&&◌, ◌||◌, not}
use Rattle.std.proofs.lemmas.Bool.Decides.{nat_tests}
use Rattle.misp_groups.specs.Prelude.{Group, IsGapFor, IsPlaceOf, IsStrictlySortedBy, by_name, known_group, put_group}
use Rattle.misp_groups.specs.Changes.{takes_group, take_group}
use Rattle.misp_groups.proofs.GroupsAgain.{takes_is}
use Rattle.misp_groups.specs.declared.groups.Taken.TheVariants.{New, Newer, Held}
use Rattle.misp_groups.specs.Groups.{is_older, taken_by}
use Rattle.misp_groups.proofs.Places.{known_at, unknown_at}
use Rattle.misp_groups.proofs.Administered.{any_known}

module _ (groups : List Group) (g : Group) (up : IsStrictlySortedBy by_name groups) where
  older_is : (h : Group) → known_group groups g.id ≡ Some h → takes_group groups g ≡ is_older h g
  unfolding is_older
  older_is h e =
      takes_is groups g
      ∙ ap not (any_known (λ h. not h.carried || leb g.modified h.modified) g.id groups up ∙ ap (λ (o : Option Group). elim o as (λ x. Bool) [ None ↦ false | Some h ↦ not h.carried || leb g.modified h.modified ]) e)
      ∙ one h.carried
    where
      one : (c : Bool) → not (not c || leb g.modified h.modified) ≡ (c && ltb h.modified g.modified)
      one false = refl
      one true = two
        where
          two : not (leb g.modified h.modified) ≡ ltb h.modified g.modified
          two = grind (arith, nat_tests)

  none_is : known_group groups g.id ≡ None → takes_group groups g ≡ true
  none_is e =
      takes_is groups g
      ∙ ap not (any_known (λ h. not h.carried || leb g.modified h.modified) g.id groups up ∙ ap (λ (o : Option Group). elim o as (λ x. Bool) [ None ↦ false | Some h ↦ not h.carried || leb g.modified h.modified ]) e)

  -- a place has the name, or a gap is for it
  pub held_stays : (place : ℕ) (h : Group) → IsPlaceOf groups g.id place → h ≡ get_or groups place h → is_older h g ≡ false → groups ≡ take_group groups g
  unfolding take_group
  held_stays place h at is old =
      sym (ap (λ b. cond b (put_group (record g { carried = true }) groups) groups) (older_is h (known_at groups g.id place h up at ∙ ap Some (sym is)) ∙ old))

  pub held_told : (place : ℕ) (h : Group) → IsPlaceOf groups g.id place → h ≡ get_or groups place h → is_older h g ≡ false → Held ≡ taken_by (known_group groups g.id) g
  unfolding taken_by
  held_told place h at is old = sym (ap (λ o. taken_by o g) (known_at groups g.id place h up at ∙ ap Some (sym is)) ∙ rw old refl)

  pub newer_put : (place : ℕ) (h : Group) (new : List Group) → IsPlaceOf groups g.id place → h ≡ get_or groups place h → is_older h g ≡ true → new ≡ put_group (record g { carried = true }) groups → new ≡ take_group groups g
  unfolding take_group
  newer_put place h new at is old put =
      put ∙ sym (ap (λ b. cond b (put_group (record g { carried = true }) groups) groups) (older_is h (known_at groups g.id place h up at ∙ ap Some (sym is)) ∙ old))

  pub newer_told : (place : ℕ) (h : Group) → IsPlaceOf groups g.id place → h ≡ get_or groups place h → is_older h g ≡ true → Newer ≡ taken_by (known_group groups g.id) g
  unfolding taken_by
  newer_told place h at is old = sym (ap (λ o. taken_by o g) (known_at groups g.id place h up at ∙ ap Some (sym is)) ∙ rw old refl)

  pub new_put : (gap : ℕ) (new : List Group) → IsGapFor groups g.id gap → new ≡ put_group (record g { carried = true }) groups → new ≡ take_group groups g
  unfolding take_group
  new_put gap new at put = put ∙ sym (ap (λ b. cond b (put_group (record g { carried = true }) groups) groups) (none_is (unknown_at groups g.id gap at)))

  pub new_told : (gap : ℕ) → IsGapFor groups g.id gap → New ≡ taken_by (known_group groups g.id) g
  unfolding taken_by
  new_told gap at = sym (ap (λ o. taken_by o g) (unknown_at groups g.id gap at))
