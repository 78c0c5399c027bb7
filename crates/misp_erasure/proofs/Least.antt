-- The kept keys are the least set that is closed and has what it is to have.
use Rattle.std.proofs.Common.{◌≡◌, List, Bool, true, ℕ, [], ◌∷◌, false, refl, ap, sym, ◌∙◌, map, subst, inl, inr, cond, suc, ◌||◌, ◌⊎◌, not, filter}
use Rattle.misp_history.proofs.Prelude.{Act, Ask, Asks, Command, Element, EventId, IsClosed, Judge, Key, Net, OrgId, ProposalName, Row, Scene, Verdict, Version, World, and_parts, cases_Bool, false≢true, is_accepted, judged_place, known_at}
use Rattle.misp_history.proofs.Prelude.{list_all, list_any, or_cases, parents, same_org, scene, step}
use Rattle.misp_model.specs.Prelude.{is_proposal_of}
use Rattle.misp_model.specs.Closed.{HasPair}
use Rattle.misp_erasure.proofs.Members.{Member, member, member_of, of_joined, of_filter}
use Rattle.misp_erasure.specs.Erasure.{HasKnown, HasPairs, IsKept}
use Rattle.misp_erasure.specs.Kept.{is_one_of, joined, keys_known, keys_ever_known, acceptance_in, acceptance_of, acceptances, judged_by, proposal_of, with_parents, with_made, with_acceptances, with_proposals}
use Rattle.misp_erasure.proofs.Keeping.{all_kept}

-- each of these is kept
abbrev pub AllKept : (Key → Bool) → List Key → Type 0
AllKept keep ks = (k : Key) → Member k ks → keep k ≡ true

module _ (keep : Key → Bool) where
  rows_kept : (rows : List Row) → list_all (λ row. keep row.key) rows ≡ true → AllKept keep (map (λ row. row.key) rows)
  rows_kept [] h k m = absurd m
  rows_kept (row ∷ rows) h k (inl p) = ap keep (sym p) ∙ (and_parts _ _ h).0
  rows_kept (row ∷ rows) h k (inr m) = rows_kept rows (and_parts _ _ h).1 k m

  there_kept : (o : OrgId) (w : World) → HasKnown o keep w → (log : List Version) → AllKept keep (joined (map (λ v. map (λ row. row.key) (known_at w v.at o)) log))
  unfolding joined
  there_kept o w h [] k m = absurd m
  there_kept o w h (v ∷ log) k m = elim (member_of (map (λ row. row.key) (known_at w v.at o)) _ k m) [ inl a ↦ rows_kept (known_at w v.at o) (h.granted v.at) k a | inr b ↦ there_kept o w h log k b ]

  own_kept : (o : OrgId) (log : List Version) → list_all (λ v. not (same_org v.owner o) || keep v.key) log ≡ true → AllKept keep (map (λ v. v.key) (filter (λ v. same_org v.owner o) log))
  own_kept o [] h k m = absurd m
  own_kept o (v ∷ log) h k m =
      let two = and_parts (not (same_org v.owner o) || keep v.key) (list_all (λ v. not (same_org v.owner o) || keep v.key) log) h in
      elim (cases_Bool (same_org v.owner o)) [
        | inl e ↦ (let n : (v.key ≡ k) ⊎ Member k (map (λ v. v.key) (filter (λ v. same_org v.owner o) log)) = rw e at m in
            elim n [ inl p ↦ ap keep (sym p) ∙ sym (ap (λ b. not b || keep v.key) e) ∙ two.0 | inr l ↦ own_kept o log two.1 k l ])
        | inr e ↦ own_kept o log two.1 k (rw e at m)
      ]

  known_kept : (o : OrgId) (w : World) → HasKnown o keep w → AllKept keep (keys_known o w)
  unfolding keys_known
  known_kept o w h k m = elim (member_of _ (map (λ v. v.key) (filter (λ v. same_org v.owner o) w.log)) k m) [ inl a ↦ there_kept o w h w.log k a | inr b ↦ own_kept o w.log h.own k b ]

  pub ever_kept : (o : OrgId) (net : Net) (n : ℕ) (w : World) (acts : List Act) → IsKept o keep net n w acts → AllKept keep (keys_ever_known o net n w acts)
  unfolding keys_ever_known IsKept
  ever_kept o net n w [] h k m = known_kept o w h k m
  ever_kept o net n w (act ∷ acts) h k m = elim (member_of (keys_known o w) _ k m) [ inl a ↦ known_kept o w h.0 k a | inr b ↦ ever_kept o net (suc n) (step net n w act) acts h.2 k b ]

  -- what a verdict and what it changed or made have in common
  abbrev pub IsPaired : List Key → Type 0
  IsPaired ks = (v : Key) → Member v ks → (j : Key) → Member j (judged_by v) → keep v ≡ keep j

  of_acceptance : (s : Scene) (e : EventId) (n : ProposalName) → keep (Verdict e n s.at s.by) ≡ keep (Element e (judged_place n)) → (v : Key) → Verdict e n s.at s.by ≡ v → (j : Key) → Member j (judged_by v) → keep v ≡ keep j
  unfolding judged_by
  of_acceptance s e n h v p = let P : Key → Type 0 = λ x. (j : Key) → Member j (judged_by x) → keep x ≡ keep j in subst P p base
    where
      base : (j : Key) → (Element e (judged_place n) ≡ j) ⊎ ⊥ → keep (Verdict e n s.at s.by) ≡ keep j
      base j (inl q) = h ∙ ap keep q
      base j (inr x) = absurd x

  pair_in_ask : (s : Scene) (a : Ask) → HasPair keep s a → IsPaired (acceptance_in s a)
  unfolding acceptance_in HasPair judged_by
  pair_in_ask s (Judge e n true) h = one (is_accepted s (Judge e n true)) refl
    where
      one : (b : Bool) → is_accepted s (Judge e n true) ≡ b → IsPaired (cond b (Verdict e n s.at s.by ∷ []) [])
      one true e1 v (inl p) j m = of_acceptance s e n (h e1) v p j m
      one true e1 v (inr x) j m = absurd x
      one false e1 v m j x = absurd m
  pair_in_ask s (Judge e n false) h = λ v m. absurd m
  pair_in_ask s _ h = λ v m. absurd m

  pair_in_act : (n : ℕ) (w : World) (act : Act) → HasPairs keep n w act → IsPaired (acceptance_of n w act)
  unfolding acceptance_of HasPairs scene
  pair_in_act n w act h = by_command act.command h
    where
      by_command : (d : Command) → HasPairs keep n w (record act { command = d }) → IsPaired (acceptance_of n w (record act { command = d }))
      by_command (Asks c a) h = pair_in_ask (scene n w act c) a h
      by_command _ h = λ v m. absurd m

  pub pairs_in_acts : (o : OrgId) (net : Net) (n : ℕ) (w : World) (acts : List Act) → IsKept o keep net n w acts → IsPaired (acceptances net n w acts)
  unfolding acceptances IsKept
  pairs_in_acts o net n w [] h = λ v m. absurd m
  pairs_in_acts o net n w (act ∷ acts) h = λ v m j x. elim (member_of (acceptance_of n w act) _ v m) [ inl a ↦ pair_in_act n w act h.1 v a j x | inr b ↦ pairs_in_acts o net (suc n) (step net n w act) acts h.2 v b j x ]

  all_of : (ks : List Key) (k : Key) → list_all keep ks ≡ true → Member k ks → keep k ≡ true
  all_of [] k h m = absurd m
  all_of (x ∷ ks) k h (inl p) = ap keep (sym p) ∙ (and_parts _ _ h).0
  all_of (x ∷ ks) k h (inr m) = all_of ks k (and_parts _ _ h).1 m

  -- a verdict of what was judged: some key that it changed or made is in a list
  judged_in : (ks : List Key) (v : Key) → list_any (is_one_of ks) (judged_by v) ≡ true → (j : Key) × Member j (judged_by v) × Member j ks
  unfolding judged_by
  judged_in ks (Verdict e n i o) h = (Element e (judged_place n), inl refl, member ks _ (elim (or_cases _ _ h) [ inl x ↦ x | inr x ↦ absurd (false≢true x) ]))
  judged_in ks _ h = absurd (false≢true h)

  of_proposal : (j k : Key) → Member k (proposal_of j) → is_proposal_of j k
  unfolding proposal_of is_proposal_of
  of_proposal (Verdict e n i o) k (inl p) = sym p
  of_proposal (Verdict e n i o) k (inr m) = absurd m
  of_proposal _ k m = absurd m

  module _ (c : IsClosed keep) (seen acc : List Key) (had : AllKept keep seen) (pairs : IsPaired acc) where
    parents_kept : AllKept keep (with_parents seen)
    unfolding with_parents
    parents_kept k m = elim (member_of seen (joined (map parents seen)) k m) [
      | inl a ↦ had k a
      | inr b ↦ (let r : (j : Key) × Member j seen × Member k (parents j) = of_joined parents seen k b in all_of (parents r.0) k (c.above r.0 (had r.0 r.1)) r.2)
    ]

    made_kept : (ks : List Key) → AllKept keep ks → AllKept keep (with_made acc ks)
    unfolding with_made
    made_kept ks h k m = elim (member_of ks (joined (map judged_by (filter (is_one_of ks) acc))) k m) [
      | inl a ↦ h k a
      | inr b ↦ (let r : (j : Key) × Member j (filter (is_one_of ks) acc) × Member k (judged_by j) = of_joined judged_by (filter (is_one_of ks) acc) k b in
          let f : Member r.0 acc × (is_one_of ks r.0 ≡ true) = of_filter (is_one_of ks) acc r.0 r.1 in
          sym (pairs r.0 f.0 k r.2) ∙ h r.0 (member ks r.0 f.1))
    ]

    acceptances_kept : (ks : List Key) → AllKept keep ks → AllKept keep (with_acceptances acc ks)
    unfolding with_acceptances
    acceptances_kept ks h k m = elim (member_of ks (filter (λ v. list_any (is_one_of ks) (judged_by v)) acc) k m) [
      | inl a ↦ h k a
      | inr b ↦ (let f : Member k acc × (list_any (is_one_of ks) (judged_by k) ≡ true) = of_filter (λ v. list_any (is_one_of ks) (judged_by v)) acc k b in
          let r : (j : Key) × Member j (judged_by k) × Member j ks = judged_in ks k f.1 in
          pairs k f.0 r.0 r.1 ∙ h r.0 r.2)
    ]

    proposals_kept : (ks : List Key) → AllKept keep ks → AllKept keep (with_proposals ks)
    unfolding with_proposals
    proposals_kept ks h k m = elim (member_of ks (joined (map proposal_of ks)) k m) [
      | inl a ↦ h k a
      | inr b ↦ (let r : (j : Key) × Member j ks × Member k (proposal_of j) = of_joined proposal_of ks k b in c.proposals r.0 k (h r.0 r.1) (of_proposal r.0 k r.2))
    ]

    pub least : AllKept keep (all_kept seen acc)
    unfolding all_kept
    least = proposals_kept _ (acceptances_kept _ (made_kept _ parents_kept))
