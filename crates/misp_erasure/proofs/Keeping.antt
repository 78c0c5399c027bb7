-- The kept keys are closed, and have what they are to have.
use Rattle.std.proofs.Common.{List, [], ◌∷◌, subst, inl, inr, ◌≡◌, refl, true, map, Bool, false, ap, sym, ◌∙◌, ℕ, suc, ◌⊎◌, ◌||◌, not, filter}
use Rattle.misp_history.proofs.Prelude.{Act, Ask, Asks, Command, ElemId, Element, EventId, Inst, IsClosed, Judge, Key, Net, OrgId, Place, Proposal, ProposalName, Reference, Row, Scene, Sighting, Verdict, Version, World, above, alike}
use Rattle.misp_history.proofs.Prelude.{and_from, cases_Bool, false≢true, in_order, is_accepted, judged_place, known, known_at, list_all, list_any, newest, newest_from, or_cases, or_left, or_parts, parents, same_inst, same_inst-sound}
use Rattle.misp_history.proofs.Prelude.{same_org, scene, step, tables}
use Rattle.misp_model.proofs.Prelude.{up_to}
use Rattle.misp_model.specs.Statements.{judged_at}
use Rattle.misp_model.specs.Closed.{HasPair, is_proposal_of}
use Rattle.misp_erasure.proofs.Members.{Member, member, member_right, member_of, member_joined, of_joined, member_left, of_filter, is_member, member_filter, all_members}
use Rattle.misp_erasure.specs.Kept.{judged_by, is_one_of, proposal_of, joined, with_parents, with_made, with_acceptances, with_proposals, keys_known, acceptance_in, acceptance_of, keys_ever_known, acceptances}
use Rattle.misp_erasure.specs.Erasure.{HasKnown, HasPairs, IsKept}

-- each of these is one of those
abbrev pub Within : List Key → List Key → Type 0
Within xs ys = (k : Key) → Member k xs → Member k ys

-- with each key its parents
abbrev IsUpward : List Key → Type 0
IsUpward ks = (k : Key) → Member k ks → Within (parents k) ks

none_within : (ys : List Key) → Within [] ys
none_within ys j m = absurd m

one_within : (x : Key) (ys : List Key) → Member x ys → Within (x ∷ []) ys
one_within x ys m j (inl p) = let P : Key → Type 0 = λ k. Member k ys in subst P p m
one_within x ys m j (inr n) = absurd n

-- a key that is equal to one whose parents are here
at_key : (j k : Key) (ys : List Key) → j ≡ k → Within (parents j) ys → Within (parents k) ys
at_key j k ys p h = let P : Key → Type 0 = λ x. Within (parents x) ys in subst P p h

above_within : (e : EventId) (p : Place) (k : Key) → Member k (above e p) → Within (parents k) (above e p)
unfolding above parents
above_within e Place.Event k m = absurd m
above_within e (Place.Object x) k (inl p) = at_key (Element e Place.Event) k (above e (Place.Object x)) p (none_within (above e (Place.Object x)))
above_within e (Place.Object x) k (inr m) = absurd m
above_within e (Place.Attribute x) k (inl p) = at_key (Element e Place.Event) k (above e (Place.Attribute x)) p (none_within (above e (Place.Attribute x)))
above_within e (Place.Attribute x) k (inr m) = absurd m
above_within e (Place.ObjectAttribute x a) k (inl p) = at_key (Element e Place.Event) k (above e (Place.ObjectAttribute x a)) p (none_within (above e (Place.ObjectAttribute x a)))
above_within e (Place.ObjectAttribute x a) k (inr (inl p)) = at_key (Element e (Place.Object x)) k (above e (Place.ObjectAttribute x a)) p (one_within (Element e Place.Event) (above e (Place.ObjectAttribute x a)) (inl refl))
above_within e (Place.ObjectAttribute x a) k (inr (inr m)) = absurd m

-- the parents of a key in a chain are in the chain
up_to_within : (e : EventId) (t : Place) (k : Key) → Member k (up_to e t) → Within (parents k) (up_to e t)
unfolding up_to parents
up_to_within e t k m = elim (member_of (above e t) (Element e t ∷ []) k m) [
  | inl a ↦ λ j n. member_left (above e t) _ j (above_within e t k a j n)
  | inr b ↦ elim b [ inl p ↦ at_key (Element e t) k (up_to e t) p (λ j n. member_left (above e t) _ j n) | inr x ↦ absurd x ]
]

-- the event stands first in each chain
event_first : (e : EventId) (t : Place) → Member (Element e Place.Event) (up_to e t)
unfolding up_to above
event_first e Place.Event = inl refl
event_first e t = inl refl

object_parents : (e : EventId) (x : ElemId) → Within (parents (Element e (Place.Object x))) (Element e Place.Event ∷ [])
unfolding parents above
object_parents e x j m = m

-- the parents of a parent are parents
parents_within : (j k : Key) → Member k (parents j) → Within (parents k) (parents j)
unfolding parents
parents_within (Element e p) k m = above_within e p k m
parents_within (Reference e x t u) k (inl p) =
    at_key (Element e (Place.Object x)) k (Element e (Place.Object x) ∷ up_to e t) p (λ i m. inr (one_within (Element e Place.Event) (up_to e t) (event_first e t) i (object_parents e x i m)))
parents_within (Reference e x t u) k (inr m) = λ i n. inr (up_to_within e t k m i n)
parents_within (Proposal e n) k m = up_to_within e n.target k m
parents_within (Verdict e n i o) k m = up_to_within e n.target k m
parents_within (Sighting e t i o u) k m = up_to_within e t k m

-- what an acceptance changes or makes stands under what the target and its parents are
judged_above : (e : EventId) (t : Place) (u : ElemId) → Within (above e (judged_at t u)) (up_to e t)
unfolding judged_at above up_to
judged_above e Place.Event u j m = m
judged_above e t u j m = member_left (above e t) (Element e t ∷ []) j m

-- and the target and its parents are that or stand above it
judged_below : (e : EventId) (t : Place) (u : ElemId) (j : Key) → Member j (up_to e t) → (Element e (judged_at t u) ≡ j) ⊎ Member j (above e (judged_at t u))
unfolding judged_at above up_to
judged_below e Place.Event u j m = inr m
judged_below e t u j m = elim (member_of (above e t) (Element e t ∷ []) j m) [ inl a ↦ inr a | inr b ↦ elim b [ inl p ↦ inl p | inr x ↦ absurd x ] ]

judged_within : (j k : Key) → Member k (judged_by j) → Within (parents k) (parents j)
unfolding judged_by parents judged_place
judged_within (Verdict e n i o) k (inl p) = at_key (Element e (judged_place n)) k (up_to e n.target) p (judged_above e n.target n.uuid)
judged_within (Verdict e n i o) k (inr m) = absurd m
judged_within _ k m = absurd m

-- the parents of a verdict that accepts, over what it changed or made
verdict_within : (v : Key) (ks : List Key) → IsUpward ks → list_any (is_one_of ks) (judged_by v) ≡ true → Within (parents v) ks
unfolding judged_by parents judged_place
verdict_within (Verdict e n i o) ks up h = λ j m. elim (judged_below e n.target n.uuid j m) [ inl p ↦ (let P : Key → Type 0 = λ x. Member x ks in subst P p judged) | inr a ↦ up (Element e (judged_place n)) judged j a ]
  where
    judged : Member (Element e (judged_place n)) ks
    judged = member ks (Element e (judged_place n)) (elim (or_cases _ _ h) [ inl e ↦ e | inr e ↦ absurd (false≢true e) ])
verdict_within _ ks up h = absurd (false≢true h)

proposal_within : (j k : Key) → Member k (proposal_of j) → Within (parents k) (parents j)
unfolding proposal_of parents
proposal_within (Verdict e n i o) k (inl p) = at_key (Proposal e n) k (up_to e n.target) p (λ i m. m)
proposal_within (Verdict e n i o) k (inr m) = absurd m
proposal_within _ k m = absurd m

-- each step keeps the set upward
parents_upward : (ks : List Key) → IsUpward (with_parents ks)
unfolding with_parents
parents_upward ks k m = elim (member_of ks (joined (map parents ks)) k m) [
  | inl a ↦ λ j n. member_right ks _ j (member_joined parents ks k j a n)
  | inr b ↦ (let r : (i : Key) × Member i ks × Member k (parents i) = of_joined parents ks k b in λ j n. member_right ks _ j (member_joined parents ks r.0 j r.1 (parents_within r.0 k r.2 j n)))
]

made_upward : (acc ks : List Key) → IsUpward ks → IsUpward (with_made acc ks)
unfolding with_made
made_upward acc ks up k m = elim (member_of ks (joined (map judged_by (filter (is_one_of ks) acc))) k m) [
  | inl a ↦ λ j n. member_left ks _ j (up k a j n)
  | inr b ↦ (let r : (i : Key) × Member i (filter (is_one_of ks) acc) × Member k (judged_by i) = of_joined judged_by (filter (is_one_of ks) acc) k b in
      λ j n. member_left ks _ j (up r.0 (member ks r.0 (of_filter (is_one_of ks) acc r.0 r.1).1) j (judged_within r.0 k r.2 j n)))
]

acceptances_upward : (acc ks : List Key) → IsUpward ks → IsUpward (with_acceptances acc ks)
unfolding with_acceptances
acceptances_upward acc ks up k m = elim (member_of ks (filter (λ v. list_any (is_one_of ks) (judged_by v)) acc) k m) [
  | inl a ↦ λ j n. member_left ks _ j (up k a j n)
  | inr b ↦ λ j n. member_left ks _ j (verdict_within k ks up (of_filter (λ v. list_any (is_one_of ks) (judged_by v)) acc k b).1 j n)
]

proposals_upward : (ks : List Key) → IsUpward ks → IsUpward (with_proposals ks)
unfolding with_proposals
proposals_upward ks up k m = elim (member_of ks (joined (map proposal_of ks)) k m) [
  | inl a ↦ λ j n. member_left ks _ j (up k a j n)
  | inr b ↦ (let r : (i : Key) × Member i ks × Member k (proposal_of i) = of_joined proposal_of ks k b in λ j n. member_left ks _ j (up r.0 r.1 j (proposal_within r.0 k r.2 j n)))
]

-- the keys that are kept, of what is known and of the acceptances
unfoldable pub all_kept : List Key → List Key → List Key
all_kept seen acc = with_proposals (with_acceptances acc (with_made acc (with_parents seen)))

is_verdict : Key → Bool
is_verdict (Verdict e n i o) = true
is_verdict _ = false

is_element : Key → Bool
is_element (Element e p) = true
is_element _ = false

-- a proposal is no verdict and no element, and what a verdict changed or made is no verdict
no_proposal : (j k : Key) → Member k (proposal_of j) → (is_verdict k ≡ false) × (is_element k ≡ false)
unfolding proposal_of is_verdict is_element
no_proposal (Verdict e n i o) k (inl p) = (ap is_verdict (sym p), ap is_element (sym p))
no_proposal (Verdict e n i o) k (inr m) = absurd m
no_proposal _ k m = absurd m

no_verdict : (j k : Key) → Member k (judged_by j) → is_verdict k ≡ false
unfolding judged_by is_verdict
no_verdict (Verdict e n i o) k (inl p) = ap is_verdict (sym p)
no_verdict (Verdict e n i o) k (inr m) = absurd m
no_verdict _ k m = absurd m

of_verdict : (k p : Key) → is_proposal_of k p → Member p (proposal_of k) × (is_verdict k ≡ true)
unfolding is_proposal_of proposal_of is_verdict
of_verdict (Verdict e n i o) p q = (inl (sym q), refl)
of_verdict _ p q = absurd q

module _ (seen acc : List Key) where
  -- the set after each selection
  abbrev first : List Key
  first = with_parents seen

  abbrev second : List Key
  second = with_made acc first

  abbrev third : List Key
  third = with_acceptances acc second

  upward : IsUpward (all_kept seen acc)
  unfolding all_kept
  upward = proposals_upward third (acceptances_upward acc second (made_upward acc first (parents_upward seen)))

  -- a kept key that is no proposal is there before the proposals are
  before_proposals : (k : Key) → Member k (all_kept seen acc) → ((j : Key) → Member k (proposal_of j) → ⊥) → Member k third
  unfolding all_kept with_proposals
  before_proposals k m none = elim (member_of third (joined (map proposal_of third)) k m) [ inl a ↦ a | inr b ↦ absurd (let r : (i : Key) × Member i third × Member k (proposal_of i) = of_joined proposal_of third k b in none r.0 r.2) ]

  in_all : (k : Key) → Member k third → Member k (all_kept seen acc)
  unfolding all_kept with_proposals
  in_all k m = member_left third (joined (map proposal_of third)) k m

  props : (k p : Key) → is_one_of (all_kept seen acc) k ≡ true → is_proposal_of k p → is_one_of (all_kept seen acc) p ≡ true
  unfolding all_kept with_proposals
  props k p h q =
      let of : Member p (proposal_of k) × (is_verdict k ≡ true) = of_verdict k p q in
      let there : Member k third = before_proposals k (member (all_kept seen acc) k h) (λ j x. false≢true (sym (no_proposal j k x).0 ∙ of.1)) in
      is_member (all_kept seen acc) p (member_right third (joined (map proposal_of third)) p (member_joined proposal_of third k p there of.0))

  pub is_closed : IsClosed (is_one_of (all_kept seen acc))
  is_closed = record { above = λ k h. all_members (parents k) (all_kept seen acc) (upward k (member (all_kept seen acc) k h)); proposals = props }

  -- of an acceptance both are kept or neither
  module _ (e : EventId) (n : ProposalName) (i : Inst) (o : OrgId) (m : Member (Verdict e n i o) acc) where
    abbrev verdict : Key
    verdict = Verdict e n i o

    abbrev judged : Key
    judged = Element e (judged_place n)

    in_third : Member judged second → Member judged third
    unfolding with_acceptances
    in_third a = member_left second (filter (λ v. list_any (is_one_of second) (judged_by v)) acc) judged a

    from_verdict : Member verdict third → Member judged second
    unfolding with_acceptances with_made judged_by is_verdict
    from_verdict a = elim (member_of second (filter (λ v. list_any (is_one_of second) (judged_by v)) acc) verdict a) [
      | inl b ↦ elim (member_of first _ verdict b) [
        | inl f ↦ member_right first _ judged (member_joined judged_by (filter (is_one_of first) acc) verdict judged (member_filter (is_one_of first) acc verdict m (is_member first verdict f)) (inl refl))
        | inr g ↦ absurd (let r : (j : Key) × Member j (filter (is_one_of first) acc) × Member verdict (judged_by j) = of_joined judged_by (filter (is_one_of first) acc) verdict g in false≢true (sym (no_verdict r.0 verdict r.2)))
      ]
      | inr b ↦ member second judged (elim (or_cases _ _ (of_filter (λ v. list_any (is_one_of second) (judged_by v)) acc verdict b).1) [ inl x ↦ x | inr x ↦ absurd (false≢true x) ])
    ]

    from_judged : Member judged third → Member verdict third
    unfolding with_acceptances judged_by
    from_judged a = elim (member_of second (filter (λ v. list_any (is_one_of second) (judged_by v)) acc) judged a) [
      | inl b ↦ member_right second _ verdict (member_filter (λ v. list_any (is_one_of second) (judged_by v)) acc verdict m (or_left _ _ (is_member second judged b)))
      | inr b ↦ absurd (false≢true (of_filter (λ v. list_any (is_one_of second) (judged_by v)) acc judged b).1)
    ]

    pub has_pair : is_one_of (all_kept seen acc) verdict ≡ is_one_of (all_kept seen acc) judged
    unfolding is_verdict is_element
    has_pair =
        alike _ _
        (λ h. is_member _ judged (in_all judged (in_third (from_verdict (before_proposals verdict (member _ verdict h) (λ j x. false≢true (sym (no_proposal j verdict x).0)))))))
        (λ h. is_member _ verdict (in_all verdict (from_judged (before_proposals judged (member _ judged h) (λ j x. false≢true (sym (no_proposal j judged x).1))))))

-- tests of rows by their keys
all_rows : (keep : Key → Bool) (ks : List Key) → ((k : Key) → Member k ks → keep k ≡ true) → (rows : List Row) → Within (map (λ row. row.key) rows) ks → list_all (λ row. keep row.key) rows ≡ true
all_rows keep ks h [] m = refl
all_rows keep ks h (row ∷ rows) m = and_from _ _ (h row.key (m row.key (inl refl))) (all_rows keep ks h rows (λ k n. m k (inr n)))

module _ (seen acc : List Key) where
  -- what is known is kept
  seen_kept : (k : Key) → Member k seen → is_one_of (all_kept seen acc) k ≡ true
  unfolding with_acceptances with_made with_parents
  seen_kept k m =
      is_member (all_kept seen acc) k (in_all seen acc k
      (member_left (second seen acc) _ k (member_left (first seen acc) _ k (member_left seen _ k m))))

-- an instance where there is no version has no rows
no_versions : (i : Inst) (before after : List Version) → list_any (λ v. same_inst v.at i) after ≡ false → newest_from i before after ≡ []
unfolding newest_from
no_versions i before [] h = refl
no_versions i before (v ∷ after) h =
    let two : (same_inst v.at i ≡ false) × (list_any (λ u. same_inst u.at i) after ≡ false) = or_parts _ _ h in
    rw two.0 (no_versions i (v ∷ before) after two.1)

module _ (o : OrgId) (w : World) where
  -- the keys that are known at an instance where there is a version
  at_version : (i : Inst) (seen : List Key) (log : List Version) → list_any (λ v. same_inst v.at i) log ≡ true →
      Within (joined (map (λ v. map (λ row. row.key) (known_at w v.at o)) log)) seen → Within (map (λ row. row.key) (known_at w i o)) seen
  unfolding joined
  at_version i seen [] h m = absurd (false≢true h)
  at_version i seen (v ∷ log) h m = elim (or_cases _ _ h) [
    | inl e ↦ (let P : Inst → Type 0 = λ j. Within (map (λ row. row.key) (known_at w j o)) seen in subst P (same_inst-sound v.at i e) (λ k n. m k (member_left _ _ k n)))
    | inr e ↦ at_version i seen log e (λ k n. m k (member_right (map (λ row. row.key) (known_at w v.at o)) _ k n))
  ]

  own_keys : (keep : Key → Bool) (ks : List Key) → ((k : Key) → Member k ks → keep k ≡ true) → (log : List Version) → Within (map (λ v. v.key) (filter (λ v. same_org v.owner o) log)) ks →
      list_all (λ v. not (same_org v.owner o) || keep v.key) log ≡ true
  own_keys keep ks h [] m = refl
  own_keys keep ks h (v ∷ log) m = elim (cases_Bool (same_org v.owner o)) [
    | inl e ↦ (let n : Within (v.key ∷ map (λ v. v.key) (filter (λ v. same_org v.owner o) log)) ks = rw e at m in rw e (and_from _ _ (h v.key (n v.key (inl refl))) (own_keys keep ks h log (λ k x. n k (inr x)))))
    | inr e ↦ rw e (own_keys keep ks h log (rw e at m))
  ]

  nothing_known : (i : Inst) → list_any (λ v. same_inst v.at i) w.log ≡ false → known_at w i o ≡ []
  unfolding known_at known tables newest in_order
  nothing_known i e = rw (no_versions i [] w.log e) refl

  has_known : (seen acc : List Key) → Within (keys_known o w) seen → HasKnown o (is_one_of (all_kept seen acc)) w
  unfolding keys_known
  has_known seen acc m =
      record {
        granted = λ i. elim (cases_Bool (list_any (λ v. same_inst v.at i) w.log)) [
          | inl e ↦ all_rows (is_one_of (all_kept seen acc)) seen (seen_kept seen acc) (known_at w i o) (at_version i seen w.log e (λ k n. m k (member_left _ _ k n)))
          | inr e ↦ rw (nothing_known i e) refl
        ];
        own = own_keys (is_one_of (all_kept seen acc)) seen (seen_kept seen acc) w.log (λ k n. m k (member_right (joined (map (λ v. map (λ row. row.key) (known_at w v.at o)) w.log)) _ k n));
      }

-- an accepted acceptance is one of the acceptances
acceptance_there : (s : Scene) (e : EventId) (n : ProposalName) → is_accepted s (Judge e n true) ≡ true → Member (Verdict e n s.at s.by) (acceptance_in s (Judge e n true))
unfolding acceptance_in
acceptance_there s e n h = rw h (inl refl)

pair_in : (seen acc : List Key) (s : Scene) (a : Ask) → Within (acceptance_in s a) acc → HasPair (is_one_of (all_kept seen acc)) s a
unfolding HasPair
pair_in seen acc s (Judge e n true) m = λ h. has_pair seen acc e n s.at s.by (m (Verdict e n s.at s.by) (acceptance_there s e n h))
pair_in seen acc s (Judge e n false) m = tt
pair_in seen acc s _ m = tt

pairs_in : (seen acc : List Key) (n : ℕ) (w : World) (act : Act) → Within (acceptance_of n w act) acc → HasPairs (is_one_of (all_kept seen acc)) n w act
unfolding HasPairs acceptance_of scene
pairs_in seen acc n w act m = by_command act.command m
  where
    by_command : (d : Command) → Within (acceptance_of n w (record act { command = d })) acc → HasPairs (is_one_of (all_kept seen acc)) n w (record act { command = d })
    by_command (Asks c a) m = pair_in seen acc (scene n w act c) a m
    by_command _ m = tt

-- the set has what it is to have, all along the acts
pub is_kept : (seen acc : List Key) (o : OrgId) (net : Net) (n : ℕ) (w : World) (acts : List Act) →
    Within (keys_ever_known o net n w acts) seen → Within (acceptances net n w acts) acc → IsKept o (is_one_of (all_kept seen acc)) net n w acts
unfolding IsKept keys_ever_known acceptances
is_kept seen acc o net n w [] m a = has_known o w seen acc m
is_kept seen acc o net n w (act ∷ acts) m a = (
  has_known o w seen acc (λ k x. m k (member_left (keys_known o w) _ k x)),
  pairs_in seen acc n w act (λ k x. a k (member_left (acceptance_of n w act) _ k x)),
  is_kept seen acc o net (suc n) (step net n w act) acts (λ k x. m k (member_right (keys_known o w) _ k x)) (λ k x. a k (member_right (acceptance_of n w act) _ k x)),
)
