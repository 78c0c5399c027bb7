-- The keys that stay when the rest is erased: what the organisation was ever granted, and what
-- that needs to make sense.
use Rattle.std.specs.Prelude.{Bool, List, [], ◌∷◌, ◌++◌, map, filter, ℕ, suc, true, false, cond, Option}
use Rattle.misp_model.specs.Prelude.{Element, Key, OrgId, Proposal, Reference, Reply, Scene, Sighting, Verdict, is_accepted, judged_place, list_any, parents, same_key, same_org}
use Rattle.misp_model.specs.declared.ask.Ask.{Ask}
use Rattle.misp_model.specs.declared.ask.Ask.TheVariants.{View, Propose, Judge, Sight, Index, Search, Groups, SyncGroups, SyncEvents, SyncPart, SyncManifest, SyncRows, TakePart}
use Rattle.misp_history.specs.Acts.{World, known_at, Act, Net, step, Asks, Misfits, Syncs, Takes_groups, Administers, Shares, Makes, Nothing, scene, replies_to}
use Rattle.misp_erasure.specs.Erasure.{erase}

-- the key is one of these
unfoldable pub is_one_of : List Key → Key → Bool
is_one_of ks k = list_any (λ j. same_key j k) ks

-- the lists, one after another
unfoldable pub joined : {A : Type 0} → List (List A) → List A
joined [] = []
joined (xs ∷ xss) = xs ++ joined xss

-- the keys that the organisation knows at this moment: of what is granted to it, and of each
-- version of its own
unfoldable pub keys_known : OrgId → World → List Key
keys_known o w =
    joined (map (λ v. map (λ row. row.key) (known_at w v.at o)) w.log)
    ++ map (λ v. v.key) (filter (λ v. same_org v.owner o) w.log)

-- those that it knows at any moment
unfoldable pub keys_ever_known : OrgId → Net → ℕ → World → List Act → List Key
keys_ever_known o net n w [] = keys_known o w
keys_ever_known o net n w (act ∷ acts) =
    keys_known o w ++ keys_ever_known o net (suc n) (step net n w act) acts

-- the verdict of an accepted request that accepts a proposal
unfoldable pub acceptance_in : Scene → Ask → List Key
acceptance_in s (Judge e n true) =
    cond (is_accepted s (Judge e n true)) (Verdict e n s.at s.by ∷ []) []
acceptance_in s (Judge e n false) = []
acceptance_in s (View e owner) = []
acceptance_in s (Ask.Change c) = []
acceptance_in s (Propose d) = []
acceptance_in s (Sight e t d) = []
acceptance_in s (Index page) = []
acceptance_in s (Search filter whole) = []
acceptance_in s Groups = []
acceptance_in s SyncGroups = []
acceptance_in s SyncEvents = []
acceptance_in s (SyncPart e n) = []
acceptance_in s SyncManifest = []
acceptance_in s (SyncRows w) = []
acceptance_in s (TakePart p) = []

unfoldable pub acceptance_of : ℕ → World → Act → List Key
acceptance_of n w act =
    elim act.command [
      | Asks c a ↦ acceptance_in (scene n w act c) a
      | Misfits c ↦ []
      | Syncs direction link ↦ []
      | Takes_groups c gs ↦ []
      | Administers by add g ↦ []
      | Shares c add g ↦ []
      | Makes c item ↦ []
      | Nothing ↦ []
    ]

-- the verdicts of all acceptances
unfoldable pub acceptances : Net → ℕ → World → List Act → List Key
acceptances net n w [] = []
acceptances net n w (act ∷ acts) =
    acceptance_of n w act ++ acceptances net (suc n) (step net n w act) acts

-- the attribute that a verdict changed or made, where it accepts
unfoldable pub judged_by : Key → List Key
judged_by (Verdict e n i o) = Element e (judged_place n) ∷ []
judged_by (Element e p) = []
judged_by (Reference e x t u) = []
judged_by (Proposal e n) = []
judged_by (Sighting e t i o u) = []

-- the proposal of a verdict
unfoldable pub proposal_of : Key → List Key
proposal_of (Verdict e n i o) = Proposal e n ∷ []
proposal_of (Element e p) = []
proposal_of (Reference e x t u) = []
proposal_of (Proposal e n) = []
proposal_of (Sighting e t i o u) = []

-- with what stands above
unfoldable pub with_parents : List Key → List Key
with_parents ks = ks ++ joined (map parents ks)

-- with what these acceptances made of a verdict among them
unfoldable pub with_made : List Key → List Key → List Key
with_made accepted ks = ks ++ joined (map judged_by (filter (is_one_of ks) accepted))

-- with these acceptances of an attribute among them
unfoldable pub with_acceptances : List Key → List Key → List Key
with_acceptances accepted ks = ks ++ filter (λ v. list_any (is_one_of ks) (judged_by v)) accepted

-- with the proposal of each verdict
unfoldable pub with_proposals : List Key → List Key
with_proposals ks = ks ++ joined (map proposal_of ks)

-- the kept keys
unfoldable pub kept_keys : OrgId → Net → ℕ → World → List Act → List Key
kept_keys o net n w acts =
    let accepted : List Key = acceptances net n w acts in
    with_proposals
    (with_acceptances accepted (with_made accepted (with_parents (keys_ever_known o net n w acts))))

-- the key is kept
unfoldable pub kept : OrgId → Net → ℕ → World → List Act → Key → Bool
kept o net n w acts = is_one_of (kept_keys o net n w acts)

-- the state before any act: no version, no group, and nothing made
unfoldable pub start : World
start = record { log = []; groups = λ i. []; made = λ i. [] }

-- the acts without what the organisation was never granted
unfoldable pub erased : OrgId → Net → List Act → List Act
erased o net acts = erase o (kept o net 0 start acts) net 0 start acts

-- the replies to the organisation in a run of the acts
unfoldable pub replies : OrgId → Net → List Act → List (Option Reply)
replies o net acts = replies_to o net 0 start acts
