-- What acts make of the administration of instances, and what is left of them makes.
use Rattle.std.proofs.Common.{◌≡◌, ◌||◌, ℕ, zero, suc, Bool, true, false, cond, List, ltb, Option, Some, None, refl, sym, ◌∙◌, ap}
use Rattle.misp_ids.specs.Same.{Inst, same_org}
use Rattle.misp_admins.specs.declared.item.Item.{Item}
use Rattle.misp_model.specs.Closed.{erased_ask}
use Rattle.misp_model.specs.Prelude.{Key, Scene, is_accepted}
use Rattle.misp_model.specs.declared.ask.Ask.{Ask}
use Rattle.misp_history.specs.Acts.{Net, scene, synced, with_item}
use Rattle.misp_history.specs.Outcomes.{step_partly, synced_partly}
use Rattle.misp_history.specs.Passing.{Route}
use Rattle.misp_erasure.specs.Erasure.{erased_act, erased_command, erased_request}
use Rattle.misp_sync.specs.History.{applied}
use Rattle.misp_net.specs.Prelude.{OrgId, Outcome, Stop, Stopped, Went, World, step}
use Rattle.misp_history.specs.Acts as model
use Rattle.misp_history.specs.Outcomes as parts

-- ---- what acts make

-- it makes nothing
abbrev pub MakesNone : model.Command → Type 0
MakesNone (model.Makes c item) = ⊥
MakesNone command = Unit {0}

synced_makes : (w : World) (route : Option Route) → (elim route as (λ x. World) [ None ↦ w | Some r ↦ synced w r ]).made ≡ w.made
unfolding synced
synced_makes w None = refl
synced_makes w (Some r) = refl

partly_makes : (w : World) (groups : Bool) (packages : ℕ) (route : Option Route) → (elim route as (λ x. World) [ None ↦ w | Some r ↦ synced_partly w r groups packages ]).made ≡ w.made
unfolding synced_partly
partly_makes w groups packages None = refl
partly_makes w groups packages (Some r) = refl

pub step_makes : (net : Net) (n : ℕ) (w : World) (at : Inst) (now : ℕ) (command : model.Command) → MakesNone command → (step net n w (record { at = at; now = now; command = command })).made ≡ w.made
unfolding step model.asked
step_makes net n w at now (model.Asks c a) none = refl
step_makes net n w at now (model.Misfits c) none = refl
step_makes net n w at now (model.Syncs direction link) none = synced_makes w (net direction at link w.groups w.made)
step_makes net n w at now (model.Takes_groups c gs) none = refl
step_makes net n w at now (model.Administers o add g) none = refl
step_makes net n w at now (model.Shares c add g) none = refl
step_makes net n w at now (model.Makes c item) none = absurd none
step_makes net n w at now model.Nothing none = refl

stopped_makes : (net : Net) (n : ℕ) (w : World) (at : Inst) (now : ℕ) (command : model.Command) (groups : Bool) (packages : ℕ)
    → (step_partly net n w (record { at = at; now = now; command = command }) (parts.Stopped groups packages)).made ≡ w.made
unfolding step_partly
stopped_makes net n w at now (model.Asks c a) groups packages = refl
stopped_makes net n w at now (model.Misfits c) groups packages = refl
stopped_makes net n w at now (model.Syncs direction link) groups packages = partly_makes w (groups || ltb 0 packages) packages (net direction at link w.groups w.made)
stopped_makes net n w at now (model.Takes_groups c gs) groups packages = refl
stopped_makes net n w at now (model.Administers o add g) groups packages = refl
stopped_makes net n w at now (model.Shares c add g) groups packages = refl
stopped_makes net n w at now (model.Makes c item) groups packages = refl
stopped_makes net n w at now model.Nothing groups packages = refl

-- such an act, whatever stops it, makes nothing
pub none_made : (net : Net) (n : ℕ) (w : World) (at : Inst) (now : ℕ) (command : model.Command) → MakesNone command → (outcome : Outcome)
    → (step_partly net n w (record { at = at; now = now; command = command }) (applied outcome)).made ≡ w.made
unfolding step_partly
none_made net n w at now command none Went = step_makes net n w at now command none
none_made net n w at now command none (Stopped stop zero lost) = stopped_makes net n w at now command false 0
none_made net n w at now command none (Stopped stop (suc k) lost) = stopped_makes net n w at now command true k

-- and neither does one that was stopped
pub stopped_made : (net : Net) (n : ℕ) (w : World) (at : Inst) (now : ℕ) (command : model.Command) (stop : Stop) (k : ℕ) (lost : Bool)
    → (step_partly net n w (record { at = at; now = now; command = command }) (applied (Stopped stop k lost))).made ≡ w.made
stopped_made net n w at now command stop zero lost = stopped_makes net n w at now command false 0
stopped_made net n w at now command stop (suc k) lost = stopped_makes net n w at now command true k

-- ---- what is left of acts

-- what is made then by a command there
abbrev made_by : Inst → model.Command → (Inst → List Item) → Inst → List Item
made_by at (model.Makes c item) made = with_item made at item
made_by at command made = made

step_made : (net : Net) (n : ℕ) (w : World) (at : Inst) (now : ℕ) (command : model.Command) → (step net n w (record { at = at; now = now; command = command })).made ≡ made_by at command w.made
unfolding step
step_made net n w at now (model.Asks c a) = step_makes net n w at now (model.Asks c a) tt
step_made net n w at now (model.Misfits c) = refl
step_made net n w at now (model.Syncs direction link) = step_makes net n w at now (model.Syncs direction link) tt
step_made net n w at now (model.Takes_groups c gs) = refl
step_made net n w at now (model.Administers by add g) = refl
step_made net n w at now (model.Shares c add g) = refl
step_made net n w at now (model.Makes c item) = refl
step_made net n w at now model.Nothing = refl

ask_makes : (at : Inst) (c : model.Caller) (left : Option Ask) (made : Inst → List Item) → made_by at (elim left as (λ x. model.Command) [ None ↦ model.Nothing | Some b ↦ model.Asks c b ]) made ≡ made
ask_makes at c None made = refl
ask_makes at c (Some b) made = refl

request_makes : (at : Inst) (own accepted : Bool) (c : model.Caller) (a : Ask) (left : Option Ask) (made : Inst → List Item)
    → made_by at (cond own (model.Asks c a) (cond accepted (elim left as (λ x. model.Command) [ None ↦ model.Nothing | Some b ↦ model.Asks c b ]) model.Nothing)) made ≡ made
request_makes at true accepted c a left made = refl
request_makes at false true c a left made = ask_makes at c left made
request_makes at false false c a left made = refl

misfit_makes : (at : Inst) (own : Bool) (c : model.Caller) (made : Inst → List Item) → made_by at (cond own (model.Misfits c) model.Nothing) made ≡ made
misfit_makes at true c made = refl
misfit_makes at false c made = refl

-- what is left of a command makes the same
erased_makes : (o : OrgId) (keep : Key → Bool) (n : ℕ) (w : World) (at : Inst) (now : ℕ) (command : model.Command) (made : Inst → List Item)
    → made_by at (erased_command o keep n w (record { at = at; now = now; command = command })) made ≡ made_by at command made
unfolding erased_command erased_request
erased_makes o keep n w at now (model.Asks c a) made =
    let s : Scene = scene n w (record { at = at; now = now; command = model.Asks c a }) c in
    request_makes at (same_org c.org o) (is_accepted s a) c a (erased_ask keep s a) made
erased_makes o keep n w at now (model.Misfits c) made = misfit_makes at (same_org c.org o) c made
erased_makes o keep n w at now (model.Syncs direction link) made = refl
erased_makes o keep n w at now (model.Takes_groups c gs) made = refl
erased_makes o keep n w at now (model.Administers by add g) made = refl
erased_makes o keep n w at now (model.Shares c add g) made = refl
erased_makes o keep n w at now (model.Makes c item) made = refl
erased_makes o keep n w at now model.Nothing made = refl

-- in two states where the same was made, what is left of an act makes what the act makes
pub made_alike : (o : OrgId) (keep : Key → Bool) (net : Net) (n : ℕ) (w v : World) (a act : model.Act) → w.made ≡ v.made → a ≡ erased_act o keep n v act → (step net n w a).made ≡ (step net n v act).made
unfolding erased_act
made_alike o keep net n w v a act same left =
    ap (λ (b : model.Act). (step net n w b).made) left
    ∙ step_made net n w act.at act.now (erased_command o keep n v act)
    ∙ ap (made_by act.at (erased_command o keep n v act)) same
    ∙ erased_makes o keep n v act.at act.now act.command v.made
    ∙ sym (step_made net n v act.at act.now act.command)
