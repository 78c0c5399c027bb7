-- What an act does to the state: an accepted request adds what it brings, and a refused one, a view and an act without effect leave it.
use Rattle.std.proofs.Common.{◌≡◌, List, [], ◌++◌, Bool, ◌∙◌, true, refl, false, ℕ, append-nil, Option, inl, inr}
use Rattle.misp_history.proofs.Prelude.{Act, Administers, Ask, Asks, Caller, Change, EventId, Group, Groups, Index, Inst, Misfits, Net, Nothing, OrgId, Scene, View, World, asked, brings, cases_Bool, change_writes, is_accepted, same_inst}
use Rattle.misp_history.proofs.Prelude.{Search, SyncEvents, SyncGroups, SyncManifest, SyncPart, SyncRows, false≢true, same_inst-refl, scene, step, with_groups}
use Rattle.misp_model.specs.Machine.{pulls}
use Rattle.misp_groups.specs.Changes.{administered}
use Rattle.misp_search.specs.Page.{PageNumbers}
use Rattle.misp_search.specs.declared.fitting.Filter.{Filter}

asked_accepted : (w : World) (s : Scene) (a : Ask) → is_accepted s a ≡ true → asked w s a ≡ record w { log = w.log ++ brings s a }
unfolding asked
asked_accepted w s a h = rw h refl

asked_refused : (w : World) (s : Scene) (a : Ask) → is_accepted s a ≡ false → asked w s a ≡ w
unfolding asked
asked_refused w s a h = rw (h, append-nil) refl

-- what brings nothing changes nothing, accepted or not
asked_nothing : (w : World) (s : Scene) (a : Ask) → brings s a ≡ [] → asked w s a ≡ w
asked_nothing w s a e = elim (cases_Bool (is_accepted s a)) [ inl h ↦ asked_accepted w s a h ∙ rw (e, append-nil) refl | inr h ↦ asked_refused w s a h ]

-- a pull brings nothing
pull_brings_none : (s : Scene) (a : Ask) → pulls a ≡ true → brings s a ≡ []
unfolding pulls brings
pull_brings_none s SyncGroups h = refl
pull_brings_none s SyncEvents h = refl
pull_brings_none s (SyncPart e n) h = refl
pull_brings_none s SyncManifest h = refl
pull_brings_none s (SyncRows w) h = refl
pull_brings_none s _ h = absurd (false≢true h)

-- the groups of the instance are the new ones, and those of every other are as before
pub with_groups_here : (groups : Inst → List Group) (i : Inst) (new : List Group) → with_groups groups i new i ≡ new
unfolding with_groups
with_groups_here groups i new = rw (same_inst-refl i) refl

pub with_groups_elsewhere : (groups : Inst → List Group) (i j : Inst) (new : List Group) → same_inst j i ≡ false → with_groups groups i new j ≡ groups j
unfolding with_groups
with_groups_elsewhere groups i j new h = rw h refl

module _ (net : Net) (n : ℕ) (w : World) (act : Act) where
  pub step_accepted : (c : Caller) (a : Ask) → act.command ≡ Asks c a → is_accepted (scene n w act c) a ≡ true → step net n w act ≡ record w { log = w.log ++ brings (scene n w act c) a }
  unfolding step scene
  step_accepted c a h k = rw h (asked_accepted w (scene n w act c) a k)

  pub step_changed : (c : Caller) (x : Change) → act.command ≡ Asks c (Ask.Change x) → is_accepted (scene n w act c) (Ask.Change x) ≡ true →
      step net n w act ≡ record w { log = w.log ++ change_writes (scene n w act c) x }
  unfolding brings
  step_changed c x h k = step_accepted c (Ask.Change x) h k

  pub step_refused : (c : Caller) (a : Ask) → act.command ≡ Asks c a → is_accepted (scene n w act c) a ≡ false → step net n w act ≡ w
  unfolding step scene
  step_refused c a h k = rw h (asked_refused w (scene n w act c) a k)

  pub step_view : (c : Caller) (e : EventId) (owner : Option OrgId) → act.command ≡ Asks c (View e owner) → step net n w act ≡ w
  unfolding step brings scene
  step_view c e owner h = rw h (asked_nothing w (scene n w act c) (View e owner) refl)

  pub step_index : (c : Caller) (page : PageNumbers) → act.command ≡ Asks c (Index page) → step net n w act ≡ w
  unfolding step brings scene
  step_index c page h = rw h (asked_nothing w (scene n w act c) (Index page) refl)

  pub step_search : (c : Caller) (filter : Filter) (whole : Bool) → act.command ≡ Asks c (Search filter whole) → step net n w act ≡ w
  unfolding step brings scene
  step_search c filter whole h = rw h (asked_nothing w (scene n w act c) (Search filter whole) refl)

  pub step_groups : (c : Caller) → act.command ≡ Asks c Groups → step net n w act ≡ w
  unfolding step brings scene
  step_groups c h = rw h (asked_nothing w (scene n w act c) Groups refl)

  pub step_pull : (c : Caller) (a : Ask) → pulls a ≡ true → act.command ≡ Asks c a → step net n w act ≡ w
  unfolding step scene
  step_pull c a p h = rw h (asked_nothing w (scene n w act c) a (pull_brings_none (scene n w act c) a p))

  pub step_administers : (by : OrgId) (add : Bool) (g : Group) → act.command ≡ Administers by add g →
      step net n w act ≡ record w { groups = with_groups w.groups act.at (administered act.now by add g (w.groups act.at)) }
  unfolding step
  step_administers by add g h = rw h refl

  pub step_misfit : (c : Caller) → act.command ≡ Misfits c → step net n w act ≡ w
  unfolding step
  step_misfit c h = rw h refl

  pub step_nothing : act.command ≡ Nothing → step net n w act ≡ w
  unfolding step
  step_nothing h = rw h refl
