-- A network's acts, one after another, and what each is answered.
use Rattle.std.specs.Prelude.{ℕ, List, Bool, Option, cond, filter, ◌++◌, map, [], Some, None, suc, ◌∷◌}
use Rattle.misp_ids.specs.declared.label.Direction.{Direction}
use Rattle.misp_groups.specs.Audience.{carries}
use Rattle.misp_groups.specs.Changes.{take_groups, administered, administration_fails, count_taken}
use Rattle.misp_model.specs.Prelude.{Group, Inst, OrgId, Reply, Row, Scene, Stamp, Version, answer, brings, counted, date_of, is_accepted, known, same_inst, same_org}
use Rattle.misp_model.specs.declared.ask.Ask.{Ask}
use Rattle.misp_model.specs.Answers.{Taken, Other}
use Rattle.misp_model.specs.Scene.{Partner}
use Rattle.misp_history.specs.Passing.{Route, passing, moved}
use Rattle.misp_history.specs.History.{tables}
use Rattle.misp_admins.specs.declared.item.Item.{Item}

-- who asks, and the instance that the key is for, with the way there
pub record Caller : Type 0 where
  pub org : OrgId
  pub name : List ℕ
  pub partner : Option Partner

-- what an act does
pub data Command : Type 0 where
  Asks : Caller → Ask → Command
  Misfits : Caller → Command
  Syncs : Direction → Inst → Command
  Takes_groups : Caller → List Group → Command
  Administers : OrgId → Bool → Group → Command
  Shares : Caller → Bool → Group → Command
  Makes : Caller → Item → Command
  Nothing : Command

-- an act: where, when, and what
pub record Act : Type 0 where
  pub at : Inst
  pub now : Stamp
  pub command : Command

-- the state between two acts: the history, and of each instance the groups, and what requests made
-- of its administration
pub record World : Type 0 where
  pub log : List Version
  pub groups : Inst → List Group
  pub made : Inst → List Item

-- a synchronisation's route, where it is not refused; it is read off the links, the keys and the
-- groups, with what requests made of the links and keys
abbrev pub Net : Type 0
Net = Direction → Inst → Inst → (Inst → List Group) → (Inst → List Item) → Option Route

-- what the organisation knows at the instance
unfoldable pub known_at : World → Inst → OrgId → List Row
known_at w i o = known (tables w.log i) (w.groups i) i o

-- the n-th act's surroundings, seen by its caller
unfoldable pub scene : ℕ → World → Act → Caller → Scene
scene n w act c =
    record {
      act = n;
      at = act.at;
      by = c.org;
      by_name = c.name;
      partner = c.partner;
      now = act.now;
      today = date_of act.now;
      rows = known_at w act.at c.org;
      groups = w.groups act.at;
    }

-- the groups of all instances, with those of one instead
unfoldable pub with_groups : (Inst → List Group) → Inst → List Group → Inst → List Group
with_groups groups i new j = cond (same_inst j i) new (groups j)

-- a synchronisation: first the groups that carry, then all that passes and counts
unfoldable pub synced_groups : (Inst → List Group) → Route → Inst → List Group
synced_groups groups r =
    with_groups groups r.into
    (take_groups (groups r.into) (filter (λ g. carries g r.«for» r.dest) (groups r.from)))

unfoldable pub synced : World → Route → World
synced w r =
    record {
      log = w.log ++ counted (tables w.log r.into) (synced_groups w.groups r r.into)
          (map (moved r) (passing w.log (w.groups r.from) r));
      groups = synced_groups w.groups r;
      made = w.made;
    }

-- what was made at all instances, with one item more at one
unfoldable pub with_item : (Inst → List Item) → Inst → Item → Inst → List Item
with_item made i item j = cond (same_inst j i) (made j ++ item ∷ []) (made j)

-- the state after a request
unfoldable pub asked : World → Scene → Ask → World
asked w s a = record w { log = w.log ++ cond (is_accepted s a) (brings s a) [] }

-- the state after the n-th act
unfoldable pub step : Net → ℕ → World → Act → World
step net n w act =
    elim act.command [
      | Asks c a ↦ asked w (scene n w act c) a
      | Misfits c ↦ w
      | Syncs direction link ↦ elim (net direction act.at link w.groups w.made) [
        | None ↦ w
        | Some r ↦ synced w r
      ]
      | Takes_groups c gs ↦
          record w { groups = with_groups w.groups act.at (take_groups (w.groups act.at) gs) }
      | Administers o add g ↦ record w {
        groups = with_groups w.groups act.at (administered act.now o add g (w.groups act.at));
      }
      | Shares c add g ↦ record w {
        groups = with_groups w.groups act.at (administered act.now c.org add g (w.groups act.at));
      }
      | Makes c item ↦ record w { made = with_item w.made act.at item }
      | Nothing ↦ w
    ]

-- the state after these acts, the first being the n-th
unfoldable pub run : Net → ℕ → World → List Act → World
run net n w [] = w
run net n w (act ∷ acts) = run net (suc n) (step net n w act) acts

-- what a request that adds or edits a group is replied
unfoldable pub shared : OrgId → Bool → Group → List Group → Reply
shared by add g groups = cond (administration_fails by add g groups) Other (Taken 1)

-- what the act replies to the organisation, where it is one of its requests
unfoldable pub reply_to : OrgId → ℕ → World → Act → Option Reply
reply_to o n w act =
    elim act.command [
      | Asks c a ↦ cond (same_org c.org o) (Some (answer (scene n w act c) a)) None
      | Misfits c ↦ cond (same_org c.org o) (Some Other) None
      | Syncs direction link ↦ None
      | Takes_groups c gs ↦
          cond (same_org c.org o) (Some (Taken (count_taken (w.groups act.at) gs))) None
      | Administers by add g ↦ None
      | Shares c add g ↦ cond (same_org c.org o) (Some (shared c.org add g (w.groups act.at))) None
      | Makes c item ↦ cond (same_org c.org o) (Some (Taken 1)) None
      | Nothing ↦ None
    ]

-- all replies to the organisation, act by act
unfoldable pub replies_to : OrgId → Net → ℕ → World → List Act → List (Option Reply)
replies_to o net n w [] = []
replies_to o net n w (act ∷ acts) =
    reply_to o n w act ∷ replies_to o net (suc n) (step net n w act) acts
