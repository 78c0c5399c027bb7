-- What a script does as the acts of a network's history, and what that history says of them.
use Rattle.std.specs.Prelude.{◌≡◌, ℕ, suc, ◌<◌, Bool, true, false, ltb, List, [], ◌∷◌, map, length, Option, Some, None, Ok}
use Rattle.misp_ids.specs.Same.{same_org}
use Rattle.misp_outside.specs.Held.{nothing_held}
use Rattle.misp_effects.specs.KeeperStates.{Tables, held_at}
use Rattle.misp_effects.specs.Run.{effect_of}
use Rattle.misp_history.specs.Outcomes.{step_partly}
use Rattle.misp_core.specs.Prelude.{Host, Keeps, OrgId, Outcome, Seen, World, list_all, same_inst, step, tables}
use Rattle.misp_sync.specs.History.{applied}
use Rattle.misp_net.specs.declared.line.Output.{Output}
use Rattle.misp_net.specs.Hosts.{host_at, hosts_in}
use Rattle.misp_net.specs.Acts.{Act}
use Rattle.misp_net.specs.Links.{links_of}
use Rattle.misp_net.specs.Meaning.{meaning}
use Rattle.misp_history.specs.Acts as model

-- ---- acts of the history

abbrev pub act_in : List Host → Act → model.Act
act_in hosts act = (meaning hosts act).act

-- these acts, the first being the n-th, where nothing stops them: each by the instances of its
-- moment
abbrev pub acts_in : ℕ → List Host → World → List Act → List model.Act
acts_in n described w [] = []
acts_in n described w (act ∷ acts) =
    let a : model.Act = act_in (hosts_in described w) act in
    a ∷ acts_in (suc n) described (step (links_of described) n w a) acts

-- the state after the n-th act
abbrev pub world_after : Outcome → ℕ → List Host → World → Act → World
world_after outcome n described w act =
    step_partly (links_of described) n w (act_in (hosts_in described w) act) (applied outcome)

-- the state after these acts, the first being the n-th
abbrev pub world_left : ℕ → List Host → World → List Act → List Outcome → World
world_left n described w [] outcomes = w
world_left n described w (act ∷ acts) [] = w
world_left n described w (act ∷ acts) (outcome ∷ outcomes) =
    world_left (suc n) described (world_after outcome n described w act) acts outcomes

-- ---- what the history says of an act: the same meaning, of what the history shows

-- at an instance it shows its groups, and all its rows
abbrev pub seen_by : List Host → World → ℕ → Seen
seen_by hosts w place = record {
  groups = w.groups (host_at place hosts).name;
  rows = λ reach. Ok (tables w.log (host_at place hosts).name);
}

-- what an act puts out, these being the instances of its moment
abbrev pub told_output : Outcome → List Host → World → Act → Output
told_output outcome hosts w act =
    (effect_of outcome (meaning hosts act).means (seen_by hosts w)).reply

abbrev pub told_outputs : ℕ → List Host → World → List Act → List Outcome → List Output
told_outputs n described w [] outcomes = []
told_outputs n described w (act ∷ acts) [] = []
told_outputs n described w (act ∷ acts) (outcome ∷ outcomes) =
    told_output outcome (hosts_in described w) w act
    ∷ told_outputs (suc n) described (world_after outcome n described w act) acts outcomes

-- ---- what the keepers hold of it

-- no two instances have one name
abbrev pub AreDistinct : List Host → Type 0
AreDistinct hosts =
    (p q : ℕ) → p < length hosts → q < length hosts
    → same_inst (host_at p hosts).name (host_at q hosts).name ≡ true → p ≡ q

-- nothing is held by any
abbrev pub empty_tables : List Host → Tables
empty_tables hosts = map (λ host. nothing_held) hosts

-- each keeper holds the tables and the groups of its instance after the first n acts, what was made
-- there, and nothing else
pub record IsHistory (hosts : List Host) (n : ℕ) (w : World) (tables : Tables) : Type 0 where
  pub long : length tables ≡ length hosts
  pub each : (place : ℕ) → place < length hosts
      → Keeps (host_at place hosts).name w (held_at place tables)
  pub earlier : list_all (λ v. ltb v.act n) w.log ≡ true

-- ---- whose an act is

abbrev pub is_asker : OrgId → Option OrgId → Bool
is_asker o None = false
is_asker o (Some org) = same_org org o

-- the act is a request with a key of the organisation
abbrev pub is_of : OrgId → List Host → Act → Bool
is_of o hosts act = is_asker o (meaning hosts act).asker
