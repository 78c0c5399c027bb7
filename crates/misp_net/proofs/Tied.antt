-- The instances of a run are at each moment those of its history.
use Rattle.std.proofs.Common.{◌≡◌, ◌≢◌, ℕ, zero, suc, ◌<◌, false, cond, List, [], ◌∷◌, ◌++◌, length, slice_set, Option, Some, None, Ok, Err, refl, sym, ◌∙◌, ap, subst, inl, inr, arith}
use Rattle.std.proofs.lemmas.Bool.{cases_Bool}
use Rattle.std.proofs.lemmas.List.{get_or-map, length-map, set-get_or}
use Rattle.misp_ids.proofs.Same.{same_inst-refl}
use Rattle.misp_admins.specs.Asks.{item_of, why_not}
use Rattle.misp_admins.specs.Made.{put_item, with_items}
use Rattle.misp_admins.specs.declared.ask.AdminAsk.{AdminAsk}
use Rattle.misp_admins.specs.declared.item.Item.{Item}
use Rattle.misp_admins.proofs.Items.{one_more}
use Rattle.misp_effects.specs.Run.{effect_of}
use Rattle.misp_history.specs.Acts.{with_item}
use Rattle.misp_history.specs.Outcomes.{Failed, Whole, step_partly}
use Rattle.misp_core.specs.Effects.{rule_told}
use Rattle.misp_core.specs.Keeping.{caller_at}
use Rattle.misp_core.specs.Managing.{managed_after, managed_by}
use Rattle.misp_core.specs.Prelude.{Admin, Inst, Keeps, RuleName, refused_by, same_inst}
use Rattle.misp_api.specs.Answering.{admin_after, command_after, replied}
use Rattle.misp_api.specs.Prelude.{Caller, Commanded, Group, Reading}
use Rattle.misp_api.specs.Sending.{read_form}
use Rattle.misp_api.specs.declared.command.Command.{Command}
use Rattle.misp_sync.specs.History.{applied}
use Rattle.misp_net.specs.Prelude.{Act, AreDistinct, GroupData, Host, Outcome, Reply, Stopped, Tables, Went, World, group_form, held_at, host_at, links_of, start, step, told_output}
use Rattle.misp_net.specs.Acts.{Administers, Asks, Deed, Idle, IsPlaced, Syncs}
use Rattle.misp_net.specs.History.{IsHistory, seen_by, world_after}
use Rattle.misp_net.specs.Hosts.{hosts_in, hosts_made, nobody}
use Rattle.misp_net.specs.Links.{routes_of}
use Rattle.misp_net.specs.Meaning.{administering, asking, caller_of, command_at, deed_meaning, making}
use Rattle.misp_net.specs.Walk.{hosts_after, hosts_by}
use Rattle.misp_net.proofs.Made.{MakesNone, none_made, stopped_made}
use Rattle.misp_net.proofs.Peers.{rest_apart}
use Rattle.misp_net.proofs.Walks.{refused_left}
use Rattle.misp_history.specs.Acts as model
use Rattle.misp_history.specs.Outcomes as parts

-- ---- instances with what was made

-- one with what was made there
abbrev made_at : (Inst → List Item) → Host → Host
made_at made h = record h { admin = with_items h.admin (made h.name) }

pub made_long : (described : List Host) (made : Inst → List Item) → length (hosts_made described made) ≡ length described
made_long described made = length-map described (made_at made)

-- nothing is made at first
pub made_first : (described : List Host) → hosts_in described start ≡ described
unfolding start with_items
made_first [] = refl
made_first (h ∷ described) = ap (λ hosts. h ∷ hosts) (made_first described)

module _ (described : List Host) (made : Inst → List Item) where
  -- their names are those that are described
  pub made_name : (place : ℕ) → place < length described → (host_at place (hosts_made described made)).name ≡ (host_at place described).name
  made_name place inside = ap (λ (h : Host). h.name) (get_or-map (made_at made) described place nobody nobody inside)

  pub made_inside : (place : ℕ) → place < length (hosts_made described made) → place < length described
  made_inside place inside = rw (made_long described made) at inside

  pub made_apart : AreDistinct described → AreDistinct (hosts_made described made)
  made_apart distinct p q p_in q_in same =
      distinct p q (made_inside p p_in) (made_inside q q_in)
      ((λ i. same_inst (sym (made_name p (made_inside p p_in)) i) (sym (made_name q (made_inside q q_in)) i)) ∙ same)

  -- what keepers hold of the history is asked by name
  pub history_made : (n : ℕ) (w : World) (tables : Tables) → IsHistory described n w tables → IsHistory (hosts_made described made) n w tables
  history_made n w tables history = record {
    long = history.long ∙ sym (made_long described made);
    each = λ place inside.
        let there : place < length described = made_inside place inside in
        subst (λ name. Keeps name w (held_at place tables)) (sym (made_name place there)) (history.each place there);
    earlier = history.earlier;
  }

  pub history_described : (n : ℕ) (w : World) (tables : Tables) → IsHistory (hosts_made described made) n w tables → IsHistory described n w tables
  history_described n w tables history = record {
    long = history.long ∙ made_long described made;
    each = λ place inside.
        let there : place < length (hosts_made described made) = rw (made_long described made) inside in
        subst (λ name. Keeps name w (held_at place tables)) (made_name place inside) (history.each place there);
    earlier = history.earlier;
  }

-- two of them have two names
pub names_apart : (hosts : List Host) → AreDistinct hosts → (p q : ℕ) → p < length hosts → q < length hosts → p ≢ q → same_inst (host_at p hosts).name (host_at q hosts).name ≡ false
names_apart hosts distinct p q p_in q_in other = elim (cases_Bool (same_inst (host_at p hosts).name (host_at q hosts).name)) [
  | inl yes_ ↦ absurd (other (distinct p q p_in q_in yes_))
  | inr no_ ↦ no_
]

-- where an item is made at another name, these are as before
others_made : (made : Inst → List Item) (i : Inst) (item : Item) (described : List Host)
    → ((place : ℕ) → place < length described → same_inst (host_at place described).name i ≡ false) → hosts_made described (with_item made i item) ≡ hosts_made described made
unfolding with_item
others_made made i item [] apart = refl
others_made made i item (h ∷ described) apart =
    let first : same_inst h.name i ≡ false = apart 0 (omega arith) in
    let rest : hosts_made described (with_item made i item) ≡ hosts_made described made = others_made made i item described (λ place inside. apart (suc place) (omega (arith, inside))) in
    (λ j. (record h { admin = with_items h.admin (cond (first j) (made h.name ++ item ∷ []) (made h.name)) }) ∷ rest j)

-- the instance of a place with an item more
abbrev with_put : Item → ℕ → List Host → Host
with_put item at hosts = let host : Host = host_at at hosts in record host { admin = put_item item host.admin }

-- where one is made at one of them, it is put there
item_there : (made : Inst → List Item) (item : Item) (at : ℕ) (described : List Host) → AreDistinct described → at < length described
    → slice_set (hosts_made described made) at (with_put item at (hosts_made described made)) ≡ hosts_made described (with_item made (host_at at (hosts_made described made)).name item)
unfolding with_item
item_there made item at [] distinct inside = absurd (omega arith)
item_there made item zero (h ∷ described) distinct inside =
    let more : with_items h.admin (cond (same_inst h.name h.name) (made h.name ++ item ∷ []) (made h.name)) ≡ put_item item (with_items h.admin (made h.name)) =
    ap (λ b. with_items h.admin (cond b (made h.name ++ item ∷ []) (made h.name))) (same_inst-refl h.name) ∙ one_more h.admin (made h.name) item in
    let rest : hosts_made described (with_item made h.name item) ≡ hosts_made described made =
    others_made made h.name item described
    (λ place there. names_apart (h ∷ described) distinct (suc place) 0 (omega (arith, there)) (omega arith) (λ same. omega (arith, same))) in
    (λ j. (record h { admin = sym more j }) ∷ sym rest j)
item_there made item (suc at) (h ∷ described) distinct inside =
    let there : at < length described = omega (arith, inside) in
    let other : same_inst h.name (host_at at (hosts_made described made)).name ≡ false =
    ap (same_inst h.name) (made_name described made at there)
    ∙ names_apart (h ∷ described) distinct 0 (suc at) (omega arith) (omega (arith, there)) (λ same. omega (arith, same)) in
    let rest = item_there made item at described (rest_apart h described distinct) there in
    (λ j. (record h { admin = with_items h.admin (cond (sym other j) (made h.name ++ item ∷ []) (made h.name)) }) ∷ rest j)

-- ---- links

-- a step looks at the links of its moment alone
pub same_step : (described : List Host) (n : ℕ) (w : World) (act : model.Act) (outcome : parts.Outcome)
    → step_partly (links_of described) n w act outcome ≡ step_partly (routes_of (hosts_in described w)) n w act outcome
unfolding step_partly step
same_step described n w act Whole = refl
same_step described n w act Failed = refl
same_step described n w act (parts.Stopped groups packages) = refl

-- ---- what a site administrator asks

-- what is made of what no rule is against
abbrev after : Option RuleName → Option Item → Admin → Admin
after None (Some item) admin = put_item item admin
after why item admin = admin

managed_leaves : (admin : Admin) (ask : AdminAsk) (why : Option RuleName) (item : Option Item) → item_of admin ask ≡ item → managed_after ask admin (managed_by why item).reply ≡ after why item admin
managed_leaves admin ask None (Some item) is = rw is refl
managed_leaves admin ask None None is = refl
managed_leaves admin ask (Some rule) None is = refl
managed_leaves admin ask (Some rule) (Some item) is = refl

-- ---- THE tie: an act leaves the instances of the history

module _ (described : List Host) (distinct : AreDistinct described) (n : ℕ) (w : World) where
  abbrev hosts : List Host
  hosts = hosts_in described w

  -- the instances of the history after an act of this command at a place
  abbrev next : ℕ → ℕ → model.Command → Outcome → List Host
  next at now command outcome = hosts_in described (step_partly (links_of described) n w (record { at = (host_at at hosts).name; now = now; command = command }) (applied outcome))

  none_left : (at now : ℕ) (command : model.Command) → MakesNone command → (outcome : Outcome) → hosts ≡ next at now command outcome
  none_left at now command none outcome = sym (ap (hosts_made described) (none_made (links_of described) n w (host_at at hosts).name now command none outcome))

  -- a site administrator makes what is put
  making_left : (at now : ℕ) (caller : model.Caller) (why : Option RuleName) (item : Option Item) → at < length described
      → slice_set hosts at (record { name = (host_at at hosts).name; admin = after why item (host_at at hosts).admin }) ≡ next at now (making caller why item) Went
  unfolding step_partly step
  making_left at now caller None (Some item) inside = item_there w.made item at described distinct inside
  making_left at now caller None None inside = set-get_or hosts at nobody ∙ none_left at now (model.Misfits caller) tt Went
  making_left at now caller (Some rule) None inside = set-get_or hosts at nobody ∙ none_left at now (model.Misfits caller) tt Went
  making_left at now caller (Some rule) (Some item) inside = set-get_or hosts at nobody ∙ none_left at now (model.Misfits caller) tt Went

  -- the instances where a command was replied so
  abbrev replied_so : ℕ → Command → Reply → List Host
  replied_so at command reply = slice_set hosts at (record { name = (host_at at hosts).name; admin = command_after command (host_at at hosts).admin reply })

  command_left : (at now : ℕ) (caller : Caller) (command : Command) (reply : Reply) → at < length described
      → reply ≡ (replied (host_at at hosts) now (Ok (caller, command)) (seen_by hosts w at)).reply
      → replied_so at command reply ≡ next at now (command_at (host_at at hosts) caller command) Went
  command_left at now caller (Command.Asks ask) reply inside is = set-get_or hosts at nobody ∙ none_left at now (model.Asks (caller_at (host_at at hosts).admin caller) ask) tt Went
  command_left at now caller (Command.TakesGroups groups) reply inside is =
      set-get_or hosts at nobody ∙ none_left at now (model.Takes_groups (caller_at (host_at at hosts).admin caller) groups) tt Went
  command_left at now caller (Command.Shares add g) reply inside is = set-get_or hosts at nobody ∙ none_left at now (model.Shares (caller_at (host_at at hosts).admin caller) add g) tt Went
  command_left at now caller (Command.Manages ask) reply inside is =
      let admin : Admin = (host_at at hosts).admin in
      ap (λ (r : Reply). replied_so at (Command.Manages ask) r) is
      ∙ ap (λ (a : Admin). slice_set hosts at (record { name = (host_at at hosts).name; admin = a })) (managed_leaves admin ask (why_not admin ask) (item_of admin ask) refl)
      ∙ making_left at now (caller_at admin caller) (why_not admin ask) (item_of admin ask) inside

  form_left : (at now : ℕ) (form : Reading Commanded) (caller : Option Caller) → at < length described
      → slice_set hosts at (record { name = (host_at at hosts).name; admin = admin_after form (host_at at hosts).admin (replied (host_at at hosts) now form (seen_by hosts w at)).reply })
      ≡ next at now (asking form (host_at at hosts) caller) Went
  form_left at now (Ok it) caller inside = command_left at now it.0 it.1 (replied (host_at at hosts) now (Ok it) (seen_by hosts w at)).reply inside refl
  form_left at now (Err refusal) None inside = set-get_or hosts at nobody ∙ none_left at now model.Nothing tt Went
  form_left at now (Err refusal) (Some caller) inside = set-get_or hosts at nobody ∙ none_left at now (model.Misfits (caller_at (host_at at hosts).admin caller)) tt Went

  administering_none : (form : Reading Group) (line : GroupData) → MakesNone (administering form line)
  administering_none (Ok g) line = tt
  administering_none (Err refusal) line = tt

  -- by deed
  deed_left : (time word : ℕ) (deed : Deed) (outcome : Outcome) → IsPlaced (length described) deed
      → hosts_by hosts word deed (effect_of outcome (deed_meaning hosts time word deed).means (seen_by hosts w)).reply
      ≡ hosts_in described (step_partly (links_of described) n w (deed_meaning hosts time word deed).act (applied outcome))
  deed_left time word (Idle output) outcome among = sym (ap (hosts_made described) (none_made (links_of described) n w [] time model.Nothing tt outcome))
  deed_left time word (Asks at read) Went among =
      form_left at time (read_form (host_at at hosts) word read) (caller_of (host_at at hosts).admin read) among
  deed_left time word (Asks at read) (Stopped stop k lost) among =
      let form = read_form (host_at at hosts) word read in
      refused_left hosts (record { time = time; word = word; deed = Asks at read }) (refused_by (rule_told stop)) tt
      ∙ sym (ap (hosts_made described) (stopped_made (links_of described) n w (host_at at hosts).name time (asking form (host_at at hosts) (caller_of (host_at at hosts).admin read)) stop k lost))
  deed_left time word (Administers line) outcome among = none_left line.at time (administering (group_form line.body) line) (administering_none (group_form line.body) line) outcome
  deed_left time word (Syncs line) outcome among = none_left line.at time (model.Syncs line.direction line.link) tt outcome

  -- where an act put out what the history says, the instances after it are those of the history
  pub tied : (outcome : Outcome) (act : Act) → IsPlaced (length described) act.deed → hosts_after hosts act (told_output outcome hosts w act) ≡ hosts_in described (world_after outcome n described w act)
  tied outcome act among = deed_left act.time act.word act.deed outcome among
