-- What holds of the meaning of each act: THE proof by deed.
use Rattle.std.proofs.Common.{◌≡◌, ℕ, suc, ◌<◌, Bool, true, List, [], length, Option, Some, None, Ok, Err, refl, sym, ◌∙◌, ap, subst, map, slice_set}
use Rattle.std.proofs.lemmas.List.{set-get_or}
use Rattle.misp_admins.specs.Asks.{item_of, why_not}
use Rattle.misp_admins.specs.declared.item.Item.{Item}
use Rattle.misp_http.specs.declared.request.Read.{Read}
use Rattle.misp_http.specs.declared.request.Read.TheVariants as reads
use Rattle.misp_effects.specs.Batches.{Batch, put_batches, AreReadable}
use Rattle.misp_effects.specs.Run.{effect_of, effect_in}
use Rattle.misp_model.specs.Prelude.{IsClosed, Key}
use Rattle.misp_history.specs.Outcomes.{step_partly}
use Rattle.misp_history.proofs.Steps.{step_nothing}
use Rattle.misp_erasure.specs.Erasure.{cut_world, HasKnown}
use Rattle.misp_store.specs.Sharing.{groups_of}
use Rattle.misp_core.specs.Keeping.{caller_at}
use Rattle.misp_core.specs.Prelude.{Caller, Group, RuleName}
use Rattle.misp_api.specs.Answering.{replied}
use Rattle.misp_api.specs.Prelude.{Commanded, Reading}
use Rattle.misp_api.specs.declared.command.Command.{Command}
use Rattle.misp_api.specs.Request.{request_data}
use Rattle.misp_api.specs.Sending.{read_form}
use Rattle.misp_api.proofs.Forms.{AllowedForm, AskedBy, BuiltForm, form_allowed, form_built, form_caller}
use Rattle.misp_api.proofs.Idle.{request_idle, group_idle}
use Rattle.misp_net.specs.Prelude.{Act, AreDistinct, Effect, GroupData, Host, OrgId, Outcome, Output, Replied, Reply, Seen, Stopped, Tables, Went, World, group_form, grouped, held_at, host_at, meaning}
use Rattle.misp_net.specs.Prelude.{SyncData, nothing_held, seen_in, spelled, step, told_output}
use Rattle.misp_net.specs.Links.{routes_of}
use Rattle.misp_net.specs.Acts.{Deed, Idle, Asks, Administers, Syncs, IsPlaced}
use Rattle.misp_net.specs.Meaning.{ActMeaning, administering, asking, asks, caller_of, command_at, deed_meaning, idle, making, silent}
use Rattle.misp_net.specs.Run.{output_of, tables_after}
use Rattle.misp_net.specs.Promise.{IsIdle}
use Rattle.misp_net.specs.History.{act_in, seen_by, IsHistory, is_asker}
use Rattle.misp_net.proofs.Owning.{own_reply}
use Rattle.misp_net.proofs.SyncLaw.{AreSyncLaws}
use Rattle.misp_net.proofs.SyncsIdle.{sync_idle}
use Rattle.misp_net.proofs.SyncsTold.{sync_left, sync_told}
use Rattle.misp_net.proofs.Telling.{ArePut, IsLocal, world_whole, world_still, groups_there, request_told, as_before, request_left, group_left}
use Rattle.misp_sync.specs.History.{applied}
use Rattle.misp_effects.specs.Run as runs
use Rattle.misp_history.specs.Acts as model

-- of an act that asks one of the instances, if it asks any
pub record ActLaw (hosts : List Host) (among : Type 0) (line : ActMeaning) : Type 0 where
  -- over keepers that hold the tables of the history, it puts out what the history says
  pub told : AreSyncLaws → AreDistinct hosts → among → (n : ℕ) (w : World) (old : Tables) → IsHistory hosts n w old → (outcome : Outcome)
      → runs.output_of seen_in outcome line.means old ≡ (effect_of outcome line.means (seen_by hosts w)).reply
  -- and whatever stops it, it leaves what is applied of its act
  pub left : ArePut → AreSyncLaws → AreDistinct hosts → among → (n : ℕ) (w : World) (old : Tables) → IsHistory hosts n w old → (outcome : Outcome)
      → AreReadable (effect_in seen_in outcome line.means old).batches
      → IsHistory hosts (suc n) (step_partly (routes_of hosts) n w line.act (applied outcome)) (runs.tables_after seen_in spelled outcome line.means old)
  -- what is refused leaves all as it was
  pub refused : (outcome : Outcome) (tables : Tables) → IsIdle (runs.output_of seen_in outcome line.means tables)
      → runs.tables_after seen_in spelled outcome line.means tables ≡ tables
  -- its asker is told the same over the history without what it was never granted
  pub own : (keep : Key → Bool) → IsClosed keep → (o : OrgId) (w : World) → is_asker o line.asker ≡ true → HasKnown o keep w
      → (effect_of Went line.means (seen_by hosts (cut_world keep w))).reply ≡ (effect_of Went line.means (seen_by hosts w)).reply

-- where there is no batch, all tables are as they were
none_put : (at : ℕ) (tables : Tables) (batches : List Batch) → batches ≡ [] → slice_set tables at (put_batches (map spelled batches) (held_at at tables)) ≡ tables
none_put at tables batches none = ap (λ bs. slice_set tables at (put_batches (map spelled bs) (held_at at tables))) none ∙ set-get_or tables at nothing_held

-- ---- an act that does nothing

idle_told : (output : Output) (hosts : List Host) (w : World) (old : Tables) (outcome : Outcome)
    → runs.output_of seen_in outcome (silent output) old ≡ (effect_of outcome (silent output) (seen_by hosts w)).reply
idle_told output hosts w old Went = refl
idle_told output hosts w old (Stopped stop k lost) = refl

idle_same_tables : (output : Output) (outcome : Outcome) (tables : Tables) → runs.tables_after seen_in spelled outcome (silent output) tables ≡ tables
idle_same_tables output Went tables = none_put 0 tables [] refl
idle_same_tables output (Stopped stop k lost) tables = none_put 0 tables [] refl

idle_world : (hosts : List Host) (n time : ℕ) (w : World) (output : Output) (outcome : Outcome) → step_partly (routes_of hosts) n w (idle output time).act (applied outcome) ≡ w
idle_world hosts n time w output Went = world_whole (routes_of hosts) n w _ ∙ step_nothing (routes_of hosts) n w _ refl
idle_world hosts n time w output (Stopped stop k lost) = world_still (routes_of hosts) n w _ tt stop k lost

idle_law : (hosts : List Host) (among : Type 0) (output : Output) (time : ℕ) → ActLaw hosts among (idle output time)
idle_law hosts among output time = record {
  told = λ law distinct inside n w old history outcome. idle_told output hosts w old outcome;
  left = λ puts law distinct inside n w old history outcome fits.
      as_before hosts distinct n w old history _ _ (idle_world hosts n time w output outcome) (idle_same_tables output outcome old);
  refused = λ outcome tables none. idle_same_tables output outcome tables;
  own = λ keep closed o w its has. refl;
}

-- ---- an act that asks one instance

asks_told : (at : ℕ) (comes : Seen → Effect Reply) (hosts : List Host) (w : World) (old : Tables)
    → (comes (seen_in (held_at at old))).reply ≡ (comes (seen_by hosts w at)).reply → (outcome : Outcome)
    → runs.output_of seen_in outcome (asks at comes) old ≡ (effect_of outcome (asks at comes) (seen_by hosts w)).reply
asks_told at comes hosts w old same Went = ap Replied same
asks_told at comes hosts w old same (Stopped stop k lost) = refl

-- all that it puts is put, or nothing
asks_left : (at : ℕ) (comes : Seen → Effect Reply) (hosts : List Host) (distinct : AreDistinct hosts) (n : ℕ) (w : World) (old : Tables) (history : IsHistory hosts n w old) (a : model.Act)
    → IsLocal a.command
    → (AreReadable (comes (seen_in (held_at at old))).batches
    → IsHistory hosts (suc n) (step (routes_of hosts) n w a) (slice_set old at (put_batches (map spelled (comes (seen_in (held_at at old))).batches) (held_at at old))))
    → (outcome : Outcome) → AreReadable (effect_in seen_in outcome (asks at comes) old).batches
    → IsHistory hosts (suc n) (step_partly (routes_of hosts) n w a (applied outcome)) (runs.tables_after seen_in spelled outcome (asks at comes) old)
asks_left at comes hosts distinct n w old history a local whole Went fits =
    subst (λ v. IsHistory hosts (suc n) v (runs.tables_after seen_in spelled Went (asks at comes) old)) (sym (world_whole (routes_of hosts) n w a)) (whole fits)
asks_left at comes hosts distinct n w old history a local whole (Stopped stop k lost) fits =
    as_before hosts distinct n w old history _ _ (world_still (routes_of hosts) n w a local stop k lost) (none_put at old [] refl)

asks_refused : (at : ℕ) (comes : Seen → Effect Reply) (tables : Tables)
    → (IsIdle (Replied (comes (seen_in (held_at at tables))).reply) → (comes (seen_in (held_at at tables))).batches ≡ []) → (outcome : Outcome)
    → IsIdle (runs.output_of seen_in outcome (asks at comes) tables) → runs.tables_after seen_in spelled outcome (asks at comes) tables ≡ tables
asks_refused at comes tables is Went none = none_put at tables _ (is none)
asks_refused at comes tables is (Stopped stop k lost) none = none_put at tables [] refl

making_local : (caller : model.Caller) (why : Option RuleName) (item : Option Item) → IsLocal (making caller why item)
making_local caller None (Some item) = tt
making_local caller None None = tt
making_local caller (Some rule) None = tt
making_local caller (Some rule) (Some item) = tt

command_local : (host : Host) (caller : Caller) (command : Command) → IsLocal (command_at host caller command)
command_local host caller (Command.Asks ask) = tt
command_local host caller (Command.TakesGroups groups) = tt
command_local host caller (Command.Shares add g) = tt
command_local host caller (Command.Manages ask) = making_local (caller_at host.admin caller) (why_not host.admin ask) (item_of host.admin ask)

asking_local : (form : Reading Commanded) (host : Host) (caller : Option Caller) → IsLocal (asking form host caller)
asking_local (Ok it) host caller = command_local host it.0 it.1
asking_local (Err refusal) host None = tt
asking_local (Err refusal) host (Some caller) = tt

administering_local : (form : Reading Group) (line : GroupData) → IsLocal (administering form line)
administering_local (Ok g) line = tt
administering_local (Err refusal) line = tt

-- what was read asks what is built, its role permits it, and its caller is the one whose key it has
read_built : (host : Host) (word : ℕ) (read : Read) → BuiltForm (read_form host word read)
read_built host word (reads.Request request) = form_built host.admin (request_data host.name word request)
read_built host word (reads.Refused fault) = tt

read_allowed : (host : Host) (word : ℕ) (read : Read) → AllowedForm (read_form host word read)
read_allowed host word (reads.Request request) = form_allowed host.admin (request_data host.name word request)
read_allowed host word (reads.Refused fault) = tt

pub read_caller : (host : Host) (word : ℕ) (read : Read) → AskedBy (caller_of host.admin read) (read_form host word read)
read_caller host word (reads.Request request) = form_caller host.admin (request_data host.name word request)
read_caller host word (reads.Refused fault) = tt

read_law : (hosts : List Host) (time word at : ℕ) (read : Read) → ActLaw hosts (at < length hosts) (deed_meaning hosts time word (Asks at read))
read_law hosts time word at read =
    let host : Host = host_at at hosts in
    let form = read_form host word read in
    let built = read_built host word read in
    record {
      told = λ law distinct inside n w old history.
          asks_told at (replied host time form) hosts w old (request_told hosts distinct n w old history at time form built inside);
      left = λ puts law distinct inside n w old history.
          asks_left at (replied host time form) hosts distinct n w old history _ (asking_local form host (caller_of host.admin read))
          (request_left hosts distinct n w old history puts at time form (caller_of host.admin read) built (read_allowed host word read) inside);
      refused = λ outcome tables. asks_refused at (replied host time form) tables (request_idle host time form (held_at at tables) built) outcome;
      own = λ keep closed o w its has.
          ap Replied (own_reply keep closed o hosts w at time form (caller_of host.admin read) (read_caller host word read) its has);
    }

group_law : (hosts : List Host) (time word : ℕ) (line : GroupData) → ActLaw hosts (line.at < length hosts) (deed_meaning hosts time word (Administers line))
group_law hosts time word line =
    let form = group_form line.body in
    record {
      told = λ law distinct inside n w old history.
          asks_told line.at (λ here. grouped time line.org line.add form here.groups) hosts w old
          (ap (λ groups. (grouped time line.org line.add form groups).reply) (groups_there hosts distinct n w old history line.at inside));
      left = λ puts law distinct inside n w old history.
          asks_left line.at (λ here. grouped time line.org line.add form here.groups) hosts distinct n w old history _ (administering_local form line)
          (group_left hosts distinct n w old history puts time line form inside);
      refused = λ outcome tables.
          asks_refused line.at (λ here. grouped time line.org line.add form here.groups) tables (group_idle time line.org line.add form (groups_of (held_at line.at tables))) outcome;
      own = λ keep closed o w its has. absurd cc;
    }

-- ---- a synchronisation

sync_law : (hosts : List Host) (time word : ℕ) (line : SyncData) → ActLaw hosts (line.at < length hosts) (deed_meaning hosts time word (Syncs line))
sync_law hosts time word line = record {
  told = λ law distinct inside n w old history. sync_told law hosts distinct line inside n w old history;
  left = λ puts law distinct inside n w old history. sync_left law hosts distinct line inside n w old history time;
  refused = λ outcome tables. sync_idle hosts line outcome tables;
  own = λ keep closed o w its has. absurd cc;
}

-- ---- each act

-- by deed
deed_law : (hosts : List Host) (time word : ℕ) (deed : Deed) → ActLaw hosts (IsPlaced (length hosts) deed) (deed_meaning hosts time word deed)
deed_law hosts time word (Idle output) = idle_law hosts _ output time
deed_law hosts time word (Asks at read) = read_law hosts time word at read
deed_law hosts time word (Administers line) = group_law hosts time word line
deed_law hosts time word (Syncs line) = sync_law hosts time word line

pub act_law : (hosts : List Host) (a : Act) → ActLaw hosts (IsPlaced (length hosts) a.deed) (meaning hosts a)
act_law hosts a = deed_law hosts a.time a.word a.deed

module _ (law : AreSyncLaws) (hosts : List Host) (distinct : AreDistinct hosts) (n : ℕ) (w : World) (old : Tables) (history : IsHistory hosts n w old) where
  -- the act puts out what the history says
  pub output_told : (outcome : Outcome) (act : Act) → IsPlaced (length hosts) act.deed → output_of outcome hosts act old ≡ told_output outcome hosts w act
  output_told outcome act among = (act_law hosts act).told law distinct among n w old history outcome

  -- the keepers hold the tables of the history after the act
  pub act_left : ArePut → (outcome : Outcome) (act : Act) → IsPlaced (length hosts) act.deed
      → AreReadable (effect_in seen_in outcome (meaning hosts act).means old).batches
      → IsHistory hosts (suc n) (step_partly (routes_of hosts) n w (act_in hosts act) (applied outcome)) (tables_after outcome hosts act old)
  act_left puts outcome act among fits = (act_law hosts act).left puts law distinct among n w old history outcome fits

-- what is refused changes nothing
pub idle_same : (outcome : Outcome) (hosts : List Host) (act : Act) (tables : Tables)
    → IsIdle (output_of outcome hosts act tables) → tables_after outcome hosts act tables ≡ tables
idle_same outcome hosts act tables none = (act_law hosts act).refused outcome tables none
