-- What each act means: THE definition by deed.
use Rattle.std.specs.Prelude.{◌≡◌, ◌⊎◌, ℕ, List, [], ◌∷◌, take, Option, Some, None, option_map, Ok, Err}
use Rattle.misp_ids.specs.declared.label.Direction.{Direction}
use Rattle.misp_admins.specs.Asks.{item_of, why_not}
use Rattle.misp_admins.specs.declared.item.Item.{Item}
use Rattle.misp_script.specs.Step.{GroupData, SyncData}
use Rattle.misp_http.specs.declared.request.Read.{Read}
use Rattle.misp_http.specs.declared.request.Read.TheVariants as reads
use Rattle.misp_effects.specs.Effect.{Telling, effect, shown}
use Rattle.misp_effects.specs.Meanings.{Meaning, alone}
use Rattle.misp_store.specs.Seen.{Seen}
use Rattle.misp_core.specs.Keeping.{caller_at}
use Rattle.misp_core.specs.Managing.{managed}
use Rattle.misp_core.specs.Effects.{rule_told}
use Rattle.misp_core.specs.declared.reply.Reply.TheVariants.{Refused}
use Rattle.misp_api.specs.Prelude.{Admin, Caller, Commanded, Effect, Group, Host, OrgId, Reading, Reply, RuleName, Stop, caller_in, grouped, refused_by, replied}
use Rattle.misp_api.specs.declared.command.Command.{Command}
use Rattle.misp_api.specs.Administering.{group_form}
use Rattle.misp_net.specs.declared.line.Output.{Output}
use Rattle.misp_net.specs.declared.line.Output.TheVariants.{Bad, Nothing, Replied, Synced, Unanswered}
use Rattle.misp_api.specs.Sending.{read_form}
use Rattle.misp_protocol.specs.Counts.{count_of}
use Rattle.misp_sync.specs.Causes.{stop_cause}
use Rattle.misp_sync.specs.Directions.{counted_on, taker}
use Rattle.misp_sync.specs.History.{sync_act}
use Rattle.misp_sync.specs.declared.reply.SyncReply.TheVariants as synced
use Rattle.misp_net.specs.Acts.{Act, Deed, Idle, Asks, Administers, Syncs}
use Rattle.misp_net.specs.Hosts.{host_at}
use Rattle.misp_net.specs.Links.{place_of_peer, synced_at}
use Rattle.misp_net.specs.Walk.{hosts_after}
use Rattle.misp_history.specs.Acts as model
use Rattle.misp_core.specs.Effects as replies
use Rattle.misp_sync.specs.Pulled as pulls

-- what an act is: what it comes to among the instances; what it puts out whatever is held, where
-- its form says that; the refusal of a request, where its form or the administration of the
-- instance refuses it; its act in the history; and the organisation that asks
pub record ActMeaning : Type 0 where
  pub means : Meaning Seen Output
  pub formed : Option Output
  pub refusal : Option Output
  pub act : model.Act
  pub asker : Option OrgId

-- ---- what acts come to

-- one instance is asked; a stop is told by its rule, and leaves nothing
abbrev pub asks : ℕ → (Seen → Effect Reply) → Meaning Seen Output
asks at comes =
    alone (λ stop. Replied (refused_by (rule_told stop))) at (λ here. shown Replied (comes here))

-- a stop of a synchronisation leaves the batches that were put, and tells what those brought that
-- it counts
abbrev pub sync_telling : Direction → Telling Output
sync_telling direction stop n lost e =
    effect (Synced (synced.Stopped (count_of (take (counted_on direction stop lost n) e.batches))
    (stop_cause stop))) (take n e.batches)

-- of an instance and the peer of a link the one takes what passes at the other
abbrev pub syncing : List Host → SyncData → Meaning Seen Output
syncing hosts line =
    let peer : ℕ = place_of_peer hosts line.at line.link in
    record {
      at = line.at;
      peer = peer;
      into = taker line.direction line.at peer;
      comes = λ own there. shown Synced (synced_at hosts line own there);
      telling = sync_telling line.direction;
    }

-- none is asked, and nothing stops it
abbrev pub silent : Output → Meaning Seen Output
silent output = alone (λ stop. output) 0 (λ here. effect output [])

-- an act that does nothing
abbrev pub idle : Output → ℕ → ActMeaning
idle output time = record {
  means = silent output;
  formed = Some output;
  refusal = None;
  act = record { at = []; now = time; command = model.Nothing };
  asker = None;
}

-- ---- forms

-- what is refused by its form is refused whatever is held
abbrev pub turned_away : {A : Type 0} → Reading A → Option Output
turned_away (Ok x) = None
turned_away (Err refusal) = Some (Replied (Refused refusal))

-- a reply that is a refusal, as it is put out
abbrev pub refusal_in : Reply → Option Output
refusal_in (Reply.Ok answer) = None
refusal_in (Refused refusal) = Some (Replied (Refused refusal))

-- the refusal of a command that this administration refuses, whatever is held
abbrev pub refusal_by : Admin → Command → Option Output
refusal_by admin (Command.Manages ask) = refusal_in (managed admin ask).reply
refusal_by admin command = None

-- the same of a request of this form
abbrev pub refusal_of : Admin → Reading Commanded → Option Output
refusal_of admin (Ok it) = refusal_by admin it.1
refusal_of admin (Err refusal) = Some (Replied (Refused refusal))

-- ---- acts by form

-- what a site administrator makes, where no rule is against it; else it asks what changes nothing
abbrev pub making : model.Caller → Option RuleName → Option Item → model.Command
making caller None (Some item) = model.Makes caller item
making caller why item = model.Misfits caller

-- a command of this caller, as the history has it
abbrev pub command_at : Host → Caller → Command → model.Command
command_at host caller (Command.Asks ask) = model.Asks (caller_at host.admin caller) ask
command_at host caller (Command.TakesGroups groups) =
    model.Takes_groups (caller_at host.admin caller) groups
command_at host caller (Command.Shares add group) =
    model.Shares (caller_at host.admin caller) add group
command_at host caller (Command.Manages ask) =
    making (caller_at host.admin caller) (why_not host.admin ask) (item_of host.admin ask)

-- the command, or that somebody asked what is no request
abbrev pub asking : Reading Commanded → Host → Option Caller → model.Command
asking (Ok it) host caller = command_at host it.0 it.1
asking (Err refusal) host None = model.Nothing
asking (Err refusal) host (Some caller) = model.Misfits (caller_at host.admin caller)

-- the group that is administered, where the text of the line is one
abbrev pub administering : Reading Group → GroupData → model.Command
administering (Ok g) line = model.Administers line.org line.add g
administering (Err refusal) line = model.Nothing

-- who asks, where a request was read
abbrev pub caller_of : Admin → Read → Option Caller
caller_of admin (reads.Request request) = caller_in admin request.key
caller_of admin (reads.Refused fault) = None

-- ---- acts

-- by deed
abbrev pub deed_meaning : List Host → ℕ → ℕ → Deed → ActMeaning
deed_meaning hosts time word (Idle output) = idle output time
deed_meaning hosts time word (Asks at read) =
    let host : Host = host_at at hosts in
    let caller : Option Caller = caller_of host.admin read in
    let form : Reading Commanded = read_form host word read in
    record {
      means = asks at (replied host time form);
      formed = turned_away form;
      refusal = refusal_of host.admin form;
      act = record { at = host.name; now = time; command = asking form host caller };
      asker = option_map (λ c. c.org) caller;
    }
deed_meaning hosts time word (Administers line) =
    let form : Reading Group = group_form line.body in
    record {
      means = asks line.at (λ here. grouped time line.org line.add form here.groups);
      formed = turned_away form;
      refusal = None;
      act = record {
        at = (host_at line.at hosts).name;
        now = time;
        command = administering form line;
      };
      asker = None;
    }
deed_meaning hosts time word (Syncs line) = record {
  means = syncing hosts line;
  formed = None;
  refusal = None;
  act = sync_act line.direction (host_at line.at hosts).name time line.link;
  asker = None;
}

abbrev pub meaning : List Host → Act → ActMeaning
meaning hosts a = deed_meaning hosts a.time a.word a.deed

-- what acts come to that put this out, each by the instances before it
abbrev pub meanings_of : List Host → List Act → List Output → List (Meaning Seen Output)
meanings_of hosts [] outputs = []
meanings_of hosts (a ∷ acts) [] = (meaning hosts a).means ∷ meanings_of hosts acts []
meanings_of hosts (a ∷ acts) (output ∷ outputs) =
    (meaning hosts a).means ∷ meanings_of (hosts_after hosts a output) acts outputs

-- It is put out as the form of its act says; in place of a reply, that memory ran out may be put
-- out.
abbrev pub IsAsFormed : Option Output → Output → Type 0
IsAsFormed None output = Unit {0}
IsAsFormed (Some (Bad place)) output = output ≡ Bad place
IsAsFormed (Some Nothing) output = output ≡ Nothing
IsAsFormed (Some (Unanswered end)) output = output ≡ Unanswered end
IsAsFormed (Some (Synced reply)) output = output ≡ Synced reply
IsAsFormed (Some (Replied reply)) output =
    (output ≡ Replied reply) ⊎ (output ≡ Replied (refused_by RuleName.NoMemory))

-- the same of each of these acts
abbrev pub AreAsFormed : List Host → List Act → List Output → Type 0
AreAsFormed hosts [] outputs = Unit {0}
AreAsFormed hosts (act ∷ acts) [] = Unit {0}
AreAsFormed hosts (act ∷ acts) (output ∷ outputs) =
    IsAsFormed (meaning hosts act).formed output
    × AreAsFormed (hosts_after hosts act output) acts outputs

-- ---- stops

-- what stopped an act, read off what is put out
abbrev pub stop_in : Output → Option Stop
stop_in (Bad place) = None
stop_in Nothing = None
stop_in (Unanswered end) = None
stop_in (Replied reply) = replies.stop_in reply
stop_in (Synced reply) = pulls.stop_in reply
