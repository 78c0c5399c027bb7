-- The instances of a run, before and after its acts.
use Rattle.std.proofs.Common.{◌≡◌, ℕ, zero, suc, List, [], ◌∷◌, ◌++◌, length, slice_set, Some, Ok, Err, refl, sym, ◌∙◌, ap, subst, arith}
use Rattle.std.proofs.lemmas.List.{length-map, set-get_or}
use Rattle.misp_http.specs.declared.request.Read.{Read}
use Rattle.misp_core.specs.declared.reply.Reply.{Reply}
use Rattle.misp_core.specs.Effects.{IsRefused}
use Rattle.misp_core.specs.Prelude.{Admin}
use Rattle.misp_api.specs.Answering.{admin_after, command_after}
use Rattle.misp_api.specs.Commands.{Commanded}
use Rattle.misp_api.specs.Request.{Reading}
use Rattle.misp_api.specs.Sending.{read_form}
use Rattle.misp_api.specs.declared.command.Command.{Command}
use Rattle.misp_effects.specs.Meanings.{Meaning}
use Rattle.misp_net.specs.Acts.{Administers, Asks, Deed, Idle, Syncs, acts_done, outputs_done}
use Rattle.misp_net.specs.Asking.{names_of}
use Rattle.misp_net.specs.Hosts.{nobody}
use Rattle.misp_net.specs.Meaning.{meanings_of}
use Rattle.misp_net.specs.Prelude.{Act, Bad, Done, Host, Nothing, Output, Replied, Seen, Stop, Synced, Unanswered, host_at, meaning, stop_in}
use Rattle.misp_net.specs.Promise.{IsIdle}
use Rattle.misp_net.specs.Walk.{host_after, hosts_after, hosts_by, hosts_done, hosts_left}

-- ---- names, and how many there are

-- another instance of the same name
names_set : (hosts : List Host) (at : ℕ) (h : Host) → h.name ≡ (host_at at hosts).name → names_of (slice_set hosts at h) ≡ names_of hosts
names_set [] at h same = refl
names_set (g ∷ hosts) zero h same = ap (λ name. name ∷ names_of hosts) same
names_set (g ∷ hosts) (suc at) h same = ap (λ names. g.name ∷ names) (names_set hosts at h same)

names_by : (hosts : List Host) (word : ℕ) (deed : Deed) (output : Output) → names_of (hosts_by hosts word deed output) ≡ names_of hosts
names_by hosts word (Idle put) output = refl
names_by hosts word (Administers group) output = refl
names_by hosts word (Syncs line) output = refl
names_by hosts word (Asks at read) (Bad place) = refl
names_by hosts word (Asks at read) Nothing = refl
names_by hosts word (Asks at read) (Replied reply) = names_set hosts at (host_after (host_at at hosts) word read reply) refl
names_by hosts word (Asks at read) (Unanswered end) = refl
names_by hosts word (Asks at read) (Synced reply) = refl

-- as many as names
pub long_as : (one two : List Host) → names_of one ≡ names_of two → length one ≡ length two
long_as one two same = sym (length-map one (λ (h : Host). h.name)) ∙ ap length same ∙ length-map two (λ (h : Host). h.name)

-- after an act
pub names_kept : (hosts : List Host) (a : Act) (output : Output) → names_of (hosts_after hosts a output) ≡ names_of hosts
names_kept hosts a output = names_by hosts a.word a.deed output

pub length_kept : (hosts : List Host) (a : Act) (output : Output) → length (hosts_after hosts a output) ≡ length hosts
length_kept hosts a output = long_as (hosts_after hosts a output) hosts (names_kept hosts a output)

-- after acts
pub names_left : (hosts : List Host) (acts : List Act) (outputs : List Output) → names_of (hosts_left hosts acts outputs) ≡ names_of hosts
names_left hosts [] outputs = refl
names_left hosts (a ∷ acts) [] = refl
names_left hosts (a ∷ acts) (output ∷ outputs) = names_left (hosts_after hosts a output) acts outputs ∙ names_kept hosts a output

pub length_left : (hosts : List Host) (acts : List Act) (outputs : List Output) → length (hosts_left hosts acts outputs) ≡ length hosts
length_left hosts acts outputs = long_as (hosts_left hosts acts outputs) hosts (names_left hosts acts outputs)

-- after a line
pub names_done : (hosts : List Host) (d : Done) → names_of (hosts_done hosts d) ≡ names_of hosts
names_done hosts d = names_left hosts (acts_done d) (outputs_done d)

pub length_done : (hosts : List Host) (d : Done) → length (hosts_done hosts d) ≡ length hosts
length_done hosts d = length_left hosts (acts_done d) (outputs_done d)

-- ---- acts after acts

pub left_append : (hosts : List Host) (acts more : List Act) (outputs others : List Output) → length outputs ≡ length acts
    → hosts_left hosts (acts ++ more) (outputs ++ others) ≡ hosts_left (hosts_left hosts acts outputs) more others
left_append hosts [] more [] others long = refl
left_append hosts [] more (o ∷ outputs) others long = absurd (omega (arith, long))
left_append hosts (a ∷ acts) more [] others long = absurd (omega (arith, long))
left_append hosts (a ∷ acts) more (o ∷ outputs) others long = left_append (hosts_after hosts a o) acts more outputs others (omega (arith, long))

-- what they come to: as much as there are acts
pub meanings_long : (hosts : List Host) (acts : List Act) (outputs : List Output) → length (meanings_of hosts acts outputs) ≡ length acts
meanings_long hosts [] outputs = refl
meanings_long hosts (a ∷ acts) [] = ap suc (meanings_long hosts acts [])
meanings_long hosts (a ∷ acts) (o ∷ outputs) = ap suc (meanings_long (hosts_after hosts a o) acts outputs)

pub meanings_append : (hosts : List Host) (acts more : List Act) (outputs others : List Output) → length outputs ≡ length acts
    → meanings_of hosts (acts ++ more) (outputs ++ others) ≡ meanings_of hosts acts outputs ++ meanings_of (hosts_left hosts acts outputs) more others
meanings_append hosts [] more [] others long = refl
meanings_append hosts [] more (o ∷ outputs) others long = absurd (omega (arith, long))
meanings_append hosts (a ∷ acts) more [] others long = absurd (omega (arith, long))
meanings_append hosts (a ∷ acts) more (o ∷ outputs) others long =
    ap (λ (ms : List (Meaning Seen Output)). (meaning hosts a).means ∷ ms) (meanings_append (hosts_after hosts a o) acts more outputs others (omega (arith, long)))

-- ---- what changes none of them

-- an instance that is what it was
same_left : (hosts : List Host) (at : ℕ) (h : Host) → h ≡ host_at at hosts → slice_set hosts at h ≡ hosts
same_left hosts at h same = ap (slice_set hosts at) same ∙ set-get_or hosts at nobody

-- a refusal makes nothing
command_refused : (command : Command) (admin : Admin) (reply : Reply) → IsRefused reply → command_after command admin reply ≡ admin
command_refused (Command.Asks ask) admin reply is = refl
command_refused (Command.TakesGroups groups) admin reply is = refl
command_refused (Command.Shares add group) admin reply is = refl
command_refused (Command.Manages ask) admin (Reply.Refused refusal) is = refl
command_refused (Command.Manages ask) admin (Reply.Ok answer) is = absurd is

pub admin_refused : (form : Reading Commanded) (admin : Admin) (reply : Reply) → IsRefused reply → admin_after form admin reply ≡ admin
admin_refused (Ok it) admin reply is = command_refused it.1 admin reply is
admin_refused (Err refusal) admin reply is = refl

host_refused : (host : Host) (word : ℕ) (read : Read) (reply : Reply) → IsRefused reply → host_after host word read reply ≡ host
host_refused host word read reply is = λ i. record { name = host.name; admin = admin_refused (read_form host word read) host.admin reply is i }

by_refused : (hosts : List Host) (word : ℕ) (deed : Deed) (reply : Reply) → IsRefused reply → hosts_by hosts word deed (Replied reply) ≡ hosts
by_refused hosts word (Idle put) reply is = refl
by_refused hosts word (Administers group) reply is = refl
by_refused hosts word (Syncs line) reply is = refl
by_refused hosts word (Asks at read) reply is = same_left hosts at (host_after (host_at at hosts) word read reply) (host_refused (host_at at hosts) word read reply is)

pub refused_left : (hosts : List Host) (a : Act) (reply : Reply) → IsRefused reply → hosts_after hosts a (Replied reply) ≡ hosts
refused_left hosts a reply is = by_refused hosts a.word a.deed reply is

-- what puts out no reply
unasked_by : (hosts : List Host) (word : ℕ) (deed : Deed) (output : Output) → ((reply : Reply) → output ≡ Replied reply → IsRefused reply) → hosts_by hosts word deed output ≡ hosts
unasked_by hosts word (Idle put) output refused = refl
unasked_by hosts word (Administers group) output refused = refl
unasked_by hosts word (Syncs line) output refused = refl
unasked_by hosts word (Asks at read) (Bad place) refused = refl
unasked_by hosts word (Asks at read) Nothing refused = refl
unasked_by hosts word (Asks at read) (Replied reply) refused = by_refused hosts word (Asks at read) reply (refused reply refl)
unasked_by hosts word (Asks at read) (Unanswered end) refused = refl
unasked_by hosts word (Asks at read) (Synced reply) refused = refl

-- what is idle
refused_idle : (output : Output) → IsIdle output → (reply : Reply) → output ≡ Replied reply → IsRefused reply
refused_idle output idle reply is = subst IsIdle is idle

pub idle_left : (hosts : List Host) (a : Act) (output : Output) → IsIdle output → hosts_after hosts a output ≡ hosts
idle_left hosts a output idle = unasked_by hosts a.word a.deed output (refused_idle output idle)

-- what was stopped is no answer
reply_stopped : (reply : Reply) (stop : Stop) → stop_in (Replied reply) ≡ Some stop → IsRefused reply
reply_stopped (Reply.Refused refusal) stop is = tt
reply_stopped (Reply.Ok answer) stop is = absurd cc

pub stopped_left : (hosts : List Host) (a : Act) (output : Output) (stop : Stop) → stop_in output ≡ Some stop → hosts_after hosts a output ≡ hosts
stopped_left hosts a output stop is = unasked_by hosts a.word a.deed output (λ reply same. reply_stopped reply stop (ap stop_in (sym same) ∙ is))
