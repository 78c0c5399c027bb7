-- The instances of a run, before and after each of its acts.
use Rattle.std.specs.Prelude.{ℕ, List, [], ◌∷◌, slice_set}
use Rattle.misp_http.specs.declared.request.Read.{Read}
use Rattle.misp_core.specs.Prelude.{Host}
use Rattle.misp_core.specs.declared.reply.Reply.{Reply}
use Rattle.misp_api.specs.Answering.{admin_after}
use Rattle.misp_api.specs.Sending.{read_form}
use Rattle.misp_net.specs.Acts.{Act, Asks, Deed, Done, acts_done, outputs_done}
use Rattle.misp_net.specs.Hosts.{host_at}
use Rattle.misp_net.specs.declared.line.Output.{Output}
use Rattle.misp_net.specs.declared.line.Output.TheVariants.{Replied}

-- an instance after a request was read and replied so
abbrev pub host_after : Host → ℕ → Read → Reply → Host
host_after host word read reply =
    record host { admin = admin_after (read_form host word read) host.admin reply }

-- the instances after a deed of this word that put this out: of a request that was answered the
-- instance that was asked is another, and nothing else changes any
abbrev pub hosts_by : List Host → ℕ → Deed → Output → List Host
hosts_by hosts word (Asks at read) (Replied reply) =
    slice_set hosts at (host_after (host_at at hosts) word read reply)
hosts_by hosts word deed output = hosts

abbrev pub hosts_after : List Host → Act → Output → List Host
hosts_after hosts a output = hosts_by hosts a.word a.deed output

-- the instances after these acts
abbrev pub hosts_left : List Host → List Act → List Output → List Host
hosts_left hosts [] outputs = hosts
hosts_left hosts (a ∷ acts) [] = hosts
hosts_left hosts (a ∷ acts) (output ∷ outputs) =
    hosts_left (hosts_after hosts a output) acts outputs

-- after what came of a line
abbrev pub hosts_done : List Host → Done → List Host
hosts_done hosts d = hosts_left hosts (acts_done d) (outputs_done d)
