use Rattle.std.proofs.Common.{◌<◌, ◌∙◌, ap, subst, sym}
use Rattle.misp_orgs.specs.Admin.{link_of}
use Rattle.misp_script.specs.Step.{sync_data}
use Rattle.misp_net.specs.Acts.{Syncs, act}
use Rattle.misp_net.specs.Passing.{IsSyncPassed}
use Rattle.misp_net.specs.Prelude.{Standing, Synced, hosts_of, states_of}
use Rattle.misp_net.specs.Running.{IsAct}
use Rattle.misp_net.proofs.Asking.{asked_peer, inside_states, link_there, peer_states, refused_act}
use Rattle.misp_net.proofs.Growing.{grows_none}
use Rattle.misp_net.proofs.Passing.{refused_passed}
use Rattle.misp_net.proofs.Syncs.{lent_synced}
use Rattle.misp_net.proofs.syncing.sync_at.Goals as goal

pub lend-requires-clause-peer : goal.lend-requires-clause-peer
lend-requires-clause-peer g c =
    let lt = subst (λ n. c.args.line.now.at < n) c.args.instances.now.ok.0 c.requires.inside in
    let there = link_there c.args.instances.now.items c.index.result.now c.args.line.now.at c.args.line.now.link lt
    ∙ ap (λ (i : Standing). link_of i.admin.links c.args.line.now.link) (sym c.index.ensures) in
    (asked_peer c.args.directory.now (hosts_of c.args.instances.now.items) c.args.line.now.at c.args.line.now.link c.in-Ok.peer c.requires.names _ there (sym c.in-Ok.ensures)).0

pub lend-requires-clause-apart : goal.lend-requires-clause-apart
lend-requires-clause-apart g c =
    let lt = subst (λ n. c.args.line.now.at < n) c.args.instances.now.ok.0 c.requires.inside in
    let there = link_there c.args.instances.now.items c.index.result.now c.args.line.now.at c.args.line.now.link lt
    ∙ ap (λ (i : Standing). link_of i.admin.links c.args.line.now.link) (sym c.index.ensures) in
    (asked_peer c.args.directory.now (hosts_of c.args.instances.now.items) c.args.line.now.at c.args.line.now.link c.in-Ok.peer c.requires.names _ there (sym c.in-Ok.ensures)).1

pub returns-in-Ok-clause-act : goal.returns-in-Ok-clause-act
returns-in-Ok-clause-act g c =
    let lt = subst (λ n. c.args.line.now.at < n) c.args.instances.now.ok.0 c.requires.inside in
    let there = link_there c.args.instances.now.items c.index.result.now c.args.line.now.at c.args.line.now.link lt
    ∙ ap (λ (i : Standing). link_of i.admin.links c.args.line.now.link) (sym c.index.ensures) in
    let asked = asked_peer c.args.directory.now (hosts_of c.args.instances.now.items) c.args.line.now.at c.args.line.now.link c.in-Ok.peer c.requires.names _ there (sym c.in-Ok.ensures) in
    lent_synced (hosts_of c.args.instances.now.items) c.args.now c.args.word (sync_data c.args.line.now) (states_of c.args.instances.now.items) (states_of c.lend.new.instances.items) c.lend.result
    (inside_states c.args.instances.now.items c.args.line.now.at lt) (peer_states c.args.instances.now.items c.args.line.now.at c.args.line.now.link lt)
    (rw asked.0 at asked.1) (rw asked.0 at c.lend.ensures.lends)

pub returns-in-Err-clause-act : goal.returns-in-Err-clause-act
returns-in-Err-clause-act g c =
    let lt = subst (λ n. c.args.line.now.at < n) c.args.instances.now.ok.0 c.requires.inside in
    let there = link_there c.args.instances.now.items c.index.result.now c.args.line.now.at c.args.line.now.link lt
    ∙ ap (λ (i : Standing). link_of i.admin.links c.args.line.now.link) (sym c.index.ensures) in
    let hosts = hosts_of c.args.instances.now.items in
    let olds = states_of c.args.instances.now.items in
    subst (λ reply. IsAct hosts (act c.args.now c.args.word (Syncs (sync_data c.args.line.now))) olds olds (Synced reply)) (sym c.refused.ensures)
    (refused_act c.args.directory.now hosts c.args.now c.args.word (sync_data c.args.line.now) olds c.in-Err.cause c.requires.names _ there (sym c.in-Err.ensures))

-- nothing passed
pub returns-in-Err-clause-passed : goal.returns-in-Err-clause-passed
returns-in-Err-clause-passed g c =
    let lt = subst (λ n. c.args.line.now.at < n) c.args.instances.now.ok.0 c.requires.inside in
    let there = link_there c.args.instances.now.items c.index.result.now c.args.line.now.at c.args.line.now.link lt
    ∙ ap (λ (i : Standing). link_of i.admin.links c.args.line.now.link) (sym c.index.ensures) in
    let hosts = hosts_of c.args.instances.now.items in
    let olds = states_of c.args.instances.now.items in
    grows_none (g.C.Carry.passed c.args.carry.now) (IsSyncPassed hosts olds olds (sync_data c.args.line.now) c.refused.result)
    (refused_passed c.args.directory.now hosts olds olds (sync_data c.args.line.now) c.refused.result c.in-Err.cause c.requires.names _ there (sym c.in-Err.ensures))
