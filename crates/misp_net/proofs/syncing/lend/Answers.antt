use Rattle.std.proofs.Common.{◌<◌, length, subst, sym}
use Rattle.misp_script.specs.Step.{sync_data}
use Rattle.misp_net.proofs.Asking.{peer_inside_too}
use Rattle.misp_net.proofs.LentSyncs.{apart_too, lent, lent_hosts, lent_passed, no_one}
use Rattle.misp_net.proofs.syncing.lend.Goals as goal

pub sync_between-requires-clause-own : goal.sync_between-requires-clause-own
sync_between-requires-clause-own g c = subst (λ n. c.args.line.now.at < n) c.args.instances.now.ok.0 c.requires.inside

pub sync_between-requires-clause-peer : goal.sync_between-requires-clause-peer
sync_between-requires-clause-peer g c =
    let lt = subst (λ n. c.args.line.now.at < n) c.args.instances.now.ok.0 c.requires.inside in
    subst (λ n. c.args.peer < n) (sym c.args.instances.now.ok.0) (subst (λ p. p < length c.args.instances.now.items) (sym c.requires.peer) (peer_inside_too c.args.instances.now.items c.args.line.now.at c.args.line.now.link lt))

pub sync_between-requires-clause-apart : goal.sync_between-requires-clause-apart
sync_between-requires-clause-apart g c = apart_too c.args.peer c.args.line.now.at c.requires.apart

pub returns-clause-lends : goal.returns-clause-lends
returns-clause-lends g c =
    let lt = subst (λ n. c.args.line.now.at < n) c.args.instances.now.ok.0 c.requires.inside in
    let peer_lt = subst (λ p. p < length c.args.instances.now.items) (sym c.requires.peer) (peer_inside_too c.args.instances.now.items c.args.line.now.at c.args.line.now.link lt) in
    lent (sync_data c.args.line.now) c.args.peer _ _ c.args.instances.now.items c.sync_between.new.instances.items c.sync_between.result lt peer_lt c.requires.apart c.sync_between.ensures c.requires.peer

pub returns-clause-hosts : goal.returns-clause-hosts
returns-clause-hosts g c =
    let lt = subst (λ n. c.args.line.now.at < n) c.args.instances.now.ok.0 c.requires.inside in
    let peer_lt = subst (λ p. p < length c.args.instances.now.items) (sym c.requires.peer) (peer_inside_too c.args.instances.now.items c.args.line.now.at c.args.line.now.link lt) in
    lent_hosts (sync_data c.args.line.now) c.args.peer _ _ c.args.instances.now.items c.sync_between.new.instances.items c.sync_between.result lt peer_lt c.requires.apart c.sync_between.ensures

pub returns-clause-passed : goal.returns-clause-passed
returns-clause-passed g c =
    let lt = subst (λ n. c.args.line.now.at < n) c.args.instances.now.ok.0 c.requires.inside in
    let peer_lt = subst (λ p. p < length c.args.instances.now.items) (sym c.requires.peer) (peer_inside_too c.args.instances.now.items c.args.line.now.at c.args.line.now.link lt) in
    lent_passed (sync_data c.args.line.now) c.args.peer _ _ c.args.instances.now.items c.sync_between.new.instances.items c.sync_between.result lt peer_lt c.requires.apart c.sync_between.ensures c.requires.peer

pub returns-clause-cause : goal.returns-clause-cause
returns-clause-cause g c = (c.sync_between.ensures.went no_one).synchronised.wire
