use Rattle.misp_script.specs.Step.{sync_data}
use Rattle.misp_net.specs.Prelude.{Synced, hosts_of, states_of}
use Rattle.misp_net.specs.Carrying.{carried}
use Rattle.misp_net.proofs.Asking.{carry_told, inside_hosts}
use Rattle.misp_net.proofs.Doing.{always_err, on_ok, sync_cut, sync_ran}
use Rattle.misp_net.proofs.syncing.put_sync.Goals as goal

pub returns-clause-ran : goal.returns-clause-ran
returns-clause-ran g c =
    on_ok c.put_synced.result
    (λ text.
    sync_ran c.args.now c.args.word (hosts_of c.args.instances.now.items) (hosts_of c.sync_at-reply.new.instances.items) (sync_data c.args.line.now) (states_of c.args.instances.now.items) (states_of c.sync_at-reply.new.instances.items)
    (Synced c.sync_at-reply.result) c.args.lines.now.items c.put_synced.new.lines.items
    (carried (g.C.Carry.faults c.args.carry.now) (g.C.Carry.passed c.args.carry.now)) (carried (g.C.Carry.faults c.sync_at-reply.new.carry) (g.C.Carry.passed c.sync_at-reply.new.carry))
    (inside_hosts c.args.instances.now.items c.args.line.now.at (rw (← c.args.instances.now.ok.0) c.requires.inside)) c.sync_at-reply.ensures.act c.sync_at-reply.ensures.hosts text
    (carry_told c.sync_at-reply.result _ _ c.sync_at-reply.ensures.cause) c.sync_at-reply.ensures.passed)
    c.put_synced.ensures.text

-- it was done, and is not written
pub returns-clause-cut : goal.returns-clause-cut
returns-clause-cut g c =
    always_err c.put_synced.result
    (sync_cut c.args.now c.args.word (hosts_of c.args.instances.now.items) (sync_data c.args.line.now) (states_of c.args.instances.now.items) (states_of c.sync_at-reply.new.instances.items)
    (Synced c.sync_at-reply.result) (g.C.Carry.passed c.args.carry.now) (g.C.Carry.passed c.sync_at-reply.new.carry)
    (inside_hosts c.args.instances.now.items c.args.line.now.at (rw (← c.args.instances.now.ok.0) c.requires.inside)) c.sync_at-reply.ensures.act c.sync_at-reply.ensures.passed)
