use Rattle.misp_orgs.specs.Admin.{link_of}
use Rattle.misp_sync.specs.Causes.{bar_of}
use Rattle.misp_net.proofs.Lent.{held_off}
use Rattle.misp_net.proofs.lending.sync_pair.Goals as goal

pub returns : goal.returns
returns g c = record {
  synchronised = c.sync_over.ensures.synchronised;
  barred = held_off c.args.own.now c.args.peer.now c.sync_over.new.own c.sync_over.new.peer c.sync_over.result (bar_of (link_of c.args.own.now.admin.links c.args.link.now)) c.sync_over.ensures.barred;
}
