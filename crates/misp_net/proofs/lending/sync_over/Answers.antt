use Rattle.std.proofs.Common.{ap, rules}
use Rattle.std.proofs.lemmas.Option.{IfSome_then}
use Rattle.misp_orgs.specs.Admin.{link_of}
use Rattle.misp_sync.specs.Causes.{bar_of}
use Rattle.misp_net.proofs.lending.sync_over.Goals as goal

pub returns-clause-barred : goal.returns-clause-barred
returns-clause-barred g c = IfSome_then (bar_of (link_of c.args.own.now.admin.links c.args.link.now)) c.synchronise.ensures.barred (λ why is. (is.0, is.1, let same = ap (λ w. w.peer.now) is.2 in let name = c.synchronise.ensures.through in let first = c.new-wire.ensures in search rules))
