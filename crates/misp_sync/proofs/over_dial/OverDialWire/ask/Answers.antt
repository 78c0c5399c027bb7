use Rattle.misp_sync.proofs.DialTrails.{told_by}
use Rattle.misp_sync.proofs.over_dial.OverDialWire.ask.Goals as goal

pub returns-clause-told : goal.returns-clause-told
returns-clause-told g c = told_by c.args.self.now.address.now (λ v. v.items) c.args.bytes.now (g.L.Dial.asks c.args.self.now.dial.now) (g.L.Dial.asks c.ask.new.self) c.ask.result c.ask.ensures.told c.ask.ensures.failed c.ask.ensures.no_memory
