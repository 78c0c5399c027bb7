-- What is kept of a request that has no reply.
use Rattle.std.proofs.Common.{rules}
use Rattle.misp_sync.proofs.Kept.{kept_none, same_itself}
use Rattle.misp_sync.proofs.keeping_wire.KeepingWireWire.ask.Goals as goal

pub returns-in_err-to_vec-clause-same : goal.returns-in_err-to_vec-clause-same
returns-in_err-to_vec-clause-same g c key call callable text = same_itself (g.W.Wire.peer c.args.self.now.wire)

pub returns-in_err-reserve-clause-same : goal.returns-in_err-reserve-clause-same
returns-in_err-reserve-clause-same g c key call callable text = same_itself (g.W.Wire.peer c.args.self.now.wire)

pub returns-in-Err-to_vec-clause-told : goal.returns-in-Err-to_vec-clause-told
returns-in-Err-to_vec-clause-told g c = kept_none c.args.self.now.asks.items c.keep-in-Err-to_vec.new.self.asks.items c.args.bytes.now (search rules)

pub returns-in-Err-clause-told : goal.returns-in-Err-clause-told
returns-in-Err-clause-told g c = kept_none c.args.self.now.asks.items c.keep-in-Err.new.self.asks.items c.args.bytes.now (search rules)
