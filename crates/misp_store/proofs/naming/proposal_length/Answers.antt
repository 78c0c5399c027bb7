use Rattle.std.proofs.Common.{arith}
use Rattle.misp_store.proofs.RowNames.{proposal_long}
use Rattle.misp_store.proofs.naming.proposal_length.Goals as goal

pub returns-clause-length : goal.returns-clause-length
returns-clause-length c = omega (arith, c.place_length.ensures.length, c.inst_length.ensures.length, proposal_long c.args.name.now)
