use Rattle.std.proofs.Common.{ap, arith}
use Rattle.misp_store.proofs.RowNames.{key_long, key_long_is}
use Rattle.misp_store.proofs.naming.key_length.Goals as goal

pub returns-in-Element-clause-length : goal.returns-in-Element-clause-length
returns-in-Element-clause-length c = omega (arith, key_long_is c.args.key.now, ap key_long c.in-Element.is, c.place_length.ensures.length)

pub returns-in-Reference-clause-length : goal.returns-in-Reference-clause-length
returns-in-Reference-clause-length c = omega (arith, key_long_is c.args.key.now, ap key_long c.in-Reference.is, c.place_length-in-Reference.ensures.length)

pub returns-in-Proposal-clause-length : goal.returns-in-Proposal-clause-length
returns-in-Proposal-clause-length c = omega (arith, key_long_is c.args.key.now, ap key_long c.in-Proposal.is, c.proposal_length.ensures.length)

pub returns-in-Verdict-clause-length : goal.returns-in-Verdict-clause-length
returns-in-Verdict-clause-length c = omega (arith, key_long_is c.args.key.now, ap key_long c.in-Verdict.is, c.proposal_length-in-Verdict.ensures.length, c.inst_length.ensures.length)

pub returns-in-Sighting-clause-length : goal.returns-in-Sighting-clause-length
returns-in-Sighting-clause-length c = omega (arith, key_long_is c.args.key.now, ap key_long c.in-Sighting.is, c.place_length-in-Sighting.ensures.length, c.inst_length-in-Sighting.ensures.length)
