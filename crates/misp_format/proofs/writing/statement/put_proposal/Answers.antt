use Rattle.std.proofs.Common.{rules}
use Rattle.misp_format.proofs.Texts.{object_put}
use Rattle.misp_format.proofs.writing.statement.put_proposal.Goals as goal

pub returns : goal.returns
returns c = rw object_put (search rules)
