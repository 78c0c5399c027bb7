-- The law is a lemma of proofs/Decisions.antt.
use Rattle.misp_core.proofs.Decisions.{refused_puts_none}
use Rattle.misp_core.proofs.laws.a_refused_request_writes_nothing.Goals as goal

pub returns : goal.returns
returns c = record { writes = λ host now it seen built refused. refused_puts_none host now it seen built refused }
