use Rattle.misp_store.proofs.Renewed.{read_anew}
use Rattle.misp_store.proofs.renewing.rewritten.Goals as goal

pub returns-in-Ok-clause-read : goal.returns-in-Ok-clause-read
returns-in-Ok-clause-read c = read_anew c.args.raw.now c.in_ok-row.row c.raw_row.ensures.row c.in_ok-row.ensures.ok
