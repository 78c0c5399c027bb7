use Rattle.misp_http.proofs.Prompt.{not_yet}
use Rattle.misp_http.proofs.reading.head_if_ended.Goals as goal

pub returns-else-scan_on-clause-undecided : goal.returns-else-scan_on-clause-undecided
returns-else-scan_on-clause-undecided c = λ is at begun empty.
    not_yet _ _ _ c.args.bytes.now c.scan_on.result c.scan_on.ensures.first c.if-scan_on.false at begun empty
