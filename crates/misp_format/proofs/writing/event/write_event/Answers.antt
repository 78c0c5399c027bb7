use Rattle.std.proofs.Common.{◌++◌, ap, ◌∙◌}
use Rattle.misp_format.specs.Prelude.{body_data, compact_text, read}
use Rattle.misp_format.proofs.ReadBack.{body_returned}
use Rattle.misp_format.proofs.EventBack.{text_back}
use Rattle.misp_format.proofs.writing.event.write_event.Goals as goal

-- the text began empty
pub returns-clause-reads_back : goal.returns-clause-reads_back
returns-clause-reads_back c =
    let text = compact_text (body_data c.args.event.now) in
    ap read (c.in_ok-put_event.ensures ∙ ap (λ t. t ++ text) c.new-text.ensures.items) ∙ body_returned c.args.event.now

pub returns-clause-same : goal.returns-clause-same
returns-clause-same c = λ whole d other word. text_back _ c.args.event.now whole (returns-clause-reads_back c) d other word
