use Rattle.std.proofs.Common.{ap, ◌∙◌, Err, arith}
use Rattle.misp_http.proofs.Lengths.{many_headers}
use Rattle.misp_http.proofs.Heads.{no_exceeding}
use Rattle.misp_http.proofs.parsing.parse_with_more_spans.Goals as goal

pub unreachable-requires : goal.unreachable-requires
unreachable-requires c =
    no_exceeding _ _ (c.parse_request.ensures.too_many (c.in-Err-TooManyHeaders.is ∙ ap Err c.in-Err-TooManyHeaders.field-0-is))
    (omega (arith, c.deref_mut.ensures.len, c.in_ok-spans.ensures.len))

pub returns-in-Ok-Complete : goal.returns-in-Ok-Complete
returns-in-Ok-Complete c =
    many_headers _ _ _ _ _ c.requires c.in-Ok-Complete.is c.in-Ok-Complete.field-0-is c.parse_request.ensures.complete
