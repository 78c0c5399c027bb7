use Rattle.std.proofs.Common.{length}
use Rattle.misp_http.specs.Texts.{reply_text, status_line, content_length_line, crlf}
use Rattle.misp_http.proofs.Putting.{joined_6}
use Rattle.misp_http.proofs.printing.put_reply.Goals as goal

pub returns-clause-text : goal.returns-clause-text
unfolding reply_text
returns-clause-text c =
    rw (← c.content_type_line.ensures, ← c.connection_line.ensures)
    (joined_6 c.args.out.now.items (status_line c.args.status) c.content_type_line.result.now (content_length_line (length c.args.body.now)) c.connection_line.result.now crlf c.args.body.now
    _ _ _ _ _ _ c.in_ok-put_status_line.ensures.text c.in_ok-put_text.ensures.text c.in_ok-put_content_length.ensures.text c.in_ok-put_text-2.ensures.text c.in_ok-put_text-3.ensures.text c.in_ok-extend_from_slice.ensures.items)
