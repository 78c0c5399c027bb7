use Rattle.std.proofs.Common.{length}
use Rattle.misp_http.proofs.headers.+find_header.Given as goal

abbrev pub decreases-find_header : goal.decreases-find_header
decreases-find_header l = length l.spans.now
