use Rattle.std.proofs.Common.{sym, ◌∙◌}
use Rattle.misp_admin_rows.proofs.Texts.{key_read, key_unread}
use Rattle.misp_admin_rows.proofs.reader.Reader.api_key.Goals as goal
use Rattle.misp_admin_rows.proofs.reader.Reader.api_key.Goals.{in-Some, in-None}

pub returns : goal.returns
returns c = elim c.match-api_key.branch [
  | in-Some w ↦
      rw w.result-is (key_read c.self.inside.rest.now c.args.self.now c.split_at.result.0.now c.split_at.result.1.now w.in-Some.key c.self.view_is c.split_at.ensures.front c.split_at.ensures.back (sym c.api_key.ensures ∙ w.in-Some.is))
  | in-None w ↦ rw w.result-is (key_unread c.self.inside.rest.now c.args.self.now c.split_at.result.0.now c.self.view_is c.split_at.ensures.front (sym c.api_key.ensures ∙ w.in-None.is))
]
