use Rattle.std.proofs.Common.{◌≡◌, [], ◌∷◌, ◌++◌}
use Rattle.misp_net.specs.SyncText.{sync_text}
use Rattle.misp_net.proofs.Courses.{text_put}
use Rattle.misp_net.proofs.synced.put_synced_line.Goals as goal

pub returns : goal.returns
returns c =
    let pushed : c.push.new.self.items ≡ c.put_synced.new.lines.items ++ 10 ∷ [] = rw c.unwrap.ensures at c.push.ensures.items in
    text_put c.args.number (sync_text c.args.reply.now) _ _ _ _ c.in_ok-put_front.ensures c.in_ok-put_synced.ensures.text pushed
