use Rattle.std.proofs.Common.{◌∷◌, []}
use Rattle.misp_search.proofs.Coming.{counted, kept, taken}
use Rattle.misp_search.proofs.window.Window.put.Goals as goal

pub returns-then-self-gt0 : goal.returns-then-self-gt0
returns-then-self-gt0 g c = counted _ _ c.self.view_is c.args.item c.if-self-gt0.true

pub returns-in_ok-push : goal.returns-in_ok-push
returns-in_ok-push g c =
    rw c.in_ok-push.ensures.items (taken _ _ c.self.view_is c.is_filled.result c.args.item c.if-self-gt0.false c.is_filled.ensures c.if-not-is_filled.true)

pub returns-else-not-is_filled : goal.returns-else-not-is_filled
returns-else-not-is_filled g c = kept _ _ c.self.view_is c.is_filled.result c.if-self-gt0.false c.is_filled.ensures c.if-not-is_filled.false (c.args.item ∷ [])
