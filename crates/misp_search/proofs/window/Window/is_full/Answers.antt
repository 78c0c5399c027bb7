use Rattle.std.proofs.Common.{◌≤◌, arith}
use Rattle.misp_search.proofs.Coming.{kept}
use Rattle.misp_search.proofs.window.Window.is_full.Goals as goal

pub returns-then-self-eq0 : goal.returns-then-self-eq0
returns-then-self-eq0 g c =
    let none : c.self.inside.before ≤ 0 = omega (arith, c.if-self-eq0.true) in
    λ full more. kept _ _ c.self.view_is c.is_filled.result none c.is_filled.ensures full more
