use Rattle.std.proofs.Common.{◌≡◌, take}
use Rattle.misp_api.specs.Router.{rows_of, texts_of}
use Rattle.misp_api.proofs.routes.router_of.Given as goal

abbrev pub invariant-loop-text : goal.invariant-loop-text
invariant-loop-text l = l.router ≡ rows_of (texts_of (take l.text-index l.patterns))
