use Rattle.std.proofs.Common.{◌∙◌, ap}
use Rattle.misp_script.specs.Directory.{place_of, roster_names}
use Rattle.misp_script.proofs.Places.{placed_within}
use Rattle.misp_script.proofs.directory.Directory.place_of.Goals as goal

pub returns-clause-inside : goal.returns-clause-inside
returns-clause-inside c =
    placed_within c.args.self.now c.args.text.now c.copied.result
    (c.copied.ensures ∙ c.get.ensures.value ∙ c.self.invariant c.args.text.now ∙ ap (λ rosters. place_of (roster_names rosters) c.args.text.now) c.self.view_is)
