use Rattle.std.proofs.Common.{◌∙◌}
use Rattle.misp_client.proofs.Manifests.{are_listed}
use Rattle.misp_client.proofs.manifest.read_manifest.Goals as goal

pub returns-in_ok-parts_listed-in-Ok-clause-fits : goal.returns-in_ok-parts_listed-in-Ok-clause-fits
returns-in_ok-parts_listed-in-Ok-clause-fits c = are_listed c.in-Ok.events.items c.in-Ok.ensures.found.0 c.of.result (c.of.ensures ∙ c.in_ok-parts_listed-in-Ok.ensures)
