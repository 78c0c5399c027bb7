use Rattle.std.proofs.Common.{◌∙◌, ap, sym, map}
use Rattle.toml.specs.View.{view}
use Rattle.misp_script.proofs.Documents.{items_of_array}
use Rattle.misp_script.proofs.document.items_in.Goals as goal

pub returns-in-Some : goal.returns-in-Some
returns-in-Some c = ap (map view) c.as_slice.ensures.value ∙ items_of_array _ _ (sym c.in-Some.ensures)
