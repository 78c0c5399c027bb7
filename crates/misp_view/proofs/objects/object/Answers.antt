use Rattle.std.proofs.Common.{ap, ◌∙◌, map}
use Rattle.misp_view.specs.Form.{object_in, attribute_in}
use Rattle.misp_view.proofs.objects.object.Goals as goal

pub returns : goal.returns
unfolding object_in
returns c = λ inner references j.
    record {
      row = c.in_ok-copy.ensures j;
      attributes = (c.in_ok-attributes.ensures ∙ ap (map (attribute_in c.args.proposals.now c.args.sightings.now)) (c.part.ensures inner)) j;
      references = (c.in_ok-references.ensures ∙ c.part-2.ensures references) j;
    }
