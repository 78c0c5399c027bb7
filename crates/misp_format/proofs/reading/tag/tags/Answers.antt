use Rattle.std.proofs.Common.{◌≡◌, map}
use Rattle.misp_format.specs.Elements.{tag_of}
use Rattle.misp_format.proofs.Tags.{fit_named}
use Rattle.misp_format.proofs.reading.tag.tags.Goals as goal

pub returns-clause-fits : goal.returns-clause-fits
returns-clause-fits c =
    let listed = c.in_ok-tags.ensures.gives in
    let of = c.of.ensures in
    let all : c.of.result ≡ map tag_of c.in_ok-named.named.entries = cc in
    fit_named c.in_ok-named.named.entries c.of.result c.in_ok-named.ensures.fits c.in_ok-tags.ensures.ordered all
