use Rattle.std.proofs.Common.{◌≡◌, None}
use Rattle.misp_elem.specs.declared.key.Place.{Place}
use Rattle.misp_model.specs.Place.{IsAttributePlace, element_place}
use Rattle.misp_api.proofs.asking.element_place.Goals as goal

-- the place of an attribute is that of an element
is_there : (p : Place) → IsAttributePlace p → None ≡ element_place p → ⊥
is_there Place.Event fits none = let event = fits.0 in absurd cc
is_there (Place.Object x) fits none = absurd cc
is_there (Place.Attribute a) fits none = absurd cc
is_there (Place.ObjectAttribute x a) fits none = absurd cc

pub unreachable-requires : goal.unreachable-requires
unreachable-requires c = is_there c.get.result c.get.ensures.fits c.in-None.ensures
