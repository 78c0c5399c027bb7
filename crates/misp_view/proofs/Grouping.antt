-- Objects with what is in them, where that is by objects.
use Rattle.std.proofs.Common.{◌≡◌, ap, sym, ◌∙◌, List, map, subst, Bor}
use Rattle.misp_model.specs.Prelude.{Row, VisibleObject}
use Rattle.misp_view.specs.Parts.{Rises, around}
use Rattle.misp_view.specs.Form.{attribute_in, beside, object_in}
use Rattle.misp_view.specs.Inside.{IsList, IsGrouped}

pub grouped_rises : (x y : List (Bor Row)) (rows : List Row) → x ≡ y → IsGrouped y rows → Rises x
grouped_rises x y rows e g = subst Rises (sym e) g.rises

object_same : (a b c d proposals sightings : List Row) (row : Row) → beside row a ≡ beside row b → beside row c ≡ beside row d → object_in a c proposals sightings row ≡ object_in b d proposals sightings row
unfolding object_in
object_same a b c d proposals sightings row e f = λ j. record { row = row; attributes = map (attribute_in proposals sightings) (e j); references = f j }

pub objects_same : (list x inner y references z : List (Bor Row)) (objects a b proposals sightings : List Row) → x ≡ list → y ≡ inner → z ≡ references →
    IsList list objects → IsGrouped inner a → IsGrouped references b →
    map (object_in (map (λ r. r.now) y) (map (λ r. r.now) z) proposals sightings) (map (λ r. r.now) x) ≡ map (object_in a b proposals sightings) objects
objects_same list x inner y references z objects a b proposals sightings e f g h k m =
    (λ j. map (object_in (map (λ r. r.now) (f j)) (map (λ r. r.now) (g j)) proposals sightings) ((ap (map (λ r. r.now)) e ∙ h) j))
    ∙ ap {A = Row → VisibleObject} (λ t. map t objects) (λ j row. object_same _ a _ b proposals sightings row (k.same (around row.key)) (m.same (around row.key)) j)
