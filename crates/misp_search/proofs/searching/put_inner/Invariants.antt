use Rattle.std.proofs.Common.{filter, flat_map}
use Rattle.misp_elem.specs.declared.visible.VisibleAttribute.{VisibleAttribute}
use Rattle.misp_elem.specs.declared.visible.VisibleObject.{VisibleObject}
use Rattle.misp_search.specs.Fitting.{attribute_fits}
use Rattle.misp_search.specs.Window.{HaveCome, PageWindow}
use Rattle.misp_search.proofs.searching.put_inner.Given as goal

-- with what is left to look at, all have come
abbrev pub invariant-loop-object : goal.invariant-loop-object
invariant-loop-object l =
    (later : PageWindow VisibleAttribute)
    → HaveCome (filter (attribute_fits l.search l.tagged) (flat_map (λ (o : VisibleObject). o.attributes) l.object-iterator.rest.items)) l.hits later
    → HaveCome (filter (attribute_fits l.search l.tagged) (flat_map (λ (o : VisibleObject). o.attributes) l.fn.objects)) l.fn.hits later
