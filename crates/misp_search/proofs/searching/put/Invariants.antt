use Rattle.std.proofs.Common.{filter}
use Rattle.misp_elem.specs.declared.visible.VisibleAttribute.{VisibleAttribute}
use Rattle.misp_search.specs.Fitting.{attribute_fits}
use Rattle.misp_search.specs.Window.{HaveCome, PageWindow}
use Rattle.misp_search.proofs.searching.put.Given as goal

-- with what is left to look at, all have come
abbrev pub invariant-loop-attribute : goal.invariant-loop-attribute
invariant-loop-attribute l =
    (later : PageWindow VisibleAttribute) → HaveCome (filter (attribute_fits l.search l.tagged) l.attribute-iterator.rest.items) l.hits later
    → HaveCome (filter (attribute_fits l.search l.tagged) l.fn.list) l.fn.hits later
