use Rattle.std.proofs.Common.{filter, flat_map}
use Rattle.misp_elem.specs.declared.visible.VisibleObject.{VisibleObject}
use Rattle.misp_search.specs.Fitting.{attribute_fits}
use Rattle.misp_search.proofs.Coming.{come_both, come_if, come_not}
use Rattle.misp_search.proofs.searching.put_where.Goals as goal

pub returns-in_ok-put_inner : goal.returns-in_ok-put_inner
returns-in_ok-put_inner c =
    come_if c.args.wanted _ c.args.hits.now c.put_inner.new.hits c.if-wanted.true
    (come_both (filter (attribute_fits c.args.search.now c.args.tagged) c.args.attributes) (filter (attribute_fits c.args.search.now c.args.tagged) (flat_map (λ (o : VisibleObject). o.attributes) c.args.objects))
    c.args.hits.now c.put.new.hits c.put_inner.new.hits c.in_ok-put.ensures c.in_ok-put_inner.ensures)

pub returns-else-wanted : goal.returns-else-wanted
returns-else-wanted c = come_not c.args.wanted _ c.args.hits.now c.if-wanted.false
