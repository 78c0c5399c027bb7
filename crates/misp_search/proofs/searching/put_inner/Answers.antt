use Rattle.std.proofs.Common.{◌∙◌, filter, flat_map, subst, sym}
use Rattle.misp_elem.specs.declared.visible.VisibleObject.{VisibleObject}
use Rattle.misp_search.specs.Fitting.{attribute_fits}
use Rattle.misp_search.specs.Window.{HaveCome}
use Rattle.misp_search.proofs.Coming.{come_none, list_comes, none_left}
use Rattle.misp_search.proofs.searching.put_inner.Goals as goal

pub loop-object-init : goal.loop-object-init
loop-object-init c = λ later come.
    subst (λ l. HaveCome (filter (attribute_fits c.args.search.now c.args.tagged) (flat_map (λ (o : VisibleObject). o.attributes) l)) c.args.hits.now later)
    (c.into_iter-object-iterator.ensures.into_iter_gives.0 ∙ c.into_vec-object-items.ensures) come

pub loop-object-preserved : goal.loop-object-preserved
loop-object-preserved c = λ later come.
    c.loop-object.invariant later
    (list_comes (attribute_fits c.args.search.now c.args.tagged) (λ (o : VisibleObject). o.attributes) c.loop-object.hits c.put.new.hits later _ c.next.new.self.rest.items c.in-Some.object c.attributes_in.result
    c.in-Some.ensures.steps.0 c.attributes_in.ensures c.in_ok-put.ensures come)

pub returns : goal.returns
returns c =
    c.loop-object.invariant c.loop-object.hits
    (subst (λ l. HaveCome (filter (attribute_fits c.args.search.now c.args.tagged) (flat_map (λ (o : VisibleObject). o.attributes) l)) c.loop-object.hits c.loop-object.hits)
    (sym (none_left c.loop-object.object-iterator.rest.items _ c.loop-object.object-iterator.rest.ok.0 c.in-None.ensures.steps.0)) (come_none c.loop-object.hits))
