use Rattle.std.proofs.Common.{◌∙◌, filter, subst, sym}
use Rattle.misp_search.specs.Fitting.{attribute_fits}
use Rattle.misp_search.specs.Window.{HaveCome}
use Rattle.misp_search.proofs.Coming.{come_none, item_comes, none_left}
use Rattle.misp_search.proofs.searching.put.Goals as goal

pub loop-attribute-init : goal.loop-attribute-init
loop-attribute-init c = λ later come.
    subst (λ l. HaveCome (filter (attribute_fits c.args.search.now c.args.tagged) l) c.args.hits.now later)
    (c.into_iter-attribute-iterator.ensures.into_iter_gives.0 ∙ c.into_vec-attribute-items.ensures) come

pub loop-attribute-preserved : goal.loop-attribute-preserved
loop-attribute-preserved c = λ later come.
    c.loop-attribute.invariant later
    (item_comes (attribute_fits c.args.search.now c.args.tagged) c.loop-attribute.hits c.put_if.new.hits later _ c.next.new.self.rest.items c.in-Some.attribute c.takes-fits.result
    c.in-Some.ensures.steps.0 c.takes-fits.ensures c.in_ok-put_if.ensures come)

pub returns : goal.returns
returns c =
    c.loop-attribute.invariant c.loop-attribute.hits
    (subst (λ l. HaveCome (filter (attribute_fits c.args.search.now c.args.tagged) l) c.loop-attribute.hits c.loop-attribute.hits)
    (sym (none_left c.loop-attribute.attribute-iterator.rest.items _ c.loop-attribute.attribute-iterator.rest.ok.0 c.in-None.ensures.steps.0)) (come_none c.loop-attribute.hits))
