use Rattle.std.proofs.Common.{ap, sym, ◌∙◌, Less, Equal, Greater}
use Rattle.misp_ids.specs.Names.{is_inst_name}
use Rattle.misp_lists.proofs.Orders.{numbers_less}
use Rattle.misp_view.proofs.Origins.{origins_cmp}
use Rattle.misp_view.proofs.order.is_earlier.Goals as goal

pub returns-in-Less : goal.returns-in-Less
returns-in-Less c =
    sym (origins_cmp c.args.a c.args.b Less (ap is_inst_name (sym c.text.ensures.spelling) ∙ c.text.ensures.is_name) (ap is_inst_name (sym c.text-2.ensures.spelling) ∙ c.text-2.ensures.is_name)
    (rw (← c.text.ensures.spelling, ← c.text-2.ensures.spelling) (c.in-Less.ensures)))

pub returns-in-Equal : goal.returns-in-Equal
returns-in-Equal c =
    sym (numbers_less c.args.a.1.0.0 c.args.b.1.0.0)
    ∙ sym (origins_cmp c.args.a c.args.b Equal (ap is_inst_name (sym c.text.ensures.spelling) ∙ c.text.ensures.is_name) (ap is_inst_name (sym c.text-2.ensures.spelling) ∙ c.text-2.ensures.is_name)
    (rw (← c.text.ensures.spelling, ← c.text-2.ensures.spelling) (c.in-Equal.ensures)))

pub returns-in-Greater : goal.returns-in-Greater
returns-in-Greater c =
    sym (origins_cmp c.args.a c.args.b Greater (ap is_inst_name (sym c.text.ensures.spelling) ∙ c.text.ensures.is_name) (ap is_inst_name (sym c.text-2.ensures.spelling) ∙ c.text-2.ensures.is_name)
    (rw (← c.text.ensures.spelling, ← c.text-2.ensures.spelling) (c.in-Greater.ensures)))
