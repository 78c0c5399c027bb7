use Rattle.std.proofs.Common.{ap, sym, ◌∙◌}
use Rattle.misp_outside.specs.Stored.{key_order, undone}
use Rattle.misp_outside.proofs.Tables.{undone_last, none_undone}
use Rattle.misp_outside.proofs.memory.table.undo.Goals as goal

pub loop-key-preserved : goal.loop-key-preserved
loop-key-preserved g c =
    ap (undone (key_order g.N.Ord.cmp) c.pop.new.self.items) c.set_back.ensures
    ∙ sym (undone_last (key_order g.N.Ord.cmp) c.pop.new.self.items (c.in-Some.key, c.in-Some.there) c.loop-key.table.entries)
    ∙ ap (λ before. undone (key_order g.N.Ord.cmp) before c.loop-key.table.entries) (sym c.in-Some.ensures.items)
    ∙ c.loop-key.invariant

-- nothing is left
pub returns : goal.returns
returns g c = sym (none_undone (key_order g.N.Ord.cmp) c.loop-key.before.items c.loop-key.table.entries (sym c.loop-key.before.ok.0 ∙ c.in_default.ensures.cases.0)) ∙ c.loop-key.invariant
