use Rattle.std.proofs.Common.{ap, ◌∙◌}
use Rattle.misp_outside.specs.Stored.{key_order, undone}
use Rattle.misp_outside.proofs.Tables.{keys_total, same_keys, undone_put}
use Rattle.misp_outside.proofs.memory.table.put.Goals as goal

-- what was there is noted
pub returns-clause-undo : goal.returns-clause-undo
returns-clause-undo g c =
    undone_put (key_order g.N.Ord.cmp) (keys_total g.N.Ord.cmp g.met.N.Ord.total)
    c.reserve.new.self.items c.push.new.self.items c.args.key (c.args.key.0, c.in_ok-name.name) c.args.bytes c.in_ok-there.there c.args.table.now.entries c.insert.new.self.entries
    c.insert.ensures.was_ordered (same_keys g.N.Ord.cmp c.args.key.0 c.in_ok-name.name c.args.key.1 (c.in_ok-name.ensures.items ∙ c.as_slice.ensures.value))
    c.in_ok-there.ensures.old c.in_ok-there.ensures.entries (rw c.unwrap.ensures at c.push.ensures.items)
    ∙ ap (λ before. undone (key_order g.N.Ord.cmp) before c.args.table.now.entries) c.reserve.ensures.items
