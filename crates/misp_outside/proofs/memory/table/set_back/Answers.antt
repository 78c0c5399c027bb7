use Rattle.std.proofs.Common.{ap, sym, ◌∙◌}
use Rattle.std.specs.BTreeMap.{is_at}
use Rattle.misp_outside.specs.Stored.{key_order, set_back}
use Rattle.misp_outside.proofs.Tables.{none_to_set}
use Rattle.misp_outside.proofs.memory.table.set_back.Goals as goal

-- the key is not in the table
pub returns-in_default : goal.returns-in_default
returns-in_default g c =
    ap (λ table. table.entries) c.get_mut.follows.holds-at-none
    ∙ sym (none_to_set (is_at (key_order g.N.Ord.cmp c.args.key.now)) c.in-Some.bytes c.args.table.now.entries c.in_default.ensures.value)
    ∙ ap (λ there. set_back (is_at (key_order g.N.Ord.cmp c.args.key.now)) there c.args.table.now.entries) (sym c.in-Some.is)
