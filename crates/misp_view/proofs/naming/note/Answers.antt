use Rattle.std.proofs.Common.{◌∙◌, ap, sym, ◌||◌}
use Rattle.misp_view.specs.Naming.{has_group, label_names}
use Rattle.misp_view.proofs.NamedGroups.{has_more}
use Rattle.misp_view.proofs.naming.note.Goals as goal

pub returns-in_ok-insert : goal.returns-in_ok-insert
unfolding label_names
returns-in_ok-insert c = λ id.
    has_more c.args.ids.now c.insert.new.self _ id (c.in_ok-insert.ensures.updates.0 (id.creator.0.0, id.uuid.0))
    ∙ ap (λ l. has_group c.args.ids.now id || label_names id l) (sym c.in-Group.is)
