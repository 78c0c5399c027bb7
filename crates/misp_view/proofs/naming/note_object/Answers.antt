use Rattle.std.proofs.Common.{ap, ◌∙◌, ◌||◌}
use Rattle.misp_lists.proofs.Prelude.{list_any, on_ok_weaker}
use Rattle.misp_view.specs.Naming.{has_group, attribute_names, object_names}
use Rattle.misp_view.proofs.NamedGroups.{two_more}
use Rattle.misp_view.proofs.naming.note_object.Goals as goal

pub returns : goal.returns
unfolding object_names
returns c =
    on_ok_weaker c.note_attributes.result
    (λ more id. two_more _ _ _ _ _ (c.in_ok-note_row.ensures id) (more id ∙ ap (λ xs. has_group c.note_row.new.ids id || list_any (attribute_names id) xs) c.as_slice.ensures))
    c.note_attributes.ensures
