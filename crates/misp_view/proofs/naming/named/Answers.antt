use Rattle.std.proofs.Common.{ap, ◌∙◌, ◌||◌}
use Rattle.std.specs.List.{list_any}
use Rattle.misp_view.specs.Naming.{has_group, attribute_names, object_names, event_names}
use Rattle.misp_view.proofs.NamedGroups.{none_has, three_more}
use Rattle.misp_view.proofs.naming.named.Goals as goal

pub returns : goal.returns
unfolding event_names
returns c = λ id.
    three_more _ _ _ _ _ _ _ (none_has c.new-ids.result id c.new-ids.ensures.empty) (c.in_ok-note_row.ensures id)
    (c.in_ok-note_attributes.ensures id ∙ ap (λ xs. has_group c.note_row.new.ids id || list_any (attribute_names id) xs) c.as_slice.ensures)
    (c.in_ok-note_objects.ensures id ∙ ap (λ xs. has_group c.note_attributes.new.ids id || list_any (object_names id) xs) c.as_slice-2.ensures)
