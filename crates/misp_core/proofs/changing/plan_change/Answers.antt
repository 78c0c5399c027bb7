use Rattle.std.proofs.Common.{refl, sym}
use Rattle.misp_model.specs.Prelude.{date_of}
use Rattle.misp_model.specs.declared.change.Change.TheVariants.{AddParts, EditAttribute, EditEvent, EditObject}
use Rattle.misp_model.specs.Machine.{event_changed}
use Rattle.misp_core.specs.Answers.{name_in}
use Rattle.misp_core.proofs.changing.plan_change.Goals as goal

pub returns-in-EditEvent : goal.returns-in-EditEvent
unfolding event_changed
returns-in-EditEvent c =
    let name = name_in c.args.site.now.admin.now c.viewer-who.result.org in
    let today = date_of c.args.site.now.moment in
    rw (c.in-EditEvent.is, ← c.viewer-who.ensures.groups, ← c.viewer-who.ensures.here, ← c.viewer-who.ensures.org)
    (c.changed.ensures _ _ (EditEvent c.in-EditEvent.event c.in-EditEvent.edit) c.in-EditEvent.edit.label refl (λ rule. refl)
    (c.edit_event-made.ensures.ok 0 name today) c.edit_event-made.ensures.are_rows (c.edit_event-made.ensures.err 0 name today) c.edit_event-made.ensures.names)

pub returns-in-EditAttribute : goal.returns-in-EditAttribute
unfolding event_changed
returns-in-EditAttribute c =
    let name = name_in c.args.site.now.admin.now c.viewer-who.result.org in
    let today = date_of c.args.site.now.moment in
    rw (c.in-EditAttribute.is, ← c.viewer-who.ensures.groups, ← c.viewer-who.ensures.here, ← c.viewer-who.ensures.org)
    (c.changed-in-EditAttribute.ensures _ _ (EditAttribute c.in-EditAttribute.event c.in-EditAttribute.place c.in-EditAttribute.edit) c.in-EditAttribute.edit.label refl (λ rule. refl)
    (c.edit_attribute-made.ensures.ok 0 name today) c.edit_attribute-made.ensures.are_rows (c.edit_attribute-made.ensures.err 0 name today) c.edit_attribute-made.ensures.names)

pub returns-in-EditObject : goal.returns-in-EditObject
unfolding event_changed
returns-in-EditObject c =
    let name = name_in c.args.site.now.admin.now c.viewer-who.result.org in
    let today = date_of c.args.site.now.moment in
    rw (c.in-EditObject.is, ← c.viewer-who.ensures.groups, ← c.viewer-who.ensures.here, ← c.viewer-who.ensures.org)
    (c.changed-in-EditObject.ensures _ _ (EditObject c.in-EditObject.event c.in-EditObject.object c.in-EditObject.edit) c.in-EditObject.edit.label refl (λ rule. refl)
    (c.edit_object-made.ensures.ok 0 name today) c.edit_object-made.ensures.are_rows (c.edit_object-made.ensures.err 0 name today) c.edit_object-made.ensures.names)

pub returns-in-AddParts : goal.returns-in-AddParts
unfolding event_changed
returns-in-AddParts c =
    let name = name_in c.args.site.now.admin.now c.viewer-who.result.org in
    let today = date_of c.args.site.now.moment in
    rw (c.in-AddParts.is, ← c.viewer-who.ensures.groups, ← c.viewer-who.ensures.here, ← c.viewer-who.ensures.org)
    (c.added.ensures _ _ (AddParts c.in-AddParts.event c.in-AddParts.parts) (sym c.event_of-of.ensures) (c.add_parts-made.ensures.ok 0 name today) c.add_parts-made.ensures.are_rows
    (c.add_parts-made.ensures.err 0 name today))
