use Rattle.std.proofs.Common.{refl, None}
use Rattle.misp_model.specs.Prelude.{date_of}
use Rattle.misp_model.specs.declared.change.Change.TheVariants.{Delete, DeleteEvent, DeleteReference, Publish}
use Rattle.misp_model.specs.Machine.{event_changed}
use Rattle.misp_model.specs.declared.change.Change.{Change}
use Rattle.misp_core.specs.Answers.{name_in}
use Rattle.misp_core.proofs.Decisions.{none_named}
use Rattle.misp_core.proofs.changing.plan_mark.Goals as goal

pub returns-in-Delete : goal.returns-in-Delete
unfolding event_changed
returns-in-Delete c =
    let name = name_in c.args.site.now.admin.now c.viewer-who.result.org in
    let today = date_of c.args.site.now.moment in
    rw (c.in-Delete.is, ← c.get-place.ensures.value, ← c.viewer-who.ensures.groups, ← c.viewer-who.ensures.here, ← c.viewer-who.ensures.org)
    (c.changed.ensures _ _ (Delete c.in-Delete.event c.get-place.result) None refl none_named
    (c.delete.ensures.ok 0 name today) c.delete.ensures.are_rows (c.delete.ensures.err 0 name today) c.delete.ensures.names)

pub returns-in-DeleteReference : goal.returns-in-DeleteReference
unfolding event_changed
returns-in-DeleteReference c =
    let name = name_in c.args.site.now.admin.now c.viewer-who.result.org in
    let today = date_of c.args.site.now.moment in
    rw (c.in-DeleteReference.is, ← c.viewer-who.ensures.groups, ← c.viewer-who.ensures.here, ← c.viewer-who.ensures.org)
    (c.changed-in-DeleteReference.ensures _ _ (DeleteReference c.in-DeleteReference.event c.in-DeleteReference.object c.in-DeleteReference.uuid) None refl none_named
    (c.delete_reference-made.ensures.ok 0 name today) c.delete_reference-made.ensures.are_rows (c.delete_reference-made.ensures.err 0 name today) c.delete_reference-made.ensures.names)

pub returns-in-Tag : goal.returns-in-Tag
unfolding event_changed
returns-in-Tag c =
    let name = name_in c.args.site.now.admin.now c.viewer-who.result.org in
    let today = date_of c.args.site.now.moment in
    rw (c.in-Tag.is, ← c.viewer-who.ensures.groups, ← c.viewer-who.ensures.here, ← c.viewer-who.ensures.org)
    (c.changed-in-Tag.ensures _ _ (Change.Tag c.in-Tag.event c.in-Tag.place c.in-Tag.new) None refl none_named
    (c.tag-made.ensures.ok 0 name today) c.tag-made.ensures.are_rows (c.tag-made.ensures.err 0 name today) c.tag-made.ensures.names)

pub returns-in-Untag : goal.returns-in-Untag
unfolding event_changed
returns-in-Untag c =
    let name = name_in c.args.site.now.admin.now c.viewer-who.result.org in
    let today = date_of c.args.site.now.moment in
    rw (c.in-Untag.is, ← c.viewer-who.ensures.groups, ← c.viewer-who.ensures.here, ← c.viewer-who.ensures.org)
    (c.changed-in-Untag.ensures _ _ (Change.Untag c.in-Untag.event c.in-Untag.place c.in-Untag.name) None refl none_named
    (c.untag-made.ensures.ok 0 name today) c.untag-made.ensures.are_rows (c.untag-made.ensures.err 0 name today) c.untag-made.ensures.names)

pub returns-in-DeleteEvent : goal.returns-in-DeleteEvent
unfolding event_changed
returns-in-DeleteEvent c =
    let name = name_in c.args.site.now.admin.now c.viewer-who.result.org in
    let today = date_of c.args.site.now.moment in
    rw (c.in-DeleteEvent.is, ← c.viewer-who.ensures.groups, ← c.viewer-who.ensures.here, ← c.viewer-who.ensures.org)
    (c.changed-in-DeleteEvent.ensures _ _ (DeleteEvent c.in-DeleteEvent.event) None refl none_named
    (c.delete_event.ensures.ok 0 name today) c.delete_event.ensures.are_rows (c.delete_event.ensures.err 0 name today) c.delete_event.ensures.names)

pub returns-in-Publish : goal.returns-in-Publish
unfolding event_changed
returns-in-Publish c =
    let name = name_in c.args.site.now.admin.now c.viewer-who.result.org in
    let today = date_of c.args.site.now.moment in
    rw (c.in-Publish.is, ← c.viewer-who.ensures.groups, ← c.viewer-who.ensures.here, ← c.viewer-who.ensures.org)
    (c.changed-in-Publish.ensures _ _ (Publish c.in-Publish.event) None refl none_named
    (c.publish.ensures.ok 0 name today) c.publish.ensures.are_rows (c.publish.ensures.err 0 name today) c.publish.ensures.names)
