-- The definitions and types that many files name, passed on from one place. Declares nothing.
pub use Rattle.std.specs.BTreeSet.{BTreeSet}
pub use Rattle.std.specs.Borrow.{Bor}
unfoldable pub use Rattle.misp_dates.specs.Dates.{date_of}
pub use Rattle.misp_ids.specs.declared.label.Way.{Way}
unfoldable pub use Rattle.misp_lists.specs.Prelude.{in_order}
pub use Rattle.misp_lists.specs.Prelude.{Ordering, contains, nat_cmp, ordering_then}
unfoldable pub use Rattle.misp_groups.specs.Prelude.{same_group}
pub use Rattle.misp_groups.specs.Prelude.{GroupId}
pub use Rattle.misp_groups.specs.declared.group.GroupFields.{GroupFields as Group}
pub use Rattle.misp_elem.specs.Draft.{DraftFields as Draft, EventDraftFields as EventDraft}
unfoldable pub use Rattle.misp_elem.specs.KeyFacts.{is_statement}
unfoldable pub use Rattle.misp_elem.specs.Parents.{above, up_to}
unfoldable pub use Rattle.misp_elem.specs.Prelude.{event_key, event_of, is_less, last_stamp, parents, same_event, same_inst, same_key, same_org, uuid_at}
pub use Rattle.misp_elem.specs.Prelude.{AllByRecursion, ElemId, EventId, Inst, Label, OrgId, ReferenceDraft, Stamp, Submission, list_all, list_any, slice_cmp}
unfoldable pub use Rattle.misp_elem.specs.RowFacts.{is_deleted, is_gone, is_tombstone}
pub use Rattle.misp_elem.specs.declared.content.Content.{Content}
pub use Rattle.misp_elem.specs.declared.content.ProposalBody.{ProposalBody}
pub use Rattle.misp_elem.specs.declared.content.Tag.{Tag}
pub use Rattle.misp_elem.specs.declared.key.KeyForm.{KeyForm as Key}
pub use Rattle.misp_elem.specs.declared.key.KeyForm.TheVariants.{Element, Proposal, Reference, Sighting, Verdict}
pub use Rattle.misp_elem.specs.declared.key.Place.{Place}
pub use Rattle.misp_elem.specs.declared.key.Place.TheVariants.{Attribute, Event, Object, ObjectAttribute}
pub use Rattle.misp_elem.specs.declared.key.ProposalName.{ProposalName}
pub use Rattle.misp_elem.specs.declared.row.RowFields.{RowFields as Row}
pub use Rattle.misp_elem.specs.declared.visible.VisibleAttribute.{VisibleAttribute}
pub use Rattle.misp_elem.specs.declared.visible.VisibleEvent.{VisibleEvent}
pub use Rattle.misp_elem.specs.declared.visible.VisibleObject.{VisibleObject}
unfoldable pub use Rattle.misp_model.specs.Adding.{clashes, fits_parts, has_unusable, is_place_of, is_taken, part_version, parts_written, takes_uuid, target_in_copy, uuids_of}
unfoldable pub use Rattle.misp_model.specs.Answers.{answer, ask_rules, brings, is_accepted, ok_answer, taken_rows}
pub use Rattle.misp_model.specs.Answers.{Refused, Reply, Saved}
unfoldable pub use Rattle.misp_model.specs.Arrival.{counted, handed_in, is_made_at}
unfoldable pub use Rattle.misp_model.specs.Changing.{as_published, change_rules, change_writes, edit_rules, is_held_in, let_out, let_out_row, own_reference, row_passes}
unfoldable pub use Rattle.misp_model.specs.Closed.{cut, cut_rows, is_proposal_of}
pub use Rattle.misp_model.specs.Closed.{IsClosed}
unfoldable pub use Rattle.misp_model.specs.Edits.{as_deleted, at_attribute, at_event, at_object, at_publishing, at_tags, edited, edited_event, edited_object, has_tag, tagged, untagged}
pub use Rattle.misp_model.specs.Numbers.{scene_as}
unfoldable pub use Rattle.misp_model.specs.RowOrder.{spell, stands_before}
unfoldable pub use Rattle.misp_model.specs.Scene.{bars, changed, changed_row, first_rule, holds_copy, holds_home, holds_tombstone, is_at_limit, is_newer_than, is_too_long, is_usable, own_live, own_row, own_row_is, sees, wants_unusable}
unfoldable pub use Rattle.misp_model.specs.Scene.{written}
pub use Rattle.misp_model.specs.Scene.{ElementExists, ElementFull, EventExists, EventGone, GroupNotUsable, NotGranted, NotOwner, ProposalExists, Rule, Scene, TimeLimit}
unfoldable pub use Rattle.misp_model.specs.Statements.{acceptance, accepted, body_seen, is_for_new, judge_rules, judge_writes, judged_place, made, proposal_key, propose_rules, propose_writes, sight_rules, sight_writes, sighting_key}
pub use Rattle.misp_model.specs.Version.{Version}
unfoldable pub use Rattle.misp_model.specs.View.{element_granted, first_of_all, granted, granted_by, granted_somewhere, has_copy, has_gone, has_home, has_open, is_before, is_known, is_least, is_live, is_row_of, known, row_is_open}
pub use Rattle.misp_model.specs.View.{IsTable}
pub use Rattle.misp_model.specs.declared.ask.Ask.{Ask}
pub use Rattle.misp_model.specs.declared.ask.Ask.TheVariants.{Groups, Index, Judge, Propose, Search, Sight, SyncEvents, SyncGroups, SyncManifest, SyncPart, SyncRows, TakePart, View}
pub use Rattle.misp_model.specs.declared.change.Change.{Change}
pub use Rattle.misp_model.specs.declared.change.Change.TheVariants.{AddEvent, AddParts, Delete, DeleteEvent, DeleteReference, EditAttribute, EditEvent, EditObject, Publish}
pub use Rattle.misp_model.specs.declared.statement.ProposalDraftFields.{ProposalDraftFields as ProposalDraft}
pub use Rattle.misp_model.specs.declared.statement.SightingDraftFields.{SightingDraftFields as SightingDraft}
