-- The names that many proofs cite, passed on from one place. Declares nothing.
pub use Rattle.std.proofs.lemmas.Bool.{and_left, and_right, not-false, not-true, or_cases, or_from, or_left, or_parts, or_right, true_from_ne_false}
pub use Rattle.std.proofs.lemmas.List.{map-append}
pub use Rattle.std.proofs.lemmas.List.Folds.{list_any-append}
pub use Rattle.std.proofs.lemmas.Option.{IfSome_then}
pub use Rattle.std.proofs.lemmas.Simd.{map-map}
pub use Rattle.std.specs.List.{cons_option}
pub use Rattle.misp_ids.proofs.Same.{same_event-refl, same_event-sound, same_inst-refl, same_inst-sound, same_org-refl, same_org-sound}
pub use Rattle.misp_lists.proofs.Elements.{any_has, found, here, kept_has, map_from, of_part, there}
pub use Rattle.misp_lists.proofs.Lists.{alike, all-filter, all_same, any_agree, any_cut, any_implies, any_map, any_weaker, any_within, filter-map, filter_agree, filter_cut, filter_within, find_passes, find_within, head_of, tail_of}
pub use Rattle.misp_lists.proofs.Ordering.{any_in_order}
pub use Rattle.misp_lists.proofs.Orders.{less_is, less_or}
unfoldable pub use Rattle.misp_lists.proofs.Prelude.{IsDistinct, put}
pub use Rattle.misp_lists.proofs.Prelude.{all_implies, all_in_order, and_from, and_parts, bytes_eq-Decides, false_from_ne_true, false≢true, is_eq-slice_cmp, length-map, nat_tests, ordering_reverse}
unfoldable pub use Rattle.misp_groups.specs.Audience.{label_is_known}
unfoldable pub use Rattle.misp_groups.specs.Prelude.{put_group}
pub use Rattle.misp_elem.proofs.RowLists.{are_rows_push}
unfoldable pub use Rattle.misp_elem.proofs.Same.{of_event}
pub use Rattle.misp_elem.proofs.Same.{same_key-keeps, same_key-refl, same_key-sound}
pub use Rattle.misp_elem.specs.Contents.{IsContent}
unfoldable pub use Rattle.misp_elem.specs.Prelude.{same_elem, same_place}
pub use Rattle.misp_elem.specs.Prelude.{IsRow, IsStamp, IsUid, content_kind, label_kind}
pub use Rattle.misp_elem.specs.Row.{AreRows, fits, may_remove}
unfoldable pub use Rattle.misp_elem.specs.Spelling.{uid}
pub use Rattle.misp_model.proofs.Knowing.{event_kept, known_cut}
pub use Rattle.misp_model.proofs.KnownRows.{granted_known}
pub use Rattle.misp_model.proofs.Local.{event_is_closed}
pub use Rattle.misp_model.proofs.OneRow.{one_cell, part_is_table, pass_alike, row_cell_back, row_of_name}
unfoldable pub use Rattle.misp_model.proofs.Scenes.{cut_scene}
pub use Rattle.misp_model.proofs.Scenes.{is_live_cut}
pub use Rattle.misp_model.proofs.Spelled.{spells}
unfoldable pub use Rattle.misp_model.specs.Adding.{are_distinct, event_written, has_target, is_target_key, new_event, place_in, reference_key, reference_version, target_of}
pub use Rattle.misp_model.specs.Answers.{Other, Seen}
unfoldable pub use Rattle.misp_model.specs.Arrival.{counts, has_event, is_welcome}
unfoldable pub use Rattle.misp_model.specs.Edits.{given}
unfoldable pub use Rattle.misp_model.specs.Machine.{name_bytes, put_all, put_row}
pub use Rattle.misp_model.specs.Machine.{event_rows, seeing}
unfoldable pub use Rattle.misp_model.specs.Prelude.{above, acceptance, accepted, answer, as_deleted, ask_rules, at_attribute, at_tags, bars, brings, change_rules, change_writes, changed, changed_row, counted, cut_rows, edited}
unfoldable pub use Rattle.misp_model.specs.Prelude.{element_granted, event_key, event_of, first_of_all, first_rule, granted, granted_by, granted_somewhere, handed_in, has_copy, has_gone, has_home, has_open, holds_copy, in_order}
unfoldable pub use Rattle.misp_model.specs.Prelude.{is_accepted, is_deleted, is_for_new, is_gone, is_known, is_least, is_less, is_live, is_made_at, is_place_of, is_row_of, is_statement, is_taken, is_tombstone, is_too_long, judged_place}
unfoldable pub use Rattle.misp_model.specs.Prelude.{known, last_stamp, made, ok_answer, own_reference, own_row, parents, part_version, parts_written, row_is_open, same_event, same_inst, same_key, same_org, sees, spell, stands_before}
unfoldable pub use Rattle.misp_model.specs.Prelude.{tagged, takes_uuid, target_in_copy, untagged, up_to, uuid_at, uuids_of, written}
pub use Rattle.misp_model.specs.Prelude.{AllByRecursion, Attribute, Content, Draft, Element, ElementExists, ElemId, Event, EventExists, EventGone, EventId, Group, GroupId, GroupNotUsable, Inst, IsClosed, IsTable, Key, Label, NotGranted}
pub use Rattle.misp_model.specs.Prelude.{Object, ObjectAttribute, OrgId, Place, Proposal, ProposalBody, ProposalName, Reference, ReferenceDraft, Refused, Reply, Row, Rule, Saved, Scene, Sighting, Submission, Tag, Verdict, Version}
pub use Rattle.misp_model.specs.Prelude.{VisibleEvent, contains, list_all, list_any, ordering_then, slice_cmp}
unfoldable pub use Rattle.misp_model.specs.Shown.{creator, event_row, form_of, is_attribute_of, is_closed, is_object, is_plain_attribute, is_reference_of, is_shown, is_verdict_on, object_of, proposals_on, shown, shown_at, shown_attribute}
unfoldable pub use Rattle.misp_model.specs.Shown.{shown_object, sightings_on, sorted}
unfoldable pub use Rattle.misp_model.specs.Version.{has_path, is_handed_in, is_published, label_now}
unfoldable pub use Rattle.misp_model.specs.View.{chosen, in_one_cell}
