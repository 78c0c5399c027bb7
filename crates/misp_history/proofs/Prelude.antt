-- The names that many proofs cite, passed on from one place. Declares nothing.
pub use Rattle.std.proofs.lemmas.Bool.{cases_Bool, cases_order, cond_both, or_from}
pub use Rattle.std.proofs.lemmas.List.Folds.{list_all-append}
pub use Rattle.misp_lists.proofs.All.{all_among, all_implied, all_kept, all_map, all_of, all_part, all_take, all_true}
pub use Rattle.misp_lists.proofs.Distinct.{apart_in_order, apart_part, distinct_from_map, distinct_last, distinct_map, distinct_none, distinct_part, distinct_weaker}
pub use Rattle.misp_lists.proofs.Elements.{all_has, filter_among, first_or, found_among, map_has}
pub use Rattle.misp_lists.proofs.Lists.{all-map, all_both, all_both_give, all_implies, all_of_kept, any_found, any_never, any_of_kept, any_of_part, filter_all, filter_never, map_same, map_twice, map_where, none_either}
pub use Rattle.misp_lists.proofs.Ordering.{Ordered, all_put, any_put, from_in_order, in_order_has, in_order_map, in_order_more, put_cut, put_front, put_map, put_swap}
unfoldable pub use Rattle.misp_ids.specs.Moments.{next_stamp}
pub use Rattle.misp_model.proofs.Judging.{none_refuses}
unfoldable pub use Rattle.misp_model.proofs.Plain_requests.{refuses}
unfoldable pub use Rattle.misp_model.proofs.Prelude.{IsDistinct, above, acceptance, accepted, answer, are_distinct, as_deleted, ask_rules, at_attribute, at_tags, bars, brings, change_rules, change_writes, changed, changed_row, counted}
unfoldable pub use Rattle.misp_model.proofs.Prelude.{counts, cut_rows, element_granted, event_key, event_of, event_written, first_of_all, first_rule, granted, granted_by, handed_in, has_copy, has_event, has_gone, has_home, has_open}
unfoldable pub use Rattle.misp_model.proofs.Prelude.{has_path, has_target, holds_copy, in_one_cell, in_order, is_accepted, is_for_new, is_gone, is_handed_in, is_known, is_least, is_less, is_live, is_made_at, is_published, is_row_of}
unfoldable pub use Rattle.misp_model.proofs.Prelude.{is_statement, is_taken, is_tombstone, is_welcome, judged_place, known, label_is_known, label_now, last_stamp, made, new_event, of_event, ok_answer, own_reference, own_row, parents}
unfoldable pub use Rattle.misp_model.proofs.Prelude.{part_version, parts_written, put, put_all, put_group, put_row, reference_key, reference_version, row_is_open, same_event, same_inst, same_key, same_org, shown, spell, stands_before}
unfoldable pub use Rattle.misp_model.proofs.Prelude.{takes_uuid, target_in_copy, target_of, untagged, uuid_at, written}
pub use Rattle.misp_model.proofs.Prelude.{AllByRecursion, AreRows, Content, Draft, ElemId, Element, EventId, Group, GroupId, Inst, IsClosed, IsContent, IsRow, IsTable, IsUid, Key, Label, OrgId, Other, Place, Proposal, ProposalBody}
pub use Rattle.misp_model.proofs.Prelude.{ProposalName, Reference, ReferenceDraft, Refused, Reply, Row, Rule, Saved, Scene, Seen, Sighting, Submission, Tag, Verdict, Version, VisibleEvent, alike, all-filter, all_in_order, all_same}
pub use Rattle.misp_model.proofs.Prelude.{and_from, and_left, and_parts, and_right, any_agree, any_cut, any_has, any_implies, any_in_order, any_map, any_weaker, any_within, cons_option, content_kind, event_is_closed, event_kept, event_rows}
pub use Rattle.misp_model.proofs.Prelude.{false_from_ne_true, false≢true, filter-map, filter_agree, filter_cut, filter_within, find_passes, fits, found, granted_known, here, kept_has, known_cut, label_kind, length-map, list_all, list_any}
pub use Rattle.misp_model.proofs.Prelude.{list_any-append, map-append, map-map, map_from, may_remove, nat_tests, not-false, not-true, of_part, one_cell, or_cases, or_left, or_parts, or_right, part_is_table, pass_alike, row_cell_back}
pub use Rattle.misp_model.proofs.Prelude.{row_of_name, same_event-refl, same_event-sound, same_inst-refl, same_inst-sound, same_key-keeps, same_key-refl, same_key-sound, same_org-refl, same_org-sound, there, true_from_ne_false}
unfoldable pub use Rattle.misp_model.specs.Answers.{concerning, newer}
pub use Rattle.misp_model.specs.Answers.{Listed, Taken}
unfoldable pub use Rattle.misp_model.specs.Machine.{hands_in, is_of_copy, let_go, published_row}
pub use Rattle.misp_model.specs.Machine.{unheld}
unfoldable pub use Rattle.misp_model.specs.Prelude.{as_published, at_publishing, body_seen, clashes, cut, has_tag, has_unusable, holds_home, holds_tombstone, is_at_limit, is_held_in, judge_rules, judge_writes, let_out, let_out_row}
unfoldable pub use Rattle.misp_model.specs.Prelude.{own_row_is, proposal_key, propose_rules, propose_writes, sight_rules, sight_writes, sighting_key, taken_rows, uuids_of}
pub use Rattle.misp_model.specs.Prelude.{EventDraft, scene_as}
unfoldable pub use Rattle.misp_model.specs.Version.{is_event_of}
pub use Rattle.misp_model.specs.Version.{Came, Handed_in, Published, Written}
pub use Rattle.misp_model.specs.declared.ask.Ask.{Ask}
pub use Rattle.misp_model.specs.declared.ask.Ask.TheVariants.{Groups, Index, Judge, Propose, Search, Sight, SyncEvents, SyncGroups, SyncManifest, SyncPart, SyncRows, TakePart, View}
pub use Rattle.misp_model.specs.declared.change.Change.{Change}
pub use Rattle.misp_model.specs.declared.change.Change.TheVariants.{AddEvent, AddParts, Delete, DeleteEvent, EditAttribute, EditEvent, Publish}
pub use Rattle.misp_history.proofs.Growing.{cell_back, newest_more}
pub use Rattle.misp_history.proofs.Putting.{before_on, before_one_way}
pub use Rattle.misp_history.proofs.Tables.{in_order_rows, tables_cut}
unfoldable pub use Rattle.misp_history.specs.Acts.{asked, known_at, run, scene, step, synced, synced_groups, with_groups}
pub use Rattle.misp_history.specs.Acts.{Act, Administers, Asks, Caller, Command, Misfits, Net, Nothing, Syncs, Takes_groups, World}
unfoldable pub use Rattle.misp_history.specs.History.{content_now, exportable, fresh_row, has_come, is_newest, newest, newest_from, published_after, released, row_of, same_cell, tables, without_local_tags}
unfoldable pub use Rattle.misp_history.specs.Merging.{arrived, arrives, arriving_rows, bringing, brought, count_bringing, counts_row, handed, has_event_row, is_newer_row, is_own, is_welcome_row, merged, merged_by, others_with, packages}
unfoldable pub use Rattle.misp_history.specs.Merging.{passing_rows, rows_taken}
pub use Rattle.misp_history.specs.Merging.{IsPackageOf, fresh, more_where, onto}
unfoldable pub use Rattle.misp_history.specs.Passing.{element_passes, is_sent_owner, known_there, lets_out, moved, passes, passes_at, passes_by, passing, sent_copy}
pub use Rattle.misp_history.specs.Passing.{Route}
