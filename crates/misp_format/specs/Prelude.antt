-- The definitions and types that many files name, passed on from one place. Declares nothing.
pub use Rattle.serde_json.specs.Data.{Data, Items, Members, array, boolean, item, member, no_items, no_members, number, object, put, string}
pub use Rattle.serde_json.specs.Read.{read}
pub use Rattle.serde_json.specs.View.{items_of, view}
pub use Rattle.serde_json.specs.Written.{compact_text}
pub use Rattle.std.specs.BTreeMap.{insert_entry}
pub use Rattle.misp_ids.specs.Uid.{made_uid}
pub use Rattle.misp_ids.specs.declared.refusal.Refusal.{Refusal}
pub use Rattle.misp_ids.specs.declared.stamp.TheConstants.{LAST_SECOND}
unfoldable pub use Rattle.misp_types.specs.Values.{kept_of}
pub use Rattle.misp_groups.specs.Group.{IsGroup, IsOrg, IsServer}
unfoldable pub use Rattle.misp_groups.specs.Prelude.{IsStrictlySortedBy}
pub use Rattle.misp_groups.specs.Prelude.{GroupId}
pub use Rattle.misp_groups.specs.declared.group.GroupFields.{GroupFields as Group}
pub use Rattle.misp_groups.specs.declared.group.GroupOrg.{GroupOrg}
pub use Rattle.misp_groups.specs.declared.group.GroupServer.{GroupServer}
pub use Rattle.misp_fields.specs.Fields.{list_of, member_of, number_of, optional_uuid_of, text_of, uuid_of}
pub use Rattle.misp_fields.specs.declared.need.Need.{Need}
unfoldable pub use Rattle.misp_elem.specs.Fields.{tags_size}
unfoldable pub use Rattle.misp_elem.specs.Prelude.{is_utf8, text_size}
pub use Rattle.misp_elem.specs.Prelude.{AllByRecursion, ElemId, EventId, Label, OrgId, Uid, label_kind, slice_cmp}
pub use Rattle.misp_elem.specs.declared.content.AttributeBody.{AttributeBody}
pub use Rattle.misp_elem.specs.declared.content.Content.{Content}
pub use Rattle.misp_elem.specs.declared.content.EventBody.{EventBody}
pub use Rattle.misp_elem.specs.declared.content.ObjectBody.{ObjectBody}
pub use Rattle.misp_elem.specs.declared.content.Tag.{Tag}
pub use Rattle.misp_elem.specs.declared.key.KeyForm.{KeyForm}
pub use Rattle.misp_elem.specs.declared.key.Place.{Place}
pub use Rattle.misp_elem.specs.declared.row.RowFields.{RowFields}
pub use Rattle.misp_elem.specs.declared.visible.VisibleAttribute.{VisibleAttribute}
pub use Rattle.misp_elem.specs.declared.visible.VisibleEvent.{VisibleEvent}
pub use Rattle.misp_elem.specs.declared.visible.VisibleObject.{VisibleObject}
pub use Rattle.misp_format.specs.Body.{Body}
unfoldable pub use Rattle.misp_format.specs.Elements.{attributes_at, objects_at, tags_at}
unfoldable pub use Rattle.misp_format.specs.Fields.{group_names}
pub use Rattle.misp_format.specs.Fields.{GroupNames, group_data, list_data, number_data, optional_uuid_data, uuid_data, with_group}
pub use Rattle.misp_format.specs.Gathered.{Gathered, none_from, with_part, with_reference}
unfoldable pub use Rattle.misp_format.specs.GroupText.{group_in_text}
pub use Rattle.misp_format.specs.Groups.{org_of, server_of}
unfoldable pub use Rattle.misp_format.specs.Json.{json_in}
pub use Rattle.misp_format.specs.Kinds.{category_of}
unfoldable pub use Rattle.misp_format.specs.Labels.{label_at}
pub use Rattle.misp_format.specs.Members.{body_of, path_text}
pub use Rattle.misp_format.specs.Path.{item_path, member_path}
pub use Rattle.misp_format.specs.Readers.{number_within, some_date_of, some_text_of}
pub use Rattle.misp_format.specs.Rows.{◌>>=◌, Reading, each, must_be}
unfoldable pub use Rattle.misp_format.specs.Tables.{event_at}
unfoldable pub use Rattle.misp_format.specs.Tokens.{put_member}
unfoldable pub use Rattle.misp_format.specs.WholeGroup.{whole_group_data}
pub use Rattle.misp_format.specs.WholeGroup.{uncarried}
unfoldable pub use Rattle.misp_format.specs.Written.{attribute_data, attribute_with, event_with, object_data, object_with, reference_data, tag_data}
pub use Rattle.misp_format.specs.Written.{attribute_members, body_data, event_members, object_members}
pub use Rattle.misp_format.specs.declared.fault.FormatFault.{FormatFault}
