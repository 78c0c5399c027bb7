-- The definitions and types that many files name, passed on from one place. Declares nothing.
pub use Rattle.std.specs.Int.{to_be_bytes}
unfoldable pub use Rattle.std.specs.Str.{is_utf8}
pub use Rattle.misp_ids.specs.Labels.{label_kind}
unfoldable pub use Rattle.misp_ids.specs.Moments.{last_stamp}
pub use Rattle.misp_ids.specs.Moments.{Stamp}
unfoldable pub use Rattle.misp_ids.specs.Same.{same_elem, same_event, same_inst, same_org}
pub use Rattle.misp_ids.specs.Same.{Inst}
pub use Rattle.misp_ids.specs.Uid.{IsUid}
pub use Rattle.misp_ids.specs.declared.label.Label.{Label}
pub use Rattle.misp_ids.specs.declared.uid.ElemId.{ElemId}
pub use Rattle.misp_ids.specs.declared.uid.EventId.{EventId}
pub use Rattle.misp_ids.specs.declared.uid.OrgId.{OrgId}
pub use Rattle.misp_ids.specs.declared.uid.Uid.{Uid}
unfoldable pub use Rattle.misp_lists.specs.Order.{is_less}
pub use Rattle.misp_lists.specs.Prelude.{AllByRecursion, list_all, list_any, slice_cmp}
unfoldable pub use Rattle.misp_types.specs.Values.{is_kept}
unfoldable pub use Rattle.misp_elem.specs.Contents.{text_size}
pub use Rattle.misp_elem.specs.Contents.{IsAttributeBody, content_kind}
pub use Rattle.misp_elem.specs.Draft.{ReferenceDraftFields as ReferenceDraft, SubmissionFields as Submission}
pub use Rattle.misp_elem.specs.Fields.{AreTags, AreTagsAfter, IsBetween, IsMoment, IsOptionalMoment, IsOptionalUid, IsStamp, IsTag, IsTagName, IsText, IsValue, earliest, is_after, is_text, text_limit}
pub use Rattle.misp_elem.specs.Key.{IsKey, IsPlace, IsPlaceBut, of_proposal, place_kind}
unfoldable pub use Rattle.misp_elem.specs.KeyFacts.{uuid_at}
unfoldable pub use Rattle.misp_elem.specs.KeyReading.{key_at}
unfoldable pub use Rattle.misp_elem.specs.Parents.{event_key, event_of, parents}
unfoldable pub use Rattle.misp_elem.specs.Reading.{between_at, stamp_at}
pub use Rattle.misp_elem.specs.Reading.{◌>>=◌, Reading, byte_at, event_at, org_at}
pub use Rattle.misp_elem.specs.Row.{IsContentOf, IsLabel, IsLabelBut, IsRow, barred_labels}
unfoldable pub use Rattle.misp_elem.specs.RowReading.{row_of}
unfoldable pub use Rattle.misp_elem.specs.SameKey.{same_key, same_place}
pub use Rattle.misp_elem.specs.Spelling.{inst_name, key, proposal_name}
pub use Rattle.misp_elem.specs.declared.content.Content.{Content}
pub use Rattle.misp_elem.specs.declared.content.Tag.{Tag}
pub use Rattle.misp_elem.specs.declared.key.KeyForm.{KeyForm}
pub use Rattle.misp_elem.specs.declared.key.KeyForm.TheVariants.{Element, Proposal, Reference, Sighting, Verdict}
pub use Rattle.misp_elem.specs.declared.key.Place.{Place}
pub use Rattle.misp_elem.specs.declared.key.Place.TheVariants.{Attribute, Event, Object, ObjectAttribute}
pub use Rattle.misp_elem.specs.declared.key.ProposalName.{ProposalName}
pub use Rattle.misp_elem.specs.declared.row.RowFields.{RowFields}
