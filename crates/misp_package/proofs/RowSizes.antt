-- How many bytes spell a row; fewer than 2 ^ 32, so that their number can be written.
use Rattle.std.proofs.Common.{ℕ, ◌+◌, ◌*◌, ◌-◌, ◌<◌, ◌≤◌, ◌^◌, Bool, true, List, [], ◌∷◌, length, arith}
use Rattle.misp_elem.specs.Contents.{IsContent, text_size}
use Rattle.misp_elem.specs.Prelude.{IsRow, text_limit}
use Rattle.misp_elem.specs.Spelling.{content, flag, flags, key, label, optional_uid, row, stamp, tags, text, uid}
use Rattle.misp_elem.proofs.Contents.{content_may}
use Rattle.misp_elem.proofs.ShortTexts.{is_text-date}
use Rattle.misp_elem.proofs.Sizes.{most_of, size_within}
use Rattle.misp_model.specs.Prelude.{Content, Row}
use Rattle.misp_package.proofs.FieldSizes.{flag_size, flags_size, key_size, label_size, more_of, more_size, optional_size, pieces_size, stamp_size, text_size as text_is, uid_size}
use Rattle.misp_package.proofs.TagSizes.{all_tags_size}

-- ---- contents

content_size : (may : Bool) (c : Content) → IsContent may c → length (content c) ≤ 5 * text_size c + 1_400
unfolding text_size
content_size may (Content.Event b) h =
    omega (
      arith,
      pieces_size (text b.info) (text b.date ∷ (b.threat_level_id ∷ []) ∷ (b.analysis ∷ []) ∷ stamp b.publish_stamp ∷ optional_uid b.extends_uuid ∷ uid b.orgc.0 ∷ text b.orgc_name ∷ tags b.tags ∷ []),
      text_is b.info,
      text_is b.date,
      most_of 10 10 b.date (is_text-date b.date h.1.0),
      stamp_size b.publish_stamp,
      optional_size b.extends_uuid,
      uid_size b.orgc.0,
      text_is b.orgc_name,
      most_of 0 64 b.orgc_name h.1.1.1.1.1.1.1.0,
      all_tags_size (text_limit - length b.info) b.tags h.1.1.1.1.1.1.1.1.1,
    )
content_size may (Content.Object b) h =
    omega (
      arith,
      pieces_size (text b.name) (text b.meta_category ∷ text b.description ∷ text b.comment ∷ optional_uid b.template_uuid ∷ stamp b.template_version ∷ flag b.deleted ∷ []),
      text_is b.name,
      text_is b.meta_category,
      text_is b.description,
      text_is b.comment,
      optional_size b.template_uuid,
      stamp_size b.template_version,
      flag_size b.deleted,
    )
content_size may (Content.Attribute b) h =
    let more : List ℕ = more_of b in
    omega (
      arith,
      pieces_size (text b.kind) ((b.category ∷ []) ∷ flag b.to_ids ∷ text b.comment ∷ flag b.deleted ∷ text b.value ∷ tags b.tags ∷ more ∷ []),
      more_size b,
      text_is b.kind,
      flag_size b.to_ids,
      text_is b.comment,
      flag_size b.deleted,
      text_is b.value,
      all_tags_size (text_limit - length b.kind - length b.comment - length b.value) b.tags h.1.1.1.1.1.1.0.1,
    )
content_size may (Content.Reference b) h =
    omega (
      arith,
      pieces_size (text b.relationship_type) (text b.comment ∷ flag b.deleted ∷ []),
      text_is b.relationship_type,
      text_is b.comment,
      flag_size b.deleted,
    )
content_size may (Content.Proposal b) h =
    omega (
      arith,
      pieces_size (flag b.remove) (text b.by_name ∷ text b.kind ∷ (b.category ∷ []) ∷ flag b.to_ids ∷ text b.comment ∷ text b.value ∷ []),
      flag_size b.remove,
      text_is b.by_name,
      most_of 0 64 b.by_name h.1.0,
      text_is b.kind,
      flag_size b.to_ids,
      text_is b.comment,
      text_is b.value,
    )
content_size may (Content.Verdict b) h = omega (arith, flag_size b)
content_size may (Content.Sighting b) h =
    omega (
      arith,
      pieces_size (text b.by_name) ((b.kind ∷ []) ∷ stamp b.date ∷ text b.source ∷ []),
      text_is b.by_name,
      most_of 0 64 b.by_name h.0,
      stamp_size b.date,
      text_is b.source,
    )
content_size may Content.Gone h = omega arith

-- ---- rows

pub row_size : (r : Row) → IsRow r → length (row r) ≤ 83_580
row_size r h =
    let is : IsContent true r.content = content_may _ r.content h.1.1.1.1.1.1 in
    omega (
      arith,
      pieces_size (uid r.owner.0) (key r.key ∷ stamp r.stamp ∷ label r.label ∷ flags (r.held, r.carried) ∷ content r.content ∷ []),
      uid_size r.owner.0,
      key_size r.key h.1.0,
      stamp_size r.stamp,
      label_size r.label,
      flags_size r.held r.carried,
      content_size true r.content is,
      size_within true r.content is,
    )

pub row_short : (r : Row) → IsRow r → length (row r) < 2 ^ 32
row_short r h = omega (arith, row_size r h)
