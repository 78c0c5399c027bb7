-- What the tables bring fits a row.
use Rattle.std.proofs.Common.{◌≡◌, ℕ, ◌+◌, ◌-◌, ◌<◌, ◌≤◌, Bool, true, false, List, [], ◌∷◌, length, min, Option, Some, None, Ok, Err, refl, arith, lit<, le-leb, ap, ◌∙◌, ◌^◌, nat_lt, codes, IfSome, if◌then◌else◌}
use Rattle.std.specs.Prelude.{⊤}
use Rattle.misp_lists.proofs.Prelude.{bytes_eq-Decides, nat_tests, ok_keeps}
use Rattle.misp_types.specs.Values.{keeps, IsKept}
use Rattle.misp_elem.specs.Prelude.{IsAttributeBody, IsBetween, IsLabel, IsLabelBut, IsOptionalMoment, IsOptionalUid, IsText, earliest, is_kept, text_limit}
use Rattle.misp_elem.specs.declared.content.ReferenceBody.{ReferenceBody}
use Rattle.misp_elem.specs.Contents.{IsObjectBody, IsReferenceBody}
use Rattle.misp_elem.specs.Draft.{EventDraftFields, IsEventDraft, IsOptionalDate}
use Rattle.misp_format.specs.Prelude.{AttributeBody, Body, Content, FormatFault, Label, Need, ObjectBody, Reading, Uid, category_of, is_utf8, label_at, number_within, some_date_of, tags_size, text_size}
use Rattle.misp_format.specs.Kinds.{other_category}
use Rattle.misp_format.specs.Readers.{is_long}
use Rattle.misp_format.specs.Rows.{row}
use Rattle.misp_format.specs.Elements.{unless_long}
use Rattle.misp_format.specs.Entries.{FitTags}
use Rattle.misp_format.proofs.Kept.{row_keeps, some_date_ok, number_ok, label_owned, not_inherited, category_ok}

-- ---- the limit

limit_is_kept : (it : Body) (b : Bool) (need : Need) → ◌≡◌ {A = Reading ⊤} (if b then Err (FormatFault.BadField it.path need) else Ok tt) (Ok tt) → b ≡ false
limit_is_kept it true need h = absurd cc
limit_is_kept it false need h = refl

-- texts that passed the test
pub passed_limit : (it : Body) (bytes : ℕ) → unless_long it bytes ≡ Ok tt → bytes ≤ text_limit
passed_limit it bytes h =
    let short : nat_lt text_limit bytes ≡ false = limit_is_kept it (nat_lt text_limit bytes) Need.Short h in
    grind (arith, nat_tests)

-- the same, where their bytes were counted up to the greatest number
pub within_limit : (it : Body) (bytes n : ℕ) → unless_long it bytes ≡ Ok tt → bytes ≡ min n (2 ^ 64 - 1) → n ≤ text_limit
within_limit it bytes n h is =
    let small : bytes ≤ text_limit = passed_limit it bytes h in
    let large : text_limit < 2 ^ 64 - 1 = lit< tt in
    omega (arith, is)

-- a text of so many bytes in the room that is left
pub in_room : (least most : ℕ) (text : List ℕ) → is_utf8 text ≡ true → least ≤ length text → length text ≤ most → IsText least most text
in_room least most text utf8 long short = rw (le-leb least (length text) long, le-leb (length text) most short, utf8) refl

-- ---- rows of several elements

-- an identifier that there is has 128 bits
pub optional_fits : (found : Option Uid) → IfSome found (λ uuid. uuid.0 < 2 ^ 128) → IsOptionalUid found
optional_fits None h = tt
optional_fits (Some u) h = h

-- ---- attributes

pub category_fits : (it : Body) (category : ℕ) → row it (codes "category") category_of (Ok other_category) ≡ Ok category → IsBetween 0 15 category
category_fits it category h = row_keeps (IsBetween 0 15) it (codes "category") category_of (Ok other_category) category_ok (λ x is. cc) category h

pub kept_is_kept : (kind value : List ℕ) → IsKept kind value → is_kept kind value ≡ true
unfolding is_kept
kept_is_kept kind value h = ap (keeps value) h ∙ (bytes_eq-Decides value value).1 refl

kind_fits : (kind : List ℕ) → is_long 1 100 kind ≡ true → is_utf8 kind ≡ true → IsText 1 100 kind
kind_fits kind long utf8 = rw (long, utf8) refl

pub attribute_fits : (it : Body) (b : AttributeBody) → is_long 1 100 b.kind ≡ true
    → row it (codes "category") category_of (Ok other_category) ≡ Ok b.category
    → is_utf8 b.kind ≡ true → is_utf8 b.comment ≡ true → is_utf8 b.value ≡ true
    → IsKept b.kind b.value → FitTags b.tags → is_utf8 b.object_relation ≡ true
    → IsOptionalMoment 0 b.first_seen × IsOptionalMoment (earliest b.first_seen) b.last_seen
    → text_size (Content.Attribute b) ≤ text_limit → IsAttributeBody b
unfolding text_size
attribute_fits it b long category kind comment value kept tags relation seen short = (
  kind_fits b.kind long kind,
  (
    category_fits it b.category category,
    (
      tt,
      (
        in_room 0 _ b.comment comment (omega arith) (omega arith),
        (
          tt,
          (
            rw (in_room 0 (text_limit - length b.kind - length b.comment) b.value value (omega arith) (omega arith), kept_is_kept b.kind b.value kept) refl,
            (
              tags _ (omega arith) (omega arith),
              (in_room 0 _ b.object_relation relation (omega arith) (omega arith), seen),
            ),
          ),
        ),
      ),
    ),
  ),
)

-- ---- references

pub reference_fits : (b : ReferenceBody) → is_utf8 b.relationship_type ≡ true → is_utf8 b.comment ≡ true
    → text_size (Content.Reference b) ≤ text_limit → IsReferenceBody b
unfolding text_size
reference_fits b relationship comment short = (
  in_room 0 _ b.relationship_type relationship (omega arith) (omega arith),
  (in_room 0 _ b.comment comment (omega arith) (omega arith), tt),
)

-- ---- objects

pub object_fits : (b : ObjectBody) → 1 ≤ length b.name
    → is_utf8 b.name ≡ true → is_utf8 b.meta_category ≡ true → is_utf8 b.description ≡ true → is_utf8 b.comment ≡ true
    → IfSome b.template_uuid (λ uuid. uuid.0 < 2 ^ 128) → b.template_version < 2 ^ 64
    → text_size (Content.Object b) ≤ text_limit → IsObjectBody b
unfolding text_size
object_fits b some name meta_category description comment uuid version short = (
  in_room 1 _ b.name name some (omega arith),
  (
    in_room 0 _ b.meta_category meta_category (omega arith) (omega arith),
    (
      in_room 0 _ b.description description (omega arith) (omega arith),
      (
        in_room 0 _ b.comment comment (omega arith) (omega arith),
        (optional_fits b.template_uuid uuid, (version, tt)),
      ),
    ),
  ),
)

-- ---- events

pub date_fits : (it : Body) (date : Option (List ℕ)) → row it (codes "date") some_date_of (Ok None) ≡ Ok date → IsOptionalDate date
date_fits it date h = row_keeps IsOptionalDate it (codes "date") some_date_of (Ok None) some_date_ok (ok_keeps IsOptionalDate None tt) date h

threat_level_fits : (it : Body) (n : ℕ) → row it (codes "threat_level_id") (number_within 1 4) (Ok 4) ≡ Ok n → IsBetween 1 4 n
threat_level_fits it n h = row_keeps (IsBetween 1 4) it (codes "threat_level_id") (number_within 1 4) (Ok 4) (number_ok 1 4) (λ x is. cc) n h

analysis_fits : (it : Body) (n : ℕ) → row it (codes "analysis") (number_within 0 2) (Ok 0) ≡ Ok n → IsBetween 0 2 n
analysis_fits it n h = row_keeps (IsBetween 0 2) it (codes "analysis") (number_within 0 2) (Ok 0) (number_ok 0 2) (λ x is. cc) n h

-- the label of an event
pub event_label_fits : (it : Body) (label : Label) → label_at it 4 0 ≡ Ok label → IsLabel label → IsLabelBut (5 ∷ []) label
event_label_fits it label h fits = (not_inherited label (label_owned it label h), fits)

pub event_fits : (it : Body) (b : EventDraftFields) → 1 ≤ length b.info → is_utf8 b.info ≡ true
    → row it (codes "date") some_date_of (Ok None) ≡ Ok b.date
    → row it (codes "threat_level_id") (number_within 1 4) (Ok 4) ≡ Ok b.threat_level_id
    → row it (codes "analysis") (number_within 0 2) (Ok 0) ≡ Ok b.analysis
    → IfSome b.extends_uuid (λ uuid. uuid.0 < 2 ^ 128) → FitTags b.tags
    → length b.info + tags_size b.tags ≤ text_limit → IsEventDraft b
event_fits it b some info date threat_level analysis uuid tags short = (
  in_room 1 _ b.info info some (omega arith),
  (
    date_fits it b.date date,
    (
      threat_level_fits it b.threat_level_id threat_level,
      (analysis_fits it b.analysis analysis, (optional_fits b.extends_uuid uuid, tags _ (omega arith) (omega arith))),
    ),
  ),
)
