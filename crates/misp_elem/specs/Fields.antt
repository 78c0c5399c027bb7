-- What the fields of a row are.
use Rattle.std.specs.Prelude.{◌≡◌, ℕ, ◌<◌, ◌≤◌, ◌^◌, ◌&&◌, slice_index, slice_get, ◌-◌, List, [], ◌∷◌, length, Bool, true, Option, Some, None, nat_le, sum_by, min}
use Rattle.std.specs.Str.{is_utf8}
use Rattle.std.specs.Ordering.{nat_cmp, is_lt}
use Rattle.std.specs.Cmp.Lexicographic.{slice_cmp}
use Rattle.misp_ids.specs.declared.uid.Uid.{Uid}
use Rattle.misp_ids.specs.declared.stamp.TheConstants.{LAST_SECOND}
use Rattle.misp_dates.specs.declared.moment.TheConstants.{LAST_MICROSECOND}
use Rattle.misp_types.specs.Values.{is_kept}
use Rattle.misp_ids.specs.Uid.{IsUid}
use Rattle.misp_elem.specs.declared.content.Tag.{Tag}
unfoldable pub use Rattle.misp_dates.specs.Dates.{is_date}

-- bytes are below 256
abbrev pub IsBytes : List ℕ → Type 0
IsBytes bytes = (i : ℕ) → slice_index bytes i < 256

-- between so many and so many bytes of text
abbrev pub is_text : ℕ → ℕ → List ℕ → Bool
is_text least most text = nat_le least (length text) && nat_le (length text) most && is_utf8 text

abbrev pub IsText : ℕ → ℕ → List ℕ → Type 0
IsText least most text = is_text least most text ≡ true

-- the most bytes that the texts of one element have together
abbrev pub text_limit : ℕ
text_limit = 16384

abbrev pub IsStamp : ℕ → Type 0
IsStamp s = s ≤ LAST_SECOND

abbrev pub IsBetween : ℕ → ℕ → ℕ → Type 0
IsBetween least most n = (nat_le least n && nat_le n most) ≡ true

abbrev pub IsOptionalUid : Option Uid → Type 0
IsOptionalUid None = Unit {0}
IsOptionalUid (Some u) = IsUid u

-- ---- dates and moments

-- a day of the calendar as `YYYY-MM-DD`
abbrev pub IsDate : List ℕ → Type 0
IsDate text = is_date text ≡ true

-- a moment that is no earlier than this
abbrev pub IsMoment : ℕ → ℕ → Type 0
IsMoment least m = (least ≤ m) × (m ≤ LAST_MICROSECOND)

abbrev pub IsOptionalMoment : ℕ → Option ℕ → Type 0
IsOptionalMoment least None = Unit {0}
IsOptionalMoment least (Some m) = IsMoment least m

-- the earliest that a later moment may be, where the one before it is known or not
abbrev pub earliest : Option ℕ → ℕ
earliest None = 0
earliest (Some m) = m

-- ---- values of attributes

-- a value of this type that is kept as it is, with no more bytes than there is room for
abbrev pub is_value : ℕ → List ℕ → List ℕ → Bool
is_value room kind value = is_text 0 room value && is_kept kind value

abbrev pub IsValue : ℕ → List ℕ → List ℕ → Type 0
IsValue room kind value = is_value room kind value ≡ true

-- ---- tags

-- a later name in the order of bytes
abbrev pub is_after : List ℕ → List ℕ → Bool
is_after before name = is_lt (slice_cmp nat_cmp before name)

-- a name of 1 to 255 bytes, of no more than there is room for, after this one
abbrev pub IsTagName : ℕ → List ℕ → List ℕ → Type 0
IsTagName room before name = (is_text 1 (min 255 room) name && is_after before name) ≡ true

-- three bytes
abbrev pub IsColour : List ℕ → Type 0
IsColour colour = (length colour ≡ 3) × IsBytes colour

abbrev pub IsTag : ℕ → List ℕ → Tag → Type 0
IsTag room before t = IsTagName room before t.name × (IsColour t.colour × Unit {0})

-- in strictly ascending order of names, all after this one, with no more bytes together than there
-- is room for
abbrev pub AreTagsAfter : ℕ → List ℕ → List Tag → Type 0
AreTagsAfter room before [] = Unit {0}
AreTagsAfter room before (t ∷ ts) =
    IsTag room before t × AreTagsAfter (room - length t.name) t.name ts

abbrev pub AreTags : ℕ → List Tag → Type 0
AreTags room ts = (length ts < 2 ^ 32) × AreTagsAfter room [] ts

-- the names of tags together
unfoldable pub tags_size : List Tag → ℕ
tags_size tags = sum_by (λ (t : Tag). length t.name) tags

abbrev pub name_or_nothing : Option Tag → List ℕ
name_or_nothing None = []
name_or_nothing (Some t) = t.name

-- the name of the last tag, or nothing where there is none
abbrev pub last_name : List Tag → List ℕ
last_name ts = name_or_nothing (slice_get ts (length ts - 1))
