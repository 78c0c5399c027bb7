-- Members that are not always there, and the texts of moments: they are ASCII, and are read back.
use Rattle.std.proofs.Common.{◌≡◌, ℕ, ◌+◌, ◌/◌, ◌%◌, ◌<◌, ◌≤◌, Bool, true, false, ◌&&◌, nat_lt, nat_cmp, List, [], ◌∷◌, ◌++◌, codes, Option, Some, None, option_and_then, Ok, IsUtf8, Ordering, Less, Equal, Greater, refl, ap, ◌∙◌, arith}
use Rattle.std.specs.Ordering.{match_ordering}
use Rattle.json.proofs.Printed.Utf8.{are_ascii, IsUtf8-are_ascii}
use Rattle.serde_json.specs.Find.{get_member}
use Rattle.misp_lists.proofs.Prelude.{nat_tests}
use Rattle.misp_dates.specs.declared.moment.TheConstants.{LAST_MICROSECOND}
use Rattle.misp_dates.specs.Dates.{days_in_month, in_two_digits, nth_day}
use Rattle.misp_dates.specs.Moments.{moment_text, read_moment}
use Rattle.misp_dates.proofs.Days.{nth_day-is}
use Rattle.misp_dates.proofs.Moments.{read_moment-moment_text}
use Rattle.misp_fields.specs.Fields.{moment_in, moment_of, present}
use Rattle.misp_elem.specs.Prelude.{IsOptionalMoment, earliest}
use Rattle.misp_format.specs.Prelude.{AttributeBody, Body, Data, Members, object, slice_cmp, string, text_of}
use Rattle.misp_format.specs.Elements.{ends_early}
use Rattle.misp_format.specs.Fields.{moment_if_known, text_if_any, with_some}
use Rattle.misp_format.specs.Rows.{row}
use Rattle.misp_format.specs.Written.{with_seen_and_part}

-- ---- the text of a moment

two_then : (n : ℕ) (rest : List ℕ) → n < 100 → are_ascii rest ≡ true → are_ascii (in_two_digits n ++ rest) ≡ true
two_then n rest h k =
    let tens : nat_lt (48 + n / 10) 128 ≡ true = grind (arith, nat_tests) in
    let ones : nat_lt (48 + n % 10) 128 ≡ true = grind (arith, nat_tests) in
    rw (tens, ones, k) refl

days_small : (y m d : ℕ) → d ≤ days_in_month y m → d < 100
days_small y m d h = grind arith

moment_ascii : (m : ℕ) → m ≤ LAST_MICROSECOND → are_ascii (moment_text m) ≡ true
unfolding moment_text
moment_ascii m h =
    let d = nth_day (m / 86_400_000_000) in
    let is = nth_day-is (m / 86_400_000_000) (omega arith) in
    let s = m / 1_000_000 % 86_400 in
    let f = m % 1_000_000 in
    let f3 = in_two_digits (f % 100) ++ codes "+00:00" in
    let f2 = in_two_digits (f / 100 % 100) ++ f3 in
    let f1 = codes "." ++ in_two_digits (f / 10_000) ++ f2 in
    let c3 = codes ":" ++ in_two_digits (s % 60) ++ f1 in
    let c2 = codes ":" ++ in_two_digits (s / 60 % 60) ++ c3 in
    let c1 = codes "T" ++ in_two_digits (s / 3_600) ++ c2 in
    let d3 = codes "-" ++ in_two_digits d.day ++ c1 in
    let d2 = codes "-" ++ in_two_digits d.month ++ d3 in
    let fraction : are_ascii f1 ≡ true = two_then (f / 10_000) f2 (omega arith) (two_then (f / 100 % 100) f3 (omega arith) (two_then (f % 100) (codes "+00:00") (omega arith) refl)) in
    let clock : are_ascii c1 ≡ true = two_then (s / 3_600) c2 (omega arith) (two_then (s / 60 % 60) c3 (omega arith) (two_then (s % 60) f1 (omega arith) fraction)) in
    let date : are_ascii d2 ≡ true = two_then d.month d3 (omega (arith, is.month)) (two_then d.day c1 (days_small d.year d.month d.day is.day.1) clock) in
    two_then (d.year / 100) (in_two_digits (d.year % 100) ++ d2) (omega (arith, is.year)) (two_then (d.year % 100) d2 (omega arith) date)

pub moment_utf8 : (m : ℕ) → m ≤ LAST_MICROSECOND → IsUtf8 (moment_text m)
moment_utf8 m h = IsUtf8-are_ascii (moment_text m) (moment_ascii m h)

moment_in_back : (s : List ℕ) (m : ℕ) → read_moment s ≡ Some m → moment_in s ≡ Ok (Some m)
unfolding read_moment
moment_in_back [] m h = absurd cc
moment_in_back (b ∷ bs) m h = rw h refl

moment_back : (m : ℕ) → m ≤ LAST_MICROSECOND → moment_of (string (moment_text m)) ≡ Ok (Some m)
moment_back m h = moment_in_back (moment_text m) m (read_moment-moment_text m h)

-- ---- members that are not always there

-- these are different texts
abbrev pub differ : Ordering → Bool
differ Less = true
differ Equal = false
differ Greater = true

-- the other names have what they have without it
past : (name k : List ℕ) (o : Option Data) (ms : Members) → differ (slice_cmp nat_cmp name k) ≡ true → get_member name (with_some k o ms) ≡ get_member name ms
past name k None ms h = refl
past name k (Some d) ms h = by (slice_cmp nat_cmp name k) h
  where
    by : (o : Ordering) → differ o ≡ true → match_ordering o (get_member name ms) (Some d) (get_member name ms) ≡ get_member name ms
    by Less g = refl
    by Equal g = absurd cc
    by Greater g = refl

pub past_all : (name : List ℕ) (b : AttributeBody) (ms : Members)
    → differ (slice_cmp nat_cmp name (codes "first_seen")) ≡ true → differ (slice_cmp nat_cmp name (codes "last_seen")) ≡ true
    → differ (slice_cmp nat_cmp name (codes "object_relation")) ≡ true
    → get_member name (with_seen_and_part b ms) ≡ get_member name ms
past_all name b ms first last relation =
    past name (codes "first_seen") (moment_if_known b.first_seen) _ first
    ∙ past name (codes "last_seen") (moment_if_known b.last_seen) _ last
    ∙ past name (codes "object_relation") (text_if_any b.object_relation) ms relation

module _ (path : List ℕ) (all ms : Members) where
  moment_row : (k : List ℕ) (least : ℕ) (m : Option ℕ) → slice_cmp nat_cmp k k ≡ Equal → get_member k all ≡ get_member k (with_some k (moment_if_known m) ms) → get_member k ms ≡ None
      → IsOptionalMoment least m → row (record { path = path; value = object all }) k moment_of (Ok None) ≡ Ok m
  moment_row k least None same found none h = rw (found, none) refl
  moment_row k least (Some m) same found none h = rw (found, same, moment_back m h.1) refl

  text_row : (k : List ℕ) (text : List ℕ) → slice_cmp nat_cmp k k ≡ Equal → get_member k all ≡ get_member k (with_some k (text_if_any text) ms) → get_member k ms ≡ None
      → row (record { path = path; value = object all }) k text_of (Ok []) ≡ Ok text
  text_row k [] same found none = rw (found, none) refl
  text_row k (b ∷ bs) same found none = rw (found, same) refl

-- ---- the members of an attribute, after others

module _ (path : List ℕ) (all ms : Members) (b : AttributeBody) where
  abbrev After : List ℕ → Type 0
  After k = get_member k all ≡ get_member k (with_seen_and_part b ms)

  pub first_row : After (codes "first_seen") → get_member (codes "first_seen") ms ≡ None → IsOptionalMoment 0 b.first_seen
      → row (record { path = path; value = object all }) (codes "first_seen") moment_of (Ok None) ≡ Ok b.first_seen
  first_row found none h =
      moment_row path all _ (codes "first_seen") 0 b.first_seen refl found
      (past (codes "first_seen") (codes "last_seen") (moment_if_known b.last_seen) _ refl ∙ past (codes "first_seen") (codes "object_relation") (text_if_any b.object_relation) ms refl ∙ none) h

  pub last_row : After (codes "last_seen") → get_member (codes "last_seen") ms ≡ None → IsOptionalMoment (earliest b.first_seen) b.last_seen
      → row (record { path = path; value = object all }) (codes "last_seen") moment_of (Ok None) ≡ Ok b.last_seen
  last_row found none h =
      moment_row path all _ (codes "last_seen") (earliest b.first_seen) b.last_seen refl
      (found ∙ past (codes "last_seen") (codes "first_seen") (moment_if_known b.first_seen) _ refl)
      (past (codes "last_seen") (codes "object_relation") (text_if_any b.object_relation) ms refl ∙ none) h

  pub part_row : After (codes "object_relation") → get_member (codes "object_relation") ms ≡ None
      → row (record { path = path; value = object all }) (codes "object_relation") text_of (Ok []) ≡ Ok b.object_relation
  part_row found none =
      text_row path all ms (codes "object_relation") b.object_relation refl
      (found ∙ past (codes "object_relation") (codes "first_seen") (moment_if_known b.first_seen) _ refl ∙ past (codes "object_relation") (codes "last_seen") (moment_if_known b.last_seen) _ refl)
      none

-- the last moment is not before the first
pub never_early : (first last : Option ℕ) → IsOptionalMoment (earliest first) last → ends_early first last ≡ false
never_early None last h = refl
never_early (Some first) None h = refl
never_early (Some first) (Some last) h = let le : first ≤ last = h.0 in grind (arith, nat_tests)
