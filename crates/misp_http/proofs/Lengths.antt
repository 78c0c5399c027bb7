-- Heads of too many headers, and how long a body can be.
use Rattle.std.proofs.Common.{◌≡◌, ◌<◌, ◌≤◌, ℕ, Bool, true, false, List, [], ◌∷◌, length, take, drop, Result, Ok, Err, append-nil, refl, arith}
use Rattle.std.specs.Prelude.{nat_lt, if◌then◌else◌, codes}
use Rattle.std.specs.List.{AllByRecursion}
use Rattle.std.proofs.lemmas.Bool.Decides.{nat_tests}
use Rattle.std.proofs.lemmas.List.Elements.{All-weaker, recursion_from_All}
use Rattle.std.proofs.lemmas.List.{length-map}
use Rattle.httparse.specs.Grammar.{RequestHead}
use Rattle.httparse.specs.declared.spans.HeaderSpan.{HeaderSpan}
use Rattle.httparse.specs.Spans.{IsHeaderWithin, IsSectionWithin, IsRequestOf, RequestOverflows, name_and_value}
use Rattle.httparse.specs.Outcome.{IfComplete}
use Rattle.httparse.specs.declared.Error.{Error}
use Rattle.httparse.specs.declared.Status.{Status}
use Rattle.httparse.specs.declared.Status.TheVariants.{Complete}
use Rattle.httparse.specs.declared.spans.RequestSpans.{RequestSpans}
use Rattle.misp_http.specs.declared.fault.HeadFault.TheVariants.{ManyHeaders, LongBody}
use Rattle.misp_http.specs.Limits.{header_limit, body_limit}
use Rattle.misp_http.specs.Headers.{Header, BodyLength, headers_of, content_length, within_limit, unless_encoded, values_of, body_length}
use Rattle.misp_http.specs.Reading.{HasBadHead}

pub too_many : (h : RequestHead) → header_limit < length h.fields → body_length (headers_of h) ≡ Err ManyHeaders
unfolding body_length
too_many h many =
    let all : length (headers_of h) ≡ length h.fields = length-map h.fields name_and_value in
    let test : nat_lt header_limit (length (headers_of h)) ≡ true = grind (arith, nat_tests, all, many) in
    rw test refl

pub all_within : (bytes : List ℕ) (headers : List HeaderSpan) (len count : ℕ) → IsSectionWithin bytes headers len count → AllByRecursion (IsHeaderWithin (length bytes)) (take count headers)
all_within bytes headers len count within =
    recursion_from_All _ _ (All-weaker (IsHeaderWithin len) (IsHeaderWithin (length bytes))
    (λ h inside. ((inside.0.0, omega (arith, inside.0.1, within.len_fits)), (inside.1.0, omega (arith, inside.1.1, within.len_fits)))) _ within.headers_fit)

-- a head that has more headers than there may be, as the parser answers it
pub many_headers : (bytes : List ℕ) (spans : List HeaderSpan) (r : Result (Status RequestSpans) Error) (s : Status RequestSpans) (a : RequestSpans) → RequestOverflows header_limit bytes → r ≡ Ok s → s ≡ Complete a → IfComplete r (IsRequestOf bytes spans) → HasBadHead bytes ManyHeaders
many_headers bytes spans r s a over r_is s_is whole =
    let head : IsRequestOf bytes spans a = rw (r_is, s_is) at whole in
    (head.0, (drop a.len bytes, head.1.reads), too_many head.0 (over [] head.0 (drop a.len bytes) (rw (append-nil bytes) head.1.reads)))

-- ---- the length of a body is within its limit

tested_bound : (b : Bool) (m n : ℕ) → nat_lt body_limit m ≡ b → (if b then Err LongBody else Ok m) ≡ Ok n → n ≤ body_limit
tested_bound true m n test is = absurd cc
tested_bound false m n test is = let same : m ≡ n = cc in grind (arith, nat_tests, test, same)

within_limit_bound : (known : BodyLength) (n : ℕ) → within_limit known ≡ Ok n → n ≤ body_limit
within_limit_bound (Ok m) n is = tested_bound (nat_lt body_limit m) m n refl is
within_limit_bound (Err fault) n is = absurd cc

unless_encoded_bound : (encoded : List (List ℕ)) (known : BodyLength) (n : ℕ) → unless_encoded encoded (within_limit known) ≡ Ok n → n ≤ body_limit
unless_encoded_bound [] known n is = within_limit_bound known n is
unless_encoded_bound (e ∷ more) known n is = absurd cc

whole_bound : (b : Bool) (encoded : List (List ℕ)) (known : BodyLength) (n : ℕ) → (if b then Err ManyHeaders else unless_encoded encoded (within_limit known)) ≡ Ok n → n ≤ body_limit
whole_bound true encoded known n is = absurd cc
whole_bound false encoded known n is = unless_encoded_bound encoded known n is

pub body_length_bound : (fields : List Header) (n : ℕ) → body_length fields ≡ Ok n → n ≤ body_limit
unfolding body_length
body_length_bound fields n is = whole_bound (nat_lt header_limit (length fields)) (values_of (codes "transfer-encoding") fields) (content_length (values_of (codes "content-length") fields)) n is
