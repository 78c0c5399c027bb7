-- A reply that is written is read back.
use Rattle.std.proofs.Common.{◌≡◌, ◌+◌, ◌^◌, ◌/◌, ◌%◌, ◌<◌, ◌≤◌, ◌==◌, ℕ, Bool, true, false, List, [], ◌∷◌, ◌++◌, length, reverse, map, codes, decimal, Some, Ok, refl, sym, ap, ◌∙◌, subst, inl, inr, arith, append_assoc, length-append}
use Rattle.std.specs.Prelude.{All, nat_lt}
use Rattle.std.specs.List.{AllByRecursion, list_all, list_any}
use Rattle.std.specs.Char.{is_ascii_digit}
use Rattle.std.specs.Int.{IsInRange}
use Rattle.std.specs.Str.Parse.{AllDigits, IsNumeral, digits_value}
use Rattle.std.proofs.lemmas.Bool.{cases_Bool, and_parts, and_from, eqb-true}
use Rattle.std.proofs.lemmas.Bool.Decides.{nat_tests}
use Rattle.std.proofs.lemmas.Fmt.{decimal_is_IsNumeral, decimal_step, decimal_digit, length-decimal-le}
use Rattle.std.proofs.lemmas.Str.Parse.{digit_from_value}
use Rattle.std.proofs.lemmas.List.Sums.{AllPass-from_list_all}
use Rattle.std.proofs.lemmas.List.Elements.{All-cons, All-nil, All-head}
use Rattle.httparse.specs.Grammar.{crlf, AllPass, is_ows, is_value_byte, is_token_byte, skip_ows, trim_ows, Field, IsField, field_value, print_section, ResponseHead, IsResponseHead, print_response}
use Rattle.httparse.proofs.OnLiterals.{httparse_on_literals}
use Rattle.httparse.proofs.GrammarLemmas.{print_response-append}
use Rattle.httparse.proofs.TrimLemmas.{AllPass-reverse, trim_ows_space}
use Rattle.misp_http.specs.declared.kind.BodyKind.{BodyKind}
use Rattle.misp_http.specs.declared.kind.BodyKind.TheVariants.{Json, Octets}
use Rattle.misp_http.specs.Headers.{values_of, is_length, length_in, only_content_length}
use Rattle.misp_http.specs.Reply.{IsReply}
use Rattle.misp_http.specs.Texts.{reason_of, status_line, content_type_line, content_length_line, connection_line, reply_text, reply_statuses, IsReplyStatus}

-- ---- digits

module _ (n : ℕ) (small : n < 2 ^ 63) where
  numeral : IsNumeral 10 (decimal n) × (digits_value 10 (decimal n) ≡ n)
  numeral = decimal_is_IsNumeral n (omega arith)

  all_digits : (ds : List ℕ) → AllDigits 10 ds → list_all is_ascii_digit ds ≡ true
  all_digits [] all = refl
  all_digits (d ∷ ds) all = and_from _ _ (one d (digit_from_value d all.0)) (all_digits ds all.1)
    where
      one : (d : ℕ) → IsInRange 48 57 d → is_ascii_digit d ≡ true
      one d range = grind (arith, nat_tests)

  pub digits : list_all is_ascii_digit (decimal n) ≡ true
  digits = all_digits (decimal n) numeral.0.1

  no_space : (ds : List ℕ) → list_all is_ascii_digit ds ≡ true → skip_ows ds ≡ ds
  no_space [] all = refl
  no_space (d ∷ ds) all =
      let digit = (and_parts (is_ascii_digit d) _ all).0 in
      let none : is_ows d ≡ false = not_space d digit in
      rw none refl
    where
      not_space : (d : ℕ) → is_ascii_digit d ≡ true → is_ows d ≡ false
      not_space d digit = grind (arith, nat_tests)

  value_byte : (ds : List ℕ) → list_all is_ascii_digit ds ≡ true → list_all is_value_byte ds ≡ true
  value_byte [] all = refl
  value_byte (d ∷ ds) all =
      let parts = and_parts (is_ascii_digit d) _ all in
      and_from _ _ (visible d parts.0) (value_byte ds parts.1)
    where
      visible : (d : ℕ) → is_ascii_digit d ≡ true → is_value_byte d ≡ true
      visible d digit = grind (arith, nat_tests)

  few : length (decimal n) < 20
  few = omega (arith, length-decimal-le 19 n (omega arith) (omega arith) (omega arith))

  pub number : length_in (decimal n) ≡ Ok n
  number =
      let test : is_length (decimal n) ≡ true = and_from _ _ (and_from _ _ (nonempty numeral.0.0) (short few)) digits in
      rw (test, numeral.1) refl
    where
      nonempty : 0 < length (decimal n) → nat_lt 0 (length (decimal n)) ≡ true
      nonempty some = grind (arith, nat_tests)

      short : length (decimal n) < 20 → nat_lt (length (decimal n)) 20 ≡ true
      short less = grind (arith, nat_tests)

  -- a value of digits after a space
  pub value : trim_ows (32 ∷ decimal n) ≡ decimal n
  value = trim_ows_space (decimal n) (no_space (decimal n) digits)
      (no_space_back (reverse (decimal n)) (AllPass-reverse is_ascii_digit (decimal n) (AllPass-from_list_all is_ascii_digit (decimal n) digits)))
    where
      no_space_back : (ds : List ℕ) → AllPass is_ascii_digit ds → skip_ows ds ≡ ds
      no_space_back [] all = refl
      no_space_back (d ∷ ds) all =
          let none : is_ows d ≡ false = not_space d (All-head (λ x. is_ascii_digit x ≡ true) d ds all) in
          rw none refl
        where
          not_space : (d : ℕ) → is_ascii_digit d ≡ true → is_ows d ≡ false
          not_space d digit = grind (arith, nat_tests)

-- ---- the fields of a reply

content_type_field : BodyKind → Field
content_type_field Json = record { name = codes "Content-Type"; raw = codes " application/json"; end = crlf }
content_type_field Octets = record { name = codes "Content-Type"; raw = codes " application/octet-stream"; end = crlf }

abbrev pub content_length_field : ℕ → Field
content_length_field n = record { name = codes "Content-Length"; raw = 32 ∷ decimal n; end = crlf }

abbrev pub connection_fields : Bool → List Field
connection_fields true = record { name = codes "Connection"; raw = codes " close"; end = crlf } ∷ []
connection_fields false = []

pub passes : (test : ℕ → Bool) (bytes : List ℕ) → list_all test bytes ≡ true → AllPass test bytes
passes test bytes all = AllPass-from_list_all test bytes all

content_type_is_field : (kind : BodyKind) → IsField (content_type_field kind)
unfolding content_type_field httparse_on_literals
content_type_is_field Json = record { name = (omega arith, passes is_token_byte (codes "Content-Type") refl); raw = passes is_value_byte (codes " application/json") refl }
content_type_is_field Octets = record { name = (omega arith, passes is_token_byte (codes "Content-Type") refl); raw = passes is_value_byte (codes " application/octet-stream") refl }

pub content_length_is_field : (n : ℕ) → n < 2 ^ 63 → IsField (content_length_field n)
unfolding httparse_on_literals
content_length_is_field n small = record {
  name = (omega arith, passes is_token_byte (codes "Content-Length") refl);
  raw = passes is_value_byte (32 ∷ decimal n) (and_from _ _ refl (value_byte n small (decimal n) (digits n small)));
}

pub connection_are_fields : (close : Bool) → All IsField (connection_fields close)
unfolding httparse_on_literals
connection_are_fields true = All-cons IsField _ [] (record { name = (omega arith, passes is_token_byte (codes "Connection") refl); raw = passes is_value_byte (codes " close") refl }) (All-nil IsField)
connection_are_fields false = All-nil IsField

abbrev fields : BodyKind → ℕ → Bool → List Field
fields kind n close = content_type_field kind ∷ content_length_field n ∷ connection_fields close

are_fields : (kind : BodyKind) (n : ℕ) (close : Bool) → n < 2 ^ 63 → All IsField (fields kind n close)
are_fields kind n close small =
    All-cons IsField (content_type_field kind) (content_length_field n ∷ connection_fields close) (content_type_is_field kind) (All-cons IsField (content_length_field n) (connection_fields close) (content_length_is_field n small) (connection_are_fields close))

-- the length that they say
length_is : (kind : BodyKind) (n : ℕ) (close : Bool) → n < 2 ^ 63 → only_content_length (map (λ f. (f.name, field_value f)) (fields kind n close)) ≡ Some n
unfolding only_content_length values_of content_type_field
length_is Json n true small = rw (value n small, number n small) refl
length_is Json n false small = rw (value n small, number n small) refl
length_is Octets n true small = rw (value n small, number n small) refl
length_is Octets n false small = rw (value n small, number n small) refl

-- ---- the head

abbrev head : List ℕ → List ℕ → BodyKind → ℕ → Bool → ResponseHead
head numeral phrase kind n close = record {
  blank = [];
  minor = 1;
  digits = numeral;
  reason = Some phrase;
  line_end = crlf;
  fields = fields kind n close;
  last = crlf;
}

is_head : (numeral phrase : List ℕ) (kind : BodyKind) (n : ℕ) (close : Bool) → n < 2 ^ 63 → length numeral ≡ 3 → list_all is_ascii_digit numeral ≡ true → list_all is_value_byte phrase ≡ true → IsResponseHead (head numeral phrase kind n close)
is_head numeral phrase kind n close small three all visible = record {
  minor = omega arith;
  digits = (three, passes is_ascii_digit numeral all);
  reason = passes is_value_byte phrase visible;
  fields = are_fields kind n close small;
}

regroup : (v d s p e k c n l b : List ℕ) → v ++ d ++ s ++ p ++ e ++ k ++ (c ++ n ++ e) ++ l ++ e ++ b ≡ v ++ (d ++ (s ++ (p ++ (e ++ (k ++ (c ++ (n ++ (e ++ (l ++ (e ++ b))))))))))
regroup v d s p e k c n l b = simp append_assoc

-- the parts of a reply, from the left
abbrev parts : ℕ → BodyKind → ℕ → Bool → List ℕ → List ℕ
parts status kind n close body =
    codes "HTTP/1.1 " ++ (decimal status ++ (codes " " ++ (reason_of status ++ (codes "\r\n" ++ (content_type_line kind
    ++ (codes "Content-Length: " ++ (decimal n ++ (codes "\r\n" ++ (connection_line close ++ (codes "\r\n" ++ body))))))))))

pub after_digits : (d e x b : List ℕ) → d ++ e ++ x ++ e ++ b ≡ d ++ (e ++ (x ++ (e ++ b)))
after_digits d e x b = simp append_assoc

section_parts : (kind : BodyKind) (n : ℕ) (close : Bool) (body : List ℕ) → print_section (fields kind n close) crlf ++ body ≡ content_type_line kind ++ (codes "Content-Length: " ++ (decimal n ++ (codes "\r\n" ++ (connection_line close ++ (codes "\r\n" ++ body)))))
unfolding content_type_field
section_parts Json n true body = ap (λ rest. codes "Content-Type: application/json\r\nContent-Length: " ++ rest) (after_digits (decimal n) (codes "\r\n") (codes "Connection: close\r\n") body)
section_parts Json n false body = ap (λ rest. codes "Content-Type: application/json\r\nContent-Length: " ++ rest) (after_digits (decimal n) (codes "\r\n") [] body)
section_parts Octets n true body = ap (λ rest. codes "Content-Type: application/octet-stream\r\nContent-Length: " ++ rest) (after_digits (decimal n) (codes "\r\n") (codes "Connection: close\r\n") body)
section_parts Octets n false body = ap (λ rest. codes "Content-Type: application/octet-stream\r\nContent-Length: " ++ rest) (after_digits (decimal n) (codes "\r\n") [] body)

printed_parts : (status : ℕ) (kind : BodyKind) (n : ℕ) (close : Bool) (body : List ℕ) → print_response (head (decimal status) (reason_of status) kind n close) ++ body ≡ parts status kind n close body
printed_parts status kind n close body =
    print_response-append (head (decimal status) (reason_of status) kind n close) body
    ∙ ap (λ rest. codes "HTTP/1.1 " ++ (decimal status ++ (codes " " ++ (reason_of status ++ (codes "\r\n" ++ rest))))) (section_parts kind n close body)

written_parts : (status : ℕ) (kind : BodyKind) (close : Bool) (body : List ℕ) → reply_text status kind body close ≡ parts status kind (length body) close body
unfolding reply_text
written_parts status kind close body = regroup (codes "HTTP/1.1 ") (decimal status) (codes " ") (reason_of status) (codes "\r\n") (content_type_line kind) (codes "Content-Length: ") (decimal (length body)) (connection_line close) body

-- ---- each status

one_status : (status : ℕ) (kind : BodyKind) (body : List ℕ) (close : Bool) → length body < 2 ^ 63 → length (decimal status) ≡ 3 → list_all is_ascii_digit (decimal status) ≡ true → digits_value 10 (decimal status) ≡ status → list_all is_value_byte (reason_of status) ≡ true → IsReply (reply_text status kind body close) status body
one_status status kind body close small three all worth visible =
    let n = length body in
    record {
      head = head (decimal status) (reason_of status) kind n close;
      begins = record {
        reads = (
          is_head (decimal status) (reason_of status) kind n close small three all visible,
          written_parts status kind close body ∙ sym (printed_parts status kind n close body),
        );
        few = few_fields close;
      };
      size = length_is kind n close small;
      status_is = sym worth;
    }
  where
    few_fields : (close : Bool) → length (fields kind (length body) close) ≤ 64
    few_fields true = omega arith
    few_fields false = omega arith

chosen : (P : ℕ → Type 0) (known : List ℕ) (status : ℕ) → AllByRecursion P known → list_any (λ k. k == status) known ≡ true → P status
chosen P [] status all is = absurd cc
chosen P (k ∷ known) status all is = elim (cases_Bool (k == status)) [
  | inl here ↦ subst P (eqb-true k status here) all.0
  | inr not ↦ chosen P known status all.1 (rw not at is)
]

-- a status of three digits, whose phrase is text
abbrev IsPlain : ℕ → Type 0
IsPlain status = (100 ≤ status) × (status < 1000) × (list_all is_value_byte (reason_of status) ≡ true)

all_plain : AllByRecursion IsPlain reply_statuses
unfolding reason_of
all_plain = (
  (omega arith, omega arith, refl),
  (
    (omega arith, omega arith, refl),
    (
      (omega arith, omega arith, refl),
      (
        (omega arith, omega arith, refl),
        (
          (omega arith, omega arith, refl),
          (
            (omega arith, omega arith, refl),
            (
              (omega arith, omega arith, refl),
              (
                (omega arith, omega arith, refl),
                (
                  (omega arith, omega arith, refl),
                  ((omega arith, omega arith, refl), ((omega arith, omega arith, refl), tt)),
                ),
              ),
            ),
          ),
        ),
      ),
    ),
  ),
)

three : (n : ℕ) → 100 ≤ n → n < 1000 → length (decimal n) ≡ 3
three n low high =
    let first : decimal n ≡ decimal (n / 10) ++ (48 + n % 10) ∷ [] = decimal_step n (omega arith) (omega arith) in
    let second : decimal (n / 10) ≡ decimal (n / 10 / 10) ++ (48 + n / 10 % 10) ∷ [] = decimal_step (n / 10) (omega arith) (omega arith) in
    let last : decimal (n / 10 / 10) ≡ (48 + n / 10 / 10) ∷ [] = decimal_digit (n / 10 / 10) (omega arith) in
    rw (first, second, last) refl

pub read_back : (status : ℕ) (kind : BodyKind) (body : List ℕ) (close : Bool) → length body < 2 ^ 63 → IsReplyStatus status → IsReply (reply_text status kind body close) status body
read_back status kind body close small is =
    let plain = chosen IsPlain reply_statuses status all_plain is in
    let fits : status < 2 ^ 63 = omega (arith, plain.1) in
    one_status status kind body close small (three status plain.0 plain.1) (digits status fits) (numeral status fits).1 plain.2

pub body_within : (status : ℕ) (kind : BodyKind) (body : List ℕ) (close : Bool) → length body ≤ length (reply_text status kind body close)
unfolding reply_text
body_within status kind body close = omega (arith, length-append (status_line status ++ content_type_line kind ++ content_length_line (length body) ++ connection_line close ++ codes "\r\n") body)
