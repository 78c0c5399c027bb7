-- A head that is whole ends in an empty line.
use Rattle.std.proofs.Common.{◌≡◌, ◌<◌, ◌==◌, ◌||◌, ℕ, Bool, true, false, List, [], ◌∷◌, ◌++◌, length, refl, ap, ◌∙◌, arith, append_assoc, codes, ◌+◌, flat_map}
use Rattle.std.specs.Prelude.{All}
use Rattle.std.proofs.lemmas.Bool.Decides.{nat_tests}
use Rattle.std.proofs.lemmas.List.Sums.{AllPass-from_list_all}
use Rattle.std.proofs.lemmas.List.Elements.{All-head, All-tail}
use Rattle.httparse.specs.Grammar.{LineEnd, crlf, lf, print_end, print_blank, print_version, AllPass, is_token_byte, is_uri_byte, is_value_byte, Field, IsField, print_field, print_section, RequestHead, IsRequestHead, print_request}
use Rattle.httparse.proofs.GrammarLemmas.{print_request-append}
use Rattle.misp_http.specs.Lines.{ends_head}

token_is_no_end : (b : ℕ) → is_token_byte b ≡ true → (b == 10 ≡ false) × (b == 13 ≡ false)
unfolding is_token_byte
token_is_no_end b token = (grind (arith, nat_tests), grind (arith, nat_tests))

uri_is_no_end : (b : ℕ) → is_uri_byte b ≡ true → (b == 10 ≡ false) × (b == 13 ≡ false)
uri_is_no_end b uri = (grind (arith, nat_tests), grind (arith, nat_tests))

value_is_no_end : (b : ℕ) → is_value_byte b ≡ true → (b == 10 ≡ false) × (b == 13 ≡ false)
value_is_no_end b value = (grind (arith, nat_tests), grind (arith, nat_tests))

other : (begun empty : Bool) (b : ℕ) (bytes : List ℕ) → (b == 10) ≡ false → (b == 13) ≡ false → ends_head begun empty (b ∷ bytes) ≡ ends_head true false bytes
unfolding ends_head
other begun empty b bytes a c = rw (a, c) refl

module _ (test : ℕ → Bool) (no_end : (b : ℕ) → test b ≡ true → (b == 10 ≡ false) × (b == 13 ≡ false)) where
  word_on : (ws rest : List ℕ) → AllPass test ws → ends_head true false (ws ++ rest) ≡ ends_head true false rest
  word_on [] rest all = refl
  word_on (w ∷ ws) rest all =
      let no = no_end w (All-head (λ x. test x ≡ true) w ws all) in
      other true false w (ws ++ rest) no.0 no.1 ∙ word_on ws rest (All-tail (λ x. test x ≡ true) w ws all)

  word : (begun empty : Bool) (ws rest : List ℕ) → 0 < length ws → AllPass test ws → ends_head begun empty (ws ++ rest) ≡ ends_head true false rest
  word begun empty [] rest some all = absurd (omega arith)
  word begun empty (w ∷ ws) rest some all =
      let no = no_end w (All-head (λ x. test x ≡ true) w ws all) in
      other begun empty w (ws ++ rest) no.0 no.1 ∙ word_on ws rest (All-tail (λ x. test x ≡ true) w ws all)

line_end : (e : LineEnd) (rest : List ℕ) → ends_head true false (print_end e ++ rest) ≡ ends_head true true rest
unfolding ends_head
line_end crlf rest = refl
line_end lf rest = refl

last_end : (e : LineEnd) (rest : List ℕ) → ends_head true true (print_end e ++ rest) ≡ true
unfolding ends_head
last_end crlf rest = refl
last_end lf rest = refl

blank : (es : List LineEnd) (rest : List ℕ) → ends_head false true (print_blank es ++ rest) ≡ ends_head false true rest
unfolding ends_head
blank [] rest = refl
blank (crlf ∷ es) rest = blank es rest
blank (lf ∷ es) rest = blank es rest

field : (f : Field) (rest : List ℕ) → IsField f → ends_head true true (print_field f ++ rest) ≡ ends_head true true rest
field f rest is =
    let apart : print_field f ++ rest ≡ f.name ++ (58 ∷ (f.raw ++ (print_end f.end ++ rest))) = simp append_assoc in
    ap (ends_head true true) apart
    ∙ word is_token_byte token_is_no_end true true f.name _ is.name.0 is.name.1
    ∙ other true false 58 _ refl refl
    ∙ word_on is_value_byte value_is_no_end f.raw _ is.raw
    ∙ line_end f.end rest

grouped : (a b c r : List ℕ) → a ++ b ++ c ++ r ≡ a ++ (b ++ c ++ r)
grouped a b c r = simp append_assoc

section : (fs : List Field) (last : LineEnd) (rest : List ℕ) → All IsField fs → ends_head true true (print_section fs last ++ rest) ≡ true
section [] last rest all = last_end last rest
section (f ∷ fs) last rest all =
    ap (ends_head true true) (grouped (print_field f) (flat_map print_field fs) (print_end last) rest)
    ∙ field f _ (All-head IsField f fs all)
    ∙ section fs last rest (All-tail IsField f fs all)

version : (minor : ℕ) (rest : List ℕ) → minor < 2 → ends_head true false (print_version minor ++ rest) ≡ ends_head true false rest
version minor rest small =
    word_on is_value_byte value_is_no_end (codes "HTTP/1.") ((48 + minor) ∷ rest) (AllPass-from_list_all is_value_byte (codes "HTTP/1.") refl)
    ∙ other true false (48 + minor) rest (grind (arith, nat_tests)) (grind (arith, nat_tests))

pub or_assoc : (a b c : Bool) → ((a || b) || c) ≡ (a || (b || c))
or_assoc true b c = refl
or_assoc false b c = refl

pub or_false : (a : Bool) → (a || false) ≡ a
or_false true = refl
or_false false = refl

pub head_ends : (h : RequestHead) (rest : List ℕ) → IsRequestHead h → ends_head false true (print_request h ++ rest) ≡ true
head_ends h rest is =
    ap (ends_head false true) (print_request-append h rest)
    ∙ blank h.blank _
    ∙ word is_token_byte token_is_no_end false true h.method _ is.method.0 is.method.1
    ∙ other true false 32 _ refl refl
    ∙ word_on is_uri_byte uri_is_no_end h.target _ is.target.1
    ∙ other true false 32 _ refl refl
    ∙ version h.minor _ (omega (arith, is.minor))
    ∙ line_end h.line_end _
    ∙ section h.fields h.last rest is.fields
