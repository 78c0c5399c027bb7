-- A request that is written is read back, or refused for a body that is too long.
use Rattle.std.proofs.Common.{◌≡◌, ◌^◌, ◌<◌, ◌≤◌, not, ℕ, Bool, true, false, List, [], ◌∷◌, ◌++◌, length, reverse, drop, map, codes, decimal, Option, Some, None, Ok, Err, refl, sym, ap, ◌∙◌, arith, append_assoc, length-append}
use Rattle.std.specs.Prelude.{All, IfSome, nat_lt}
use Rattle.std.specs.List.{list_all}
use Rattle.std.proofs.lemmas.Bool.{and_parts, and_from}
use Rattle.std.proofs.lemmas.Bool.Decides.{nat_tests}
use Rattle.std.proofs.lemmas.List.{take_at, drop_at}
use Rattle.std.proofs.lemmas.List.Sums.{AllPass-from_list_all, list_all-from_AllPass}
use Rattle.std.proofs.lemmas.List.Elements.{All-cons}
use Rattle.httparse.specs.Grammar.{crlf, is_ows, is_value_byte, is_token_byte, skip_ows, trim_ows, Field, IsField, print_section, RequestHead, print_request}
use Rattle.httparse.proofs.OnLiterals.{httparse_on_literals}
use Rattle.httparse.proofs.GrammarLemmas.{print_request-append}
use Rattle.httparse.proofs.TrimLemmas.{AllPass-reverse, trim_ows_space}
use Rattle.misp_http.specs.Limits.{head_limit, body_limit}
use Rattle.misp_http.specs.Headers.{values_of, body_length, within_limit, key_of, asks_to_close}
use Rattle.misp_http.specs.Reading.{Begins, looked_at, request_of}
use Rattle.misp_http.specs.Texts.{authorization_line, connection_line, request_text}
use Rattle.misp_http.specs.ReadBack.{is_visible, IsVisible, HasForms, IsWritable, IsReadBack, IsTooLong}
use Rattle.misp_http.specs.declared.fault.HeadFault.TheVariants.{LongBody}
use Rattle.misp_http.proofs.Growing.{taken}
use Rattle.misp_http.proofs.ReplyReadBack.{number, value, content_length_field, connection_fields, content_length_is_field, connection_are_fields, passes, after_digits}

-- ---- the key

no_space : (ks : List ℕ) → list_all is_visible ks ≡ true → skip_ows ks ≡ ks
no_space [] all = refl
no_space (k ∷ ks) all =
    let none = no_test (is_ows k) (and_parts (is_value_byte k) _ (and_parts (is_visible k) _ all).0).1 in
    rw none refl
  where
    no_test : (c : Bool) → not c ≡ true → c ≡ false
    no_test true h = absurd cc
    no_test false h = refl

shown : (key : List ℕ) → list_all is_visible key ≡ true → trim_ows (32 ∷ key) ≡ key
shown key all =
    trim_ows_space key (no_space key all)
    (no_space (reverse key) (list_all-from_AllPass is_visible (reverse key) (AllPass-reverse is_visible key (AllPass-from_list_all is_visible key all))))

value_bytes : (ks : List ℕ) → list_all is_visible ks ≡ true → list_all is_value_byte ks ≡ true
value_bytes [] all = refl
value_bytes (k ∷ ks) all =
    let parts = and_parts (is_visible k) _ all in
    and_from _ _ (and_parts (is_value_byte k) _ parts.0).0 (value_bytes ks parts.1)

abbrev key_fields : Option (List ℕ) → List Field
key_fields None = []
key_fields (Some key) = record { name = codes "Authorization"; raw = 32 ∷ key; end = crlf } ∷ []

abbrev fields : Option (List ℕ) → ℕ → Bool → List Field
fields None n close = content_length_field n ∷ connection_fields close
fields (Some key) n close = record { name = codes "Authorization"; raw = 32 ∷ key; end = crlf } ∷ content_length_field n ∷ connection_fields close

are_fields : (key : Option (List ℕ)) (n : ℕ) (close : Bool) → n < 2 ^ 63 → IfSome key IsVisible → All IsField (fields key n close)
unfolding httparse_on_literals
are_fields None n close small is = All-cons IsField (content_length_field n) (connection_fields close) (content_length_is_field n small) (connection_are_fields close)
are_fields (Some key) n close small is =
    All-cons IsField _ (content_length_field n ∷ connection_fields close)
    (record { name = (omega arith, passes is_token_byte (codes "Authorization") refl); raw = passes is_value_byte (32 ∷ key) (and_from _ _ refl (value_bytes key is.0)) })
    (All-cons IsField (content_length_field n) (connection_fields close) (content_length_is_field n small) (connection_are_fields close))

-- ---- what the fields say

abbrev pairs_of : Option (List ℕ) → ℕ → Bool → List (List ℕ × List ℕ)
pairs_of key n close = map (λ f. (f.name, trim_ows f.raw)) (fields key n close)

in_bounds : (n : ℕ) → n ≤ body_limit → within_limit (Ok n) ≡ Ok n
in_bounds n most =
    let test : nat_lt body_limit n ≡ false = less n most in
    rw test refl
  where
    less : (n : ℕ) → n ≤ body_limit → nat_lt body_limit n ≡ false
    less n most = grind (arith, nat_tests)

out_of_bounds : (n : ℕ) → body_limit < n → within_limit (Ok n) ≡ Err LongBody
out_of_bounds n long =
    let test : nat_lt body_limit n ≡ true = more n long in
    rw test refl
  where
    more : (n : ℕ) → body_limit < n → nat_lt body_limit n ≡ true
    more n long = grind (arith, nat_tests)

length_is : (key : Option (List ℕ)) (n : ℕ) (close : Bool) → n < 2 ^ 63 → body_length (pairs_of key n close) ≡ within_limit (Ok n)
unfolding body_length values_of
length_is None n true small = rw (value n small, number n small) refl
length_is None n false small = rw (value n small, number n small) refl
length_is (Some key) n true small = rw (value n small, number n small) refl
length_is (Some key) n false small = rw (value n small, number n small) refl

key_is : (key : Option (List ℕ)) (n : ℕ) (close : Bool) → IfSome key IsVisible → key_of (pairs_of key n close) ≡ key
unfolding key_of values_of
key_is None n true is = refl
key_is None n false is = refl
key_is (Some key) n true is = rw (shown key is.0, is.1) refl
key_is (Some key) n false is = rw (shown key is.0, is.1) refl

closing : (key : Option (List ℕ)) (n : ℕ) (close : Bool) → asks_to_close 1 (pairs_of key n close) ≡ close
unfolding asks_to_close values_of httparse_on_literals
closing None n true = refl
closing None n false = refl
closing (Some key) n true = refl
closing (Some key) n false = refl

-- ---- the head

abbrev head : List ℕ → List ℕ → Option (List ℕ) → ℕ → Bool → RequestHead
head method target key n close = record {
  blank = [];
  method = method;
  target = target;
  minor = 1;
  line_end = crlf;
  fields = fields key n close;
  last = crlf;
}

abbrev tail : ℕ → Bool → List ℕ → List ℕ
tail n close body = codes "Content-Length: " ++ (decimal n ++ (codes "\r\n" ++ (connection_line close ++ (codes "\r\n" ++ body))))

after_key : (k e l d x b : List ℕ) → k ++ e ++ (l ++ (d ++ e ++ x)) ++ e ++ b ≡ k ++ e ++ (l ++ (d ++ (e ++ (x ++ (e ++ b)))))
after_key k e l d x b = simp append_assoc

section_parts : (key : Option (List ℕ)) (n : ℕ) (close : Bool) (body : List ℕ) → print_section (fields key n close) crlf ++ body ≡ authorization_line key ++ tail n close body
section_parts None n true body = ap (λ rest. codes "Content-Length: " ++ rest) (after_digits (decimal n) (codes "\r\n") (codes "Connection: close\r\n") body)
section_parts None n false body = ap (λ rest. codes "Content-Length: " ++ rest) (after_digits (decimal n) (codes "\r\n") [] body)
section_parts (Some key) n true body = ap (λ rest. codes "Authorization: " ++ rest) (after_key key (codes "\r\n") (codes "Content-Length: ") (decimal n) (codes "Connection: close\r\n") body)
section_parts (Some key) n false body = ap (λ rest. codes "Authorization: " ++ rest) (after_key key (codes "\r\n") (codes "Content-Length: ") (decimal n) [] body)

printed : (method target : List ℕ) (key : Option (List ℕ)) (n : ℕ) (close : Bool) (body : List ℕ) → print_request (head method target key n close) ++ body ≡ method ++ (codes " " ++ (target ++ (codes " HTTP/1.1\r\n" ++ (authorization_line key ++ tail n close body))))
printed method target key n close body =
    print_request-append (head method target key n close) body
    ∙ ap (λ rest. method ++ (codes " " ++ (target ++ (codes " HTTP/1.1\r\n" ++ rest)))) (section_parts key n close body)

regroup : (m s t v k c d e l b : List ℕ) → m ++ s ++ t ++ v ++ k ++ (c ++ d ++ e) ++ l ++ e ++ b ≡ m ++ (s ++ (t ++ (v ++ (k ++ (c ++ (d ++ (e ++ (l ++ (e ++ b)))))))))
regroup m s t v k c d e l b = simp append_assoc

written : (method target : List ℕ) (key : Option (List ℕ)) (body : List ℕ) (close : Bool) → request_text method target key body close ≡ print_request (head method target key (length body) close) ++ body
unfolding request_text
written method target key body close =
    regroup method (codes " ") target (codes " HTTP/1.1\r\n") (authorization_line key) (codes "Content-Length: ") (decimal (length body)) (codes "\r\n") (connection_line close) body
    ∙ sym (printed method target key (length body) close body)

-- ---- what is read

parts_are : (method target : List ℕ) (key : Option (List ℕ)) (body all : List ℕ) (close : Bool) → IfSome key IsVisible → all ≡ body → record { method = method; target = target; key = key; body = body; close = close } ≡ request_of (head method target key (length body) close) all
parts_are method target key body all close shows same =
    rw (same, key_is key (length body) close shows, closing key (length body) close) refl

module _ (method target : List ℕ) (key : Option (List ℕ)) (body : List ℕ) (close : Bool) where
  abbrev h : RequestHead
  h = head method target key (length body) close

  whole : (rest : List ℕ) → request_text method target key body close ++ rest ≡ print_request h ++ (body ++ rest)
  whole rest = rw (written method target key body close) (append_assoc (print_request h) body rest)

  begins : HasForms method target key body close → length body < 2 ^ 63 → (rest : List ℕ) → Begins (looked_at (print_request h ++ (body ++ rest))) h
  begins is small rest =
      let size : length (print_request h) ≤ head_limit = omega (arith, ap length (written method target key body close), length-append (print_request h) body, is.short) in
      (_, (record { method = is.method_is; target = is.target_is; target_text = is.target_text; minor = omega arith; fields = are_fields key (length body) close small is.key_is }, taken head_limit (print_request h) (body ++ rest) size))

  pub read_back : IsWritable method target key body close → IsReadBack method target key body close
  read_back is = λ rest.
      let n = length body in
      let small : n < 2 ^ 63 = omega (arith, is.small) in
      let after_is : drop (length (print_request h)) (print_request h ++ (body ++ rest)) ≡ body ++ rest = drop_at (print_request h) (body ++ rest) (length (print_request h)) refl in
      rw (whole rest) (record {
        head = h;
        size = n;
        framed = record { head = begins is.forms small rest; body = length_is key n close small ∙ in_bounds n is.small };
        whole = rw after_is (omega (arith, length-append body rest));
        parts = parts_are method target key body _ close is.forms.key_is (rw after_is (take_at body rest n refl));
        left = ap Some (sym (rw after_is (drop_at body rest n refl)));
      })

  pub too_long : HasForms method target key body close → body_limit < length body → length body < 2 ^ 63 → IsTooLong method target key body close
  too_long is long small = λ rest.
      rw (whole rest) (h, begins is small rest, length_is key (length body) close small ∙ out_of_bounds (length body) long)
