-- The bytes of a request: they are read back, or refused for a body that is too long.
use Rattle.std.proofs.Common.{◌≡◌, ◌+◌, ◌^◌, ◌<◌, ◌≤◌, ◌&&◌, ℕ, zero, suc, Bool, not, true, ◌==◌, IsAscii, IsUtf8, List, [], ◌∷◌, ◌++◌, codes, decimal, length, length-append, append-nil, refl, subst, arith, Some}
use Rattle.std.specs.Prelude.{nat_lt}
use Rattle.std.specs.Char.{is_ascii_alphanumeric}
use Rattle.std.specs.List.{list_all}
use Rattle.std.proofs.lemmas.Bool.{and_from, and_parts}
use Rattle.std.proofs.lemmas.Bool.Decides.{nat_tests}
use Rattle.std.proofs.lemmas.Fmt.{length-decimal-le}
use Rattle.std.proofs.lemmas.Str.{IsUtf8-from_ascii, is_utf8-from_IsUtf8}
use Rattle.httparse.specs.Grammar.{IsToken, is_token_byte, is_uri_byte}
use Rattle.httparse.proofs.OnLiterals.{httparse_on_literals}
use Rattle.misp_ids.specs.Names.{is_api_key}
use Rattle.misp_ids.proofs.NamesLemmas.{IsUtf8-api_key}
use Rattle.misp_http.specs.Limits.{body_limit}
use Rattle.misp_http.specs.ReadBack.{HasForms, IsVisible, is_visible}
use Rattle.misp_http.specs.Reading.{IsRequest, Refuses}
use Rattle.misp_http.specs.Texts.{authorization_line, connection_line, content_length_line, crlf, request_text}
use Rattle.misp_http.specs.declared.fault.Fault.TheVariants.{BadHead}
use Rattle.misp_http.specs.declared.fault.HeadFault.TheVariants.{LongBody}
use Rattle.misp_http.specs.declared.request.Request.{Request}
use Rattle.misp_http.proofs.ReplyReadBack.{passes}
use Rattle.misp_http.proofs.RequestReadBack.{read_back, too_long}

-- ---- bytes of targets

-- a byte between `-` and `z` that is not `?`
abbrev pub is_path_byte : ℕ → Bool
is_path_byte b = nat_lt 44 b && (nat_lt b 123 && not (b == 63))

-- a test that each passing the one passes the other
all_pass : (p q : ℕ → Bool) → ((b : ℕ) → p b ≡ true → q b ≡ true) → (bs : List ℕ) → list_all p bs ≡ true → list_all q bs ≡ true
all_pass p q each [] all = refl
all_pass p q each (b ∷ bs) all = and_from _ _ (each b (and_parts _ _ all).0) (all_pass p q each bs (and_parts _ _ all).1)

small_byte : (b : ℕ) → is_path_byte b ≡ true → b < 128
small_byte b h = grind (arith, nat_tests)

ascii_from : (bs : List ℕ) → list_all is_path_byte bs ≡ true → IsAscii bs
ascii_from [] all i = omega arith
ascii_from (b ∷ bs) all zero = small_byte b (and_parts _ _ all).0
ascii_from (b ∷ bs) all (suc i) = ascii_from bs (and_parts _ _ all).1 i

path_is_text : (bs : List ℕ) → list_all is_path_byte bs ≡ true → IsUtf8 bs
path_is_text bs all = IsUtf8-from_ascii bs (ascii_from bs all)

-- ---- the method

pub get_is : IsToken (codes "GET")
unfolding httparse_on_literals
get_is = (omega arith, passes is_token_byte (codes "GET") refl)

pub post_is : IsToken (codes "POST")
unfolding httparse_on_literals
post_is = (omega arith, passes is_token_byte (codes "POST") refl)

-- ---- the key

visible : (b : ℕ) → is_ascii_alphanumeric b ≡ true → is_visible b ≡ true
visible b h = grind (arith, nat_tests)

pub key_visible : (key : List ℕ) → is_api_key key ≡ true → IsVisible key
key_visible key is =
    let parts = and_parts (length key == 40) (list_all is_ascii_alphanumeric key) is in
    (all_pass is_ascii_alphanumeric is_visible visible key parts.1, is_utf8-from_IsUtf8 key (IsUtf8-api_key key is))

pub key_long : (key : List ℕ) → is_api_key key ≡ true → length key ≡ 40
key_long key is = number (length key) (and_parts (length key == 40) (list_all is_ascii_alphanumeric key) is).0
  where
    number : (n : ℕ) → (n == 40) ≡ true → n ≡ 40
    number n is = grind (arith, nat_tests)

-- ---- the target

in_target : (b : ℕ) → is_path_byte b ≡ true → is_uri_byte b ≡ true
in_target b h = grind (arith, nat_tests)

-- ---- how long it is

key_line : (key : List ℕ) → length (authorization_line (Some key)) ≤ length key + 20
key_line key = omega (arith, length-append (codes "Authorization: " ++ key) crlf, length-append (codes "Authorization: ") key)

size_line : (n : ℕ) → n < 2 ^ 63 → length (content_length_line n) ≤ 40
size_line n small =
    let digits : length (decimal n) ≤ 20 = length-decimal-le 20 n (omega arith) (omega arith) (omega arith) in
    omega (arith, digits, length-append (codes "Content-Length: " ++ decimal n) crlf, length-append (codes "Content-Length: ") (decimal n))

front : (method target : List ℕ) → length (method ++ codes " " ++ target ++ codes " HTTP/1.1\r\n") ≤ length method + length target + 20
front method target = omega (
  arith,
  length-append (method ++ codes " " ++ target) (codes " HTTP/1.1\r\n"),
  length-append (method ++ codes " ") target,
  length-append method (codes " "),
)

-- two lines and the body after it
back : (first key size body : List ℕ) → length (first ++ key ++ size ++ connection_line true ++ crlf ++ body) ≤ length first + length key + length size + 30 + length body
back first key size body = omega (
  arith,
  length-append (first ++ key ++ size ++ connection_line true ++ crlf) body,
  length-append (first ++ key ++ size ++ connection_line true) crlf,
  length-append (first ++ key ++ size) (connection_line true),
  length-append (first ++ key) size,
  length-append first key,
)

lines : (n : ℕ) → n < 2 ^ 63 → (method target key body : List ℕ)
    → length (method ++ codes " " ++ target ++ codes " HTTP/1.1\r\n" ++ authorization_line (Some key) ++ content_length_line n ++ connection_line true ++ crlf ++ body)
    ≤ length method + length target + length key + 200 + length body
lines n small method target key body = omega (
  arith,
  back (method ++ codes " " ++ target ++ codes " HTTP/1.1\r\n") (authorization_line (Some key)) (content_length_line n) body,
  front method target,
  key_line key,
  size_line n small,
)

-- ---- the whole

-- its parts are such as are sent to a peer
pub record IsSendable (method target key body : List ℕ) : Type 0 where
  pub method_is : IsToken method
  pub method_short : length method ≤ 4
  pub target_some : 0 < length target
  pub target_short : length target ≤ 64
  pub target_path : list_all is_path_byte target ≡ true
  pub key_is : is_api_key key ≡ true
  pub body_small : length body < 2 ^ 63

-- the request of them, after which the connection is closed
abbrev pub asking : List ℕ → List ℕ → List ℕ → List ℕ → Request
asking method target key body = record { method = method; target = target; key = Some key; body = body; close = true }

module _ (method target key body : List ℕ) where
  abbrev text : List ℕ
  text = request_text method target (Some key) body true

  whole : length body < 2 ^ 63 → length text ≤ length method + length target + length key + 200 + length body
  unfolding request_text
  whole small = lines (length body) small method target key body

  forms : IsSendable method target key body → HasForms method target (Some key) body true
  forms is = record {
    method_is = is.method_is;
    target_is = (is.target_some, passes is_uri_byte target (all_pass is_path_byte is_uri_byte in_target target is.target_path));
    target_text = path_is_text target is.target_path;
    key_is = key_visible key is.key_is;
    short = omega (arith, whole is.body_small, is.method_short, is.target_short, key_long key is.key_is);
  }

  -- such a request is read back
  pub asking_back : IsSendable method target key body → length body ≤ body_limit → IsRequest text (asking method target key body) (Some [])
  asking_back is most =
      subst (λ bytes. IsRequest bytes (asking method target key body) (Some [])) (append-nil text)
      (read_back method target (Some key) body true (record { forms = forms is; small = most }) [])

  -- or it is too long
  pub asking_long : IsSendable method target key body → body_limit < length body → Refuses text (BadHead LongBody)
  asking_long is long =
      subst (λ bytes. Refuses bytes (BadHead LongBody)) (append-nil text)
      (too_long method target (Some key) body true (forms is) long is.body_small [])
