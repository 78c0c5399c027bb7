-- What the headers of a head say: the length of the body, the key, and whether to close.
use Rattle.std.specs.Prelude.{ℕ, Bool, false, ◌==◌, ◌&&◌, ◌||◌, nat_lt, List, [], ◌∷◌, map, filter, length, codes, Option, Some, None, Result, Ok, Err, if◌then◌else◌}
use Rattle.std.specs.List.{list_all}
use Rattle.std.specs.Result.{result_ok}
use Rattle.std.specs.Char.{is_ascii_digit}
use Rattle.std.specs.Str.{str_eq_ignore_ascii_case, is_utf8}
use Rattle.std.specs.Str.Parse.{digits_value}
use Rattle.httparse.specs.Spans.{header_bytes, name_and_value}
use Rattle.httparse.specs.Grammar.{RequestHead}
use Rattle.httparse.specs.declared.spans.HeaderSpan.{HeaderSpan}
use Rattle.misp_http.specs.declared.fault.HeadFault.{HeadFault}
use Rattle.misp_http.specs.declared.fault.HeadFault.TheVariants.{ManyHeaders, Encoding, Length, LongBody}
use Rattle.misp_http.specs.Limits.{header_limit, body_limit}

-- a name, and a value without the white space around it
abbrev pub Header : Type 0
Header = List ℕ × List ℕ

-- the headers of a head
abbrev pub headers_of : RequestHead → List Header
headers_of h = map name_and_value h.fields

-- the headers that spans cover
abbrev pub headers_at : List ℕ → List HeaderSpan → List Header
headers_at bytes spans = map (header_bytes bytes) spans

-- the values of the headers of that name, which is compared without case
unfoldable pub values_of : List ℕ → List Header → List (List ℕ)
values_of name headers =
    map (λ header. header.1) (filter (λ header. str_eq_ignore_ascii_case header.0 name) headers)

-- the first of some values
abbrev pub first_of : List (List ℕ) → Option (List ℕ)
first_of [] = None
first_of (value ∷ more) = Some value

-- ---- the length of the body

-- a length, or what is wrong
abbrev pub BodyLength : Type 0
BodyLength = Result ℕ HeadFault

-- 1 to 19 decimal digits
abbrev pub is_length : List ℕ → Bool
is_length value =
    nat_lt 0 (length value) && nat_lt (length value) 20 && list_all is_ascii_digit value

-- the number that the value of a `Content-Length` is
abbrev pub length_in : List ℕ → BodyLength
length_in value = if is_length value then Ok (digits_value 10 value) else Err Length

-- by the values of `Content-Length`, of which there may be one; without one there is no body
abbrev pub content_length : List (List ℕ) → BodyLength
content_length [] = Ok 0
content_length (value ∷ []) = length_in value
content_length (value ∷ other ∷ more) = Err Length

-- the body is not too long
abbrev pub within_limit : BodyLength → BodyLength
within_limit (Ok n) = if nat_lt body_limit n then Err LongBody else Ok n
within_limit (Err fault) = Err fault

-- by the values of `Transfer-Encoding`, of which there may be none
abbrev pub unless_encoded : List (List ℕ) → BodyLength → BodyLength
unless_encoded [] known = known
unless_encoded (encoding ∷ more) known = Err Encoding

-- how long the body is, or the first of these that is wrong: the number of headers, the encoding,
-- the length, the limit
unfoldable pub body_length : List Header → BodyLength
body_length headers =
    if nat_lt header_limit (length headers) then Err ManyHeaders
    else unless_encoded (values_of (codes "transfer-encoding") headers)
    (within_limit (content_length (values_of (codes "content-length") headers)))

-- ---- the key, and the end of the connection

-- a value that is UTF-8
abbrev pub text_in : Option (List ℕ) → Option (List ℕ)
text_in None = None
text_in (Some value) = if is_utf8 value then Some value else None

-- the value of the first `Authorization`; one that is not UTF-8 is no key
unfoldable pub key_of : List Header → Option (List ℕ)
key_of headers = text_in (first_of (values_of (codes "authorization") headers))

-- the value `close`, which is compared without case
abbrev pub is_close : Option (List ℕ) → Bool
is_close None = false
is_close (Some value) = str_eq_ignore_ascii_case value (codes "close")

-- whether to close: the version is 1.0, or the first value of `Connection` is `close`
unfoldable pub asks_to_close : ℕ → List Header → Bool
asks_to_close minor headers =
    minor == 0 || is_close (first_of (values_of (codes "connection") headers))

-- ---- replies

-- by the values of `Content-Length`, of which there is to be one
abbrev pub only_length : List (List ℕ) → Option ℕ
only_length [] = None
only_length (value ∷ []) = result_ok (length_in value)
only_length (value ∷ other ∷ more) = None

-- the length of the body, where just one `Content-Length` says it
unfoldable pub only_content_length : List Header → Option ℕ
only_content_length headers = only_length (values_of (codes "content-length") headers)
