-- Requests and replies as they are written.
use Rattle.std.specs.Prelude.{◌==◌, ℕ, Bool, true, false, List, [], ◌∷◌, ◌++◌, length, codes, decimal, unwrap_or, IsTrue, Option, Some, None}
use Rattle.std.specs.List.{list_any}
use Rattle.http.specs.StatusCode.{reason_phrase}
use Rattle.misp_http.specs.declared.kind.BodyKind.{BodyKind}
use Rattle.misp_http.specs.declared.kind.BodyKind.TheVariants.{Json, Octets}

-- the end of a line
abbrev pub crlf : List ℕ
crlf = codes "\r\n"

-- ---- the lines of a head

-- the status of a success, and those of the rules of refusal
abbrev pub reply_statuses : List ℕ
reply_statuses =
    200 ∷ 400 ∷ 403 ∷ 404 ∷ 405 ∷ 409 ∷ 413 ∷ 500 ∷ 502 ∷ 503 ∷ 507 ∷ []

abbrev pub is_reply_status : ℕ → Bool
is_reply_status status = list_any (λ known. known == status) reply_statuses

abbrev pub IsReplyStatus : ℕ → Type 0
IsReplyStatus status = IsTrue (is_reply_status status)

-- the reason phrase of a status
unfoldable pub reason_of : ℕ → List ℕ
reason_of status = unwrap_or (reason_phrase status) []

abbrev pub status_line : ℕ → List ℕ
status_line status = codes "HTTP/1.1 " ++ decimal status ++ codes " " ++ reason_of status ++ crlf

abbrev pub authorization_line : Option (List ℕ) → List ℕ
authorization_line None = []
authorization_line (Some key) = codes "Authorization: " ++ key ++ crlf

abbrev pub content_type_line : BodyKind → List ℕ
content_type_line Json = codes "Content-Type: application/json\r\n"
content_type_line Octets = codes "Content-Type: application/octet-stream\r\n"

abbrev pub content_length_line : ℕ → List ℕ
content_length_line n = codes "Content-Length: " ++ decimal n ++ crlf

abbrev pub connection_line : Bool → List ℕ
connection_line true = codes "Connection: close\r\n"
connection_line false = []

-- ---- the whole

-- a reply
unfoldable pub reply_text : ℕ → BodyKind → List ℕ → Bool → List ℕ
reply_text status kind body close =
    status_line status ++ content_type_line kind ++ content_length_line (length body)
    ++ connection_line close ++ crlf ++ body

-- a request
unfoldable pub request_text : List ℕ → List ℕ → Option (List ℕ) → List ℕ → Bool → List ℕ
request_text method target key body close =
    method ++ codes " " ++ target ++ codes " HTTP/1.1\r\n" ++ authorization_line key
    ++ content_length_line (length body) ++ connection_line close ++ crlf ++ body
