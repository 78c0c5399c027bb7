-- What bytes are as a reply.
use Rattle.std.specs.Prelude.{◌≡◌, ◌≢◌, ◌≤◌, ℕ, List, length, map, Some, None, Result, Ok, Err}
use Rattle.httparse.specs.Grammar.{ResponseHead, ReadsResponse, status_code}
use Rattle.httparse.specs.Spans.{name_and_value}
use Rattle.misp_http.specs.Limits.{header_limit}
use Rattle.misp_http.specs.Headers.{Header, only_content_length}
use Rattle.misp_http.specs.declared.reply.ReplyFault.{ReplyFault}
use Rattle.misp_http.specs.declared.reply.ReplyFault.TheVariants as faults

-- the headers of a head
abbrev pub reply_headers : ResponseHead → List Header
reply_headers h = map name_and_value h.fields

-- the bytes are a head of not too many headers, and these after it
pub record HasReplyHead (bytes : List ℕ) (h : ResponseHead) (rest : List ℕ) : Type 0 where
  pub reads : ReadsResponse bytes h rest
  pub few : length h.fields ≤ header_limit

-- the bytes are a head that says one length, and a body of that length
pub record IsReply (bytes : List ℕ) (status : ℕ) (body : List ℕ) : Type 0 where
  pub head : ResponseHead
  pub begins : HasReplyHead bytes head body
  pub size : only_content_length (reply_headers head) ≡ Some (length body)
  pub status_is : status ≡ status_code head

-- they begin with no head that says one length
abbrev pub HasNoReplyHead : List ℕ → Type 0
HasNoReplyHead bytes =
    (h : ResponseHead) (rest : List ℕ) → HasReplyHead bytes h rest
    → only_content_length (reply_headers h) ≡ None

-- they are a head that says one length, and a body of another
abbrev pub HasOtherBody : List ℕ → Type 0
HasOtherBody bytes =
    (h : ResponseHead) × (rest : List ℕ) × (size : ℕ) × HasReplyHead bytes h rest
    × (only_content_length (reply_headers h) ≡ Some size) × (length rest ≢ size)

-- what the bytes are, where the body of a reply is seen by view
abbrev pub ReadsReply : {V : Type 0} → (V → List ℕ) → List ℕ → Result (ℕ × V) ReplyFault → Type 0
ReadsReply view bytes (Ok reply) = IsReply bytes reply.0 (view reply.1)
ReadsReply view bytes (Err faults.Head) = HasNoReplyHead bytes
ReadsReply view bytes (Err faults.Body) = HasOtherBody bytes
ReadsReply view bytes (Err faults.NoMemory) = Unit {0}

-- two readings of the same bytes are one
abbrev pub IsOneReply : List ℕ → Type 0
IsOneReply bytes =
    (a b : ℕ) (x y : List ℕ) → IsReply bytes a x → IsReply bytes b y → (a ≡ b) × (x ≡ y)
