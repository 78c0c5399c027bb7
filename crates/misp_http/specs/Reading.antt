-- What the bytes of a connection are as a request. For its head the first 16384 bytes are looked
-- at, or all where the input ends before. The first of these cases that holds decides:
--   1. The bytes begin with a head (`Begins`). It is read, or its headers are refused.
--   2. They have two spaces, and no continuation of them begins with a head (`NeverBegins`).
--   3. There are 16384 bytes (`LongHead`).
--   4. The input ended before (`Ended` where there is no byte, and `Cut` where there is one).
use Rattle.std.specs.Prelude.{◌≡◌, ◌≤◌, ◌<◌, ◌==◌, ◌⊎◌, ℕ, List, [], length, take, drop, count_by, Option, Some, Result, Ok, Err}
use Rattle.httparse.specs.Grammar.{RequestHead, ReadsRequest, HasNoRequest, NeverHasRequest, print_request}
use Rattle.misp_http.specs.Limits.{head_limit}
use Rattle.misp_http.specs.Headers.{headers_of, body_length, key_of, asks_to_close}
use Rattle.misp_http.specs.declared.fault.Fault.{Fault}
use Rattle.misp_http.specs.declared.fault.Fault.TheVariants.{NoHead, LongHead, BadHead}
use Rattle.misp_http.specs.declared.fault.HeadFault.{HeadFault}
use Rattle.misp_http.specs.declared.request.Request.{Request}
use Rattle.misp_http.specs.declared.request.Read.{Read}
use Rattle.misp_http.specs.declared.request.Read.TheVariants as reads
use Rattle.misp_http.specs.declared.request.ReadEnd.{ReadEnd}
use Rattle.misp_http.specs.declared.request.ReadEnd.TheVariants as ends

-- the bytes that are looked at for a head
abbrev pub looked_at : List ℕ → List ℕ
looked_at bytes = take head_limit bytes

-- ---- the cases

-- case 1: the bytes begin with this head
abbrev pub Begins : List ℕ → RequestHead → Type 0
Begins bytes h = (after : List ℕ) × ReadsRequest bytes h after

-- how many spaces there are
abbrev pub spaces : List ℕ → ℕ
spaces bytes = count_by (λ byte. byte == 32) bytes

-- case 2: there are two spaces, and whatever follows, the bytes begin with no head
abbrev pub NeverBegins : List ℕ → Type 0
NeverBegins bytes = (2 ≤ spaces bytes) × NeverHasRequest bytes

-- neither case 1 nor case 2
abbrev pub IsUndecided : List ℕ → Type 0
IsUndecided bytes = HasNoRequest bytes × ¬ (NeverBegins bytes)

-- case 1, and the head has this fault
abbrev pub HasBadHead : List ℕ → HeadFault → Type 0
HasBadHead bytes fault =
    (h : RequestHead) × Begins bytes h × (body_length (headers_of h) ≡ Err fault)

-- the fault for which the bytes are refused: by case 2, by case 3, or by case 1
abbrev pub Refuses : List ℕ → Fault → Type 0
Refuses bytes NoHead = NeverBegins (looked_at bytes)
Refuses bytes LongHead = (head_limit ≤ length bytes) × IsUndecided (looked_at bytes)
Refuses bytes (BadHead fault) = HasBadHead (looked_at bytes) fault

-- case 4, where there is a byte
abbrev pub EndsInHead : List ℕ → Type 0
EndsInHead bytes = (0 < length bytes) × (length bytes < head_limit) × IsUndecided bytes

-- ---- a head that is read

-- the bytes after a head
abbrev pub after_head : RequestHead → List ℕ → List ℕ
after_head h bytes = drop (length (print_request h)) bytes

-- case 1, and the body of the head is to have n bytes
pub record IsFramed (bytes : List ℕ) (h : RequestHead) (n : ℕ) : Type 0 where
  pub head : Begins (looked_at bytes) h
  pub body : body_length (headers_of h) ≡ Ok n

-- the bytes end within a body
abbrev pub EndsInBody : List ℕ → Type 0
EndsInBody bytes =
    (h : RequestHead) × (n : ℕ) × IsFramed bytes h n × (length (after_head h bytes) < n)

-- the request of a head and a body
abbrev pub request_of : RequestHead → List ℕ → Request
request_of h body = record {
  method = h.method;
  target = h.target;
  key = key_of (headers_of h);
  body = body;
  close = asks_to_close h.minor (headers_of h);
}

-- the bytes are this request, and these after it
pub record IsRequest (bytes : List ℕ) (request : Request) (rest : Option (List ℕ)) : Type 0 where
  pub head : RequestHead
  pub size : ℕ
  pub framed : IsFramed bytes head size
  pub whole : size ≤ length (after_head head bytes)
  pub parts : request ≡ request_of head (take size (after_head head bytes))
  pub left : rest ≡ Some (drop size (after_head head bytes))

-- the bytes begin with a whole request
pub record BeginsWithRequest (bytes : List ℕ) : Type 0 where
  pub head : RequestHead
  pub size : ℕ
  pub framed : IsFramed bytes head size
  pub whole : size ≤ length (after_head head bytes)

-- ---- what is read

-- what the bytes of a connection are, of which rest are left
abbrev pub IsRead : List ℕ → Result Read ReadEnd → Option (List ℕ) → Type 0
IsRead bytes (Ok (reads.Request request)) rest = IsRequest bytes request rest
IsRead bytes (Ok (reads.Refused fault)) rest = Refuses bytes fault
IsRead bytes (Err ends.Ended) rest = bytes ≡ []
IsRead bytes (Err ends.Cut) rest = EndsInHead bytes ⊎ EndsInBody bytes
IsRead bytes (Err ends.ReadFault) rest = Unit {0}
IsRead bytes (Err ends.NoMemory) rest = Unit {0}

-- the source did not fail, and memory sufficed
abbrev pub IsConclusive : Result Read ReadEnd → Type 0
IsConclusive (Ok read) = Unit {0}
IsConclusive (Err ends.Ended) = Unit {0}
IsConclusive (Err ends.Cut) = Unit {0}
IsConclusive (Err ends.ReadFault) = ⊥
IsConclusive (Err ends.NoMemory) = ⊥

-- two conclusive readings of the same bytes are one
abbrev pub AreOne : List ℕ → Type 0
AreOne bytes =
    (a b : Result Read ReadEnd) (x y : Option (List ℕ)) → IsConclusive a → IsConclusive b
    → IsRead bytes a x → IsRead bytes b y → a ≡ b

-- and two requests leave the same bytes
abbrev pub LeaveOne : List ℕ → Type 0
LeaveOne bytes =
    (a b : Request) (x y : Option (List ℕ)) → IsRequest bytes a x → IsRequest bytes b y → x ≡ y
