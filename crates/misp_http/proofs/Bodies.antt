-- The body after a head.
use Rattle.std.proofs.Common.{◌≡◌, ℕ, ◌+◌, ◌-◌, ◌<◌, ◌≤◌, List, ◌++◌, length, take, drop, slice_range, Option, Some, None, Result, Ok, Err, refl, sym, ap, ◌∙◌, subst, arith, append-nil, length-append, length-take, length-drop, inr}
use Rattle.std.specs.Prelude.{IfSome}
use Rattle.std.specs.Io.KnownBytes.{prepend_known, Keeps, IsAtEnd}
use Rattle.std.proofs.lemmas.List.{take-append-le, drop-append-le, drop-drop}
use Rattle.httparse.specs.Grammar.{RequestHead, print_request}
use Rattle.misp_http.specs.Limits.{head_limit}
use Rattle.misp_http.specs.Reading.{Begins, looked_at, after_head, request_of, IsRequest, IsRead, EndsInBody}
use Rattle.misp_http.specs.Parsing.{IsHeadOf}
use Rattle.misp_http.specs.Finding.{Finds, IsTaken, Found, IsRequestRead, IsBodyEnd}
use Rattle.misp_http.specs.declared.head.Head.{Head}
use Rattle.misp_http.specs.declared.request.Request.{Request}
use Rattle.misp_http.specs.declared.fault.Fault.{Fault}
use Rattle.misp_http.specs.declared.request.Read.TheVariants as reads
use Rattle.misp_http.specs.declared.request.ReadEnd.{ReadEnd}
use Rattle.misp_http.specs.declared.request.ReadEnd.TheVariants as ends
use Rattle.misp_http.proofs.Growing.{known_before}

-- a body that is whole in the first bytes
module _ (rest more : List ℕ) (size n : ℕ) (there : size + n ≤ length rest) where
  dropped : drop size (rest ++ more) ≡ drop size rest ++ more
  dropped = drop-append-le size rest more (omega arith)

  pub enough : n ≤ length (drop size (rest ++ more))
  enough = rw dropped (omega (arith, length-append (drop size rest) more, length-drop size rest))

  pub body_is : slice_range rest size (size + n) ≡ take n (drop size (rest ++ more))
  body_is =
      let same : size + n - size ≡ n = omega arith in
      let inside : take n (drop size rest ++ more) ≡ take n (drop size rest) = take-append-le n (drop size rest) more (omega (arith, length-drop size rest)) in
      rw (dropped, inside, same) refl

  pub left_is : drop (size + n) rest ++ more ≡ drop n (drop size (rest ++ more))
  left_is = sym (drop-drop n size (rest ++ more) ∙ drop-append-le (size + n) rest more there)

-- the request is made of the head and the body
made : (h : RequestHead) (head : Head) (body : List ℕ) (request : Request) → IsHeadOf h head → request ≡ record { method = head.method; target = head.target; key = head.key; body = body; close = head.close } → request ≡ request_of h body
made h head body request is cut = cut ∙ rw (is.method, is.target, is.key, is.close) refl

whole_in : (rest more : List ℕ) (head : Head) (request : Request) (after : List ℕ) → Finds (rest ++ more) (Ok (Ok head)) → head.size + head.body_size ≤ length rest → IsTaken rest head request → after ≡ drop (head.size + head.body_size) rest → IsRequest (rest ++ more) request (Some (after ++ more))
whole_in rest more head request after (h, begun, is) there cut after_is =
    let size : head.size ≡ length (print_request h) = is.size in
    let there2 : length (print_request h) + head.body_size ≤ length rest = omega (arith, size, there) in
    record {
      head = h;
      size = head.body_size;
      framed = record { head = begun; body = is.body_size };
      whole = enough rest more (length (print_request h)) head.body_size there2;
      parts = made h head (take head.body_size (after_head h (rest ++ more))) request is
          (cut ∙ rw (size, body_is rest more (length (print_request h)) head.body_size there2) refl);
      left = ap Some (rw (after_is, size) (left_is rest more (length (print_request h)) head.body_size there2));
    }

pub request_read : (old : Option (List ℕ)) (rest : List ℕ) (left : Option (List ℕ)) (head : Head) (request : Request) (after : List ℕ) → Keeps old (prepend_known rest left) → head.size + head.body_size ≤ length rest → IsTaken rest head request → after ≡ drop (head.size + head.body_size) rest → IfSome old (λ bytes. Finds bytes (Ok (Ok head)) → IsRequestRead bytes (Ok request) (prepend_known after left))
request_read None rest left head request after kept there cut after_is = tt
request_read (Some bytes) rest None head request after kept there cut after_is = absurd kept
request_read (Some bytes) rest (Some more) head request after kept there cut after_is = λ found.
    subst (λ all. IsRequest all request (Some (after ++ more))) kept
    (whole_in rest more head request after (subst (λ all. Finds all (Ok (Ok head))) (sym kept) found) there cut after_is)

-- the head lies within the bytes
pub head_within : (bytes : List ℕ) (h : RequestHead) → Begins (looked_at bytes) h → length (print_request h) ≤ length bytes
head_within bytes h begun =
    let size : length (looked_at bytes) ≡ length (print_request h ++ begun.0) = ap length begun.1.1 in
    omega (arith, size, length-append (print_request h) begun.0, length-take head_limit bytes)

cut_in : (rest : List ℕ) (head : Head) → Finds rest (Ok (Ok head)) → length rest < head.size + head.body_size → EndsInBody rest
cut_in rest head (h, begun, is) short = (
  h,
  head.body_size,
  record { head = begun; body = is.body_size },
  omega (arith, length-drop (length (print_request h)) rest, head_within rest h begun, is.size, short),
)

-- the bytes ended before the body did
pub body_cut : (old : Option (List ℕ)) (rest : List ℕ) (left : Option (List ℕ)) (head : Head) → Keeps old (prepend_known rest left) → IsAtEnd left → length rest < head.size + head.body_size → IfSome old (λ bytes. Finds bytes (Ok (Ok head)) → EndsInBody bytes)
body_cut None rest left head kept end short = tt
body_cut (Some bytes) rest None head kept end short = absurd kept
body_cut (Some bytes) rest (Some more) head kept end short = λ found.
    let all : rest ≡ bytes = sym (append-nil rest) ∙ ap (λ xs. rest ++ xs) (sym end) ∙ kept in
    subst EndsInBody all (cut_in rest head (subst (λ xs. Finds xs (Ok (Ok head))) (sym all) found) short)

pub body_ends : (old : Option (List ℕ)) (rest : List ℕ) (left now : Option (List ℕ)) (head : Head) (end : ReadEnd) → (end ≡ ends.Cut → Keeps old (prepend_known rest left) × IsAtEnd left × (length rest < head.size + head.body_size)) → IsBodyEnd end → IfSome old (λ bytes. Finds bytes (Ok (Ok head)) → IsRequestRead bytes (Err end) now)
body_ends None rest left now head end cut ends_so = tt
body_ends (Some bytes) rest left now head ends.Ended cut ends_so = absurd ends_so
body_ends (Some bytes) rest left now head ends.Cut cut ends_so = let c = cut refl in body_cut (Some bytes) rest left head c.0 c.1 c.2
body_ends (Some bytes) rest left now head ends.ReadFault cut ends_so = λ found. tt
body_ends (Some bytes) rest left now head ends.NoMemory cut ends_so = λ found. tt

-- ---- the head, and then the body

pub body_ended : (bytes : List ℕ) (end : ReadEnd) (now : Option (List ℕ)) → IsRequestRead bytes (Err end) now → IsRead bytes (Err end) now
body_ended bytes ends.Ended now is = absurd is
body_ended bytes ends.Cut now is = inr is
body_ended bytes ends.ReadFault now is = tt
body_ended bytes ends.NoMemory now is = tt

module _ (mid now : Option (List ℕ)) (found : Found) (parsed : Result Head Fault) (head : Head) (body : Result Request ReadEnd) (found_is : found ≡ Ok parsed) (parsed_is : parsed ≡ Ok head) where
  read_then : (old : Option (List ℕ)) → IfSome old (λ bytes. Finds bytes found) → Keeps old mid → IfSome mid (λ bytes. Finds bytes (Ok (Ok head)) → IsRequestRead bytes body now) → IfSome old (λ bytes. IsRequestRead bytes body now)
  read_then None finds kept read = tt
  read_then (Some bytes) finds kept read =
      known_before (Some bytes) mid (λ all. Finds all (Ok (Ok head)) → IsRequestRead all body now) kept read (rw (found_is, parsed_is) at finds)

  pub request_then : (old : Option (List ℕ)) (request : Request) → body ≡ Ok request → IfSome old (λ bytes. Finds bytes found) → Keeps old mid → IfSome mid (λ bytes. Finds bytes (Ok (Ok head)) → IsRequestRead bytes body now) → IfSome old (λ bytes. IsRead bytes (Ok (reads.Request request)) now)
  request_then None request is finds kept read = tt
  request_then (Some bytes) request is finds kept read =
      rw is at (read_then (Some bytes) finds kept read)

  pub end_then : (old : Option (List ℕ)) (end : ReadEnd) → body ≡ Err end → IfSome old (λ bytes. Finds bytes found) → Keeps old mid → IfSome mid (λ bytes. Finds bytes (Ok (Ok head)) → IsRequestRead bytes body now) → IfSome old (λ bytes. IsRead bytes (Err end) now)
  end_then None end is finds kept read = tt
  end_then (Some bytes) end is finds kept read =
      body_ended bytes end now (rw is at (read_then (Some bytes) finds kept read))
