-- Two readings of the same bytes are one.
use Rattle.std.proofs.Common.{◌≡◌, ◌<◌, ◌≤◌, ℕ, true, false, List, [], ◌∷◌, ◌++◌, length, take, drop, Option, Some, Result, Ok, Err, refl, sym, ap, ◌∙◌, subst, inl, inr, arith, append-nil, length-append}
use Rattle.std.specs.Prelude.{◌⊎◌, nat_le, if◌then◌else◌}
use Rattle.std.proofs.lemmas.Bool.Decides.{nat_tests}
use Rattle.httparse.specs.Grammar.{RequestHead, HasNoRequest, print_request, status_code}
use Rattle.httparse.proofs.GrammarLemmas.{request_unique, response_unique}
use Rattle.misp_http.proofs.Heads.{head_size}
use Rattle.misp_http.proofs.Growing.{all_looked_at}
use Rattle.misp_http.specs.Limits.{head_limit}
use Rattle.misp_http.specs.Headers.{BodyLength, headers_of, body_length}
use Rattle.misp_http.specs.Reading.{Begins, NeverBegins, HasBadHead, IsUndecided, looked_at, after_head, request_of, Refuses, IsRead, IsConclusive, EndsInHead, EndsInBody, AreOne, LeaveOne}
use Rattle.misp_http.specs.Reply.{IsOneReply}
use Rattle.misp_http.specs.declared.fault.Fault.{Fault}
use Rattle.misp_http.specs.declared.fault.Fault.TheVariants as faults
use Rattle.misp_http.specs.declared.fault.HeadFault.{HeadFault}
use Rattle.misp_http.specs.declared.request.Read.{Read}
use Rattle.misp_http.specs.declared.request.Read.TheVariants as reads
use Rattle.misp_http.specs.declared.request.ReadEnd.{ReadEnd}
use Rattle.misp_http.specs.declared.request.ReadEnd.TheVariants as ends

abbrev Outcome : Type 0
Outcome = Result Read ReadEnd

abbrev refused : Fault → Outcome
refused fault = Ok (reads.Refused fault)

abbrev by_length : BodyLength → RequestHead → List ℕ → Outcome
by_length (Ok n) h bytes =
    if nat_le n (length (after_head h bytes)) then Ok (reads.Request (request_of h (take n (after_head h bytes)))) else Err ends.Cut
by_length (Err fault) h bytes = refused (faults.BadHead fault)

-- what is read of bytes that begin with a head
abbrev by_head : RequestHead → List ℕ → Outcome
by_head h bytes = by_length (body_length (headers_of h)) h bytes

abbrev by_number : List ℕ → Outcome
by_number [] = Err ends.Ended
by_number (b ∷ bytes) = Err ends.Cut

-- what is read of bytes that are undecided
abbrev by_undecided : List ℕ → Outcome
by_undecided bytes = if nat_le head_limit (length bytes) then refused faults.LongHead else by_number bytes

-- what is read, by what the bytes begin with
abbrev IsOutcome : List ℕ → Outcome → Type 0
IsOutcome bytes a =
    ((h : RequestHead) × Begins (looked_at bytes) h × (a ≡ by_head h bytes))
    ⊎ ((NeverBegins (looked_at bytes) × (a ≡ refused faults.NoHead))
    ⊎ (IsUndecided (looked_at bytes) × (a ≡ by_undecided bytes)))

head_fault : (bytes : List ℕ) (fault : HeadFault) → HasBadHead (looked_at bytes) fault → IsOutcome bytes (refused (faults.BadHead fault))
head_fault bytes fault (h, begun, is) = inl (h, begun, rw is refl)

le_true : (m n : ℕ) → m ≤ n → nat_le m n ≡ true
le_true m n small = grind (arith, nat_tests)

le_false : (m n : ℕ) → n < m → nat_le m n ≡ false
le_false m n large = grind (arith, nat_tests)

outcome_of_fault : (bytes : List ℕ) (fault : Fault) → Refuses bytes fault → IsOutcome bytes (refused fault)
outcome_of_fault bytes faults.NoHead is = inr (inl (is, refl))
outcome_of_fault bytes faults.LongHead is = inr (inr (is.1, rw (le_true head_limit (length bytes) is.0) refl))
outcome_of_fault bytes (faults.BadHead fault) is = head_fault bytes fault is

some : (bytes : List ℕ) → 0 < length bytes → by_number bytes ≡ Err ends.Cut
some [] is = absurd (omega arith)
some (b ∷ bytes) is = refl

cut_head : (bytes : List ℕ) → EndsInHead bytes → IsOutcome bytes (Err ends.Cut)
cut_head bytes is =
    inr (inr (whole bytes is.1 is.2, rw (le_false head_limit (length bytes) is.1, some bytes is.0) refl))
  where
    whole : (bytes : List ℕ) → length bytes < head_limit → IsUndecided bytes → IsUndecided (looked_at bytes)
    whole bytes short undecided = rw (all_looked_at bytes short) undecided

cut_body : (bytes : List ℕ) → EndsInBody bytes → IsOutcome bytes (Err ends.Cut)
cut_body bytes (h, n, framed, short) = inl (h, framed.head, rw (framed.body, le_false n (length (after_head h bytes)) short) refl)

nothing : HasNoRequest []
nothing h rest reads =
    let size : length {A = ℕ} [] ≡ length (print_request h ++ rest) = ap length reads.1 in
    omega (arith, size, length-append (print_request h) rest, head_size h reads.0.fields)

is_outcome : (bytes : List ℕ) (a : Outcome) (x : Option (List ℕ)) → IsConclusive a → IsRead bytes a x → IsOutcome bytes a
is_outcome bytes (Ok (reads.Request request)) x conclusive is =
    inl (is.head, is.framed.head, rw (is.parts, is.framed.body, le_true is.size (length (after_head is.head bytes)) is.whole) refl)
is_outcome bytes (Ok (reads.Refused fault)) x conclusive refuses = outcome_of_fault bytes fault refuses
is_outcome bytes (Err ends.Ended) x conclusive is = subst (λ xs. IsOutcome xs (Err ends.Ended)) (sym is) (inr (inr ((nothing, λ never. absurd (omega (arith, never.0))), refl)))
is_outcome bytes (Err ends.Cut) x conclusive is = elim is [
  | inl head ↦ cut_head bytes head
  | inr body ↦ cut_body bytes body
]
is_outcome bytes (Err ends.ReadFault) x conclusive is = absurd conclusive
is_outcome bytes (Err ends.NoMemory) x conclusive is = absurd conclusive

never_none : (bytes : List ℕ) → NeverBegins bytes → HasNoRequest bytes
never_none bytes never h rest reads = never.1 [] h rest (rw (append-nil bytes) reads)

pub same_head : (bytes : List ℕ) (h k : RequestHead) → Begins bytes h → Begins bytes k → h ≡ k
same_head bytes h k a b = (request_unique bytes h k a.0 b.0 a.1 b.1).0

pub one_outcome : (bytes : List ℕ) (a b : Outcome) → IsOutcome bytes a → IsOutcome bytes b → a ≡ b
one_outcome bytes a b (inl (h, begun, is)) (inl (k, other, is2)) =
    is ∙ ap (λ head. by_head head bytes) (same_head (looked_at bytes) h k begun other) ∙ sym is2
one_outcome bytes a b (inl (h, begun, is)) (inr (inl (never, is2))) = absurd (never_none (looked_at bytes) never h begun.0 begun.1)
one_outcome bytes a b (inl (h, begun, is)) (inr (inr (undecided, is2))) = absurd (undecided.0 h begun.0 begun.1)
one_outcome bytes a b (inr (inl (never, is))) (inl (k, other, is2)) = absurd (never_none (looked_at bytes) never k other.0 other.1)
one_outcome bytes a b (inr (inl (never, is))) (inr (inl (never2, is2))) = is ∙ sym is2
one_outcome bytes a b (inr (inl (never, is))) (inr (inr (undecided, is2))) = absurd (undecided.1 never)
one_outcome bytes a b (inr (inr (undecided, is))) (inl (k, other, is2)) = absurd (undecided.0 k other.0 other.1)
one_outcome bytes a b (inr (inr (undecided, is))) (inr (inl (never, is2))) = absurd (undecided.1 never)
one_outcome bytes a b (inr (inr (undecided, is))) (inr (inr (undecided2, is2))) = is ∙ sym is2

pub one_reading : (bytes : List ℕ) → AreOne bytes
one_reading bytes a b x y conclusive conclusive2 is is2 = one_outcome bytes a b (is_outcome bytes a x conclusive is) (is_outcome bytes b y conclusive2 is2)

-- two requests leave the same bytes
pub one_left : (bytes : List ℕ) → LeaveOne bytes
one_left bytes a b x y is is2 =
    let same : is.head ≡ is2.head = same_head (looked_at bytes) is.head is2.head is.framed.head is2.framed.head in
    let lengths = sym is.framed.body ∙ ap (λ h. body_length (headers_of h)) same ∙ is2.framed.body in
    let sizes : is.size ≡ is2.size = cc in
    is.left ∙ ap (λ h. Some (drop is.size (after_head h bytes))) same ∙ ap (λ n. Some (drop n (after_head is2.head bytes))) sizes ∙ sym is2.left

-- two replies of the same bytes are one
pub one_reply : (bytes : List ℕ) → IsOneReply bytes
one_reply bytes a b x y is is2 =
    let same = response_unique bytes is.head is2.head x y is.begins.reads is2.begins.reads in
    (is.status_is ∙ ap status_code same.0 ∙ sym is2.status_is, same.1)
