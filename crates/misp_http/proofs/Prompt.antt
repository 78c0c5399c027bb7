-- A head that is whole is seen at once.
use Rattle.std.proofs.Common.{◌≡◌, ◌<◌, ◌≤◌, ℕ, Bool, true, false, List, ◌++◌, [], length, length-drop, append-nil, subst, ◌+◌, Result, Ok, Err, sym, ap, ◌∙◌, inl, inr, arith}
use Rattle.std.specs.Prelude.{◌⊎◌}
use Rattle.httparse.specs.Grammar.{RequestHead, HasNoRequest, print_request}
use Rattle.misp_http.specs.Limits.{head_limit}
use Rattle.misp_http.specs.Headers.{headers_of, body_length}
use Rattle.misp_http.specs.Lines.{ends_head}
use Rattle.misp_http.specs.Reading.{Begins, looked_at, BeginsWithRequest}
use Rattle.misp_http.specs.Parsing.{IsHeadState, IsSeen, IsHeadOf}
use Rattle.misp_http.specs.Finding.{Found, Finds, HasFound}
use Rattle.misp_http.specs.declared.parsing.HeadState.{HeadState}
use Rattle.misp_http.specs.declared.parsing.HeadState.TheVariants as states
use Rattle.misp_http.specs.declared.head.Head.{Head}
use Rattle.misp_http.specs.declared.fault.Fault.{Fault}
use Rattle.misp_http.proofs.Ends.{head_ends}
use Rattle.misp_http.proofs.Growing.{all_looked_at}
use Rattle.misp_http.proofs.Bodies.{head_within}
use Rattle.misp_http.proofs.Readings.{same_head}

pub seen : (bytes : List ℕ) (state : HeadState) → IsHeadState bytes state → IsSeen bytes state
seen bytes (states.Whole head) is = is
seen bytes (states.Faulty fault) is = is
seen bytes states.Undecided is = tt

-- no empty line ended, so no head
pub not_ended : (bytes : List ℕ) → ends_head false true bytes ≡ false → HasNoRequest bytes
not_ended bytes none h rest reads =
    absurd (let whole = head_ends h rest reads.0 in let same : ends_head false true bytes ≡ true = ap (ends_head false true) reads.1 ∙ whole in let bad : false ≡ true = sym none ∙ same in cc)

pub not_yet : (begun empty : Bool) (at : ℕ) (bytes : List ℕ) (ended : Bool) → (at ≡ 0 → ended ≡ ends_head begun empty bytes) → ended ≡ false → at ≡ 0 → begun ≡ false → empty ≡ true → HasNoRequest bytes
not_yet begun empty at bytes ended says none at_start not_begun is_empty =
    let here : ends_head begun empty bytes ≡ false = sym (says at_start) ∙ none in
    not_ended bytes (rw (not_begun, is_empty) at here)

-- a loop that reads on has not begun yet, or the bytes at first begin with no head
abbrev pub Unasked : {S : Type 0} → S → S → List ℕ → List ℕ → ℕ → Bool → Bool → Type 0
Unasked now first rest bytes at begun empty =
    ((now ≡ first) × (rest ≡ bytes) × (at ≡ 0) × (begun ≡ false) × (empty ≡ true))
    ⊎ ((h : RequestHead) → Begins (looked_at bytes) h → ⊥)

pub still : {S : Type 0} (now first : S) (rest bytes : List ℕ) (at : ℕ) (begun empty : Bool) → Unasked now first rest bytes at begun empty → (h : RequestHead) → Begins (looked_at bytes) h → (now ≡ first) × (rest ≡ bytes)
still now first rest bytes at begun empty (inl same) h begins = (same.0, same.1)
still now first rest bytes at begun empty (inr none) h begins = absurd (none h begins)

-- where it stays undecided, the bytes at first begin with no head
pub undecided : {S : Type 0} (now first : S) (rest bytes : List ℕ) (at : ℕ) (begun empty : Bool) → length rest < head_limit → Unasked now first rest bytes at begun empty → (at ≡ 0 → begun ≡ false → empty ≡ true → HasNoRequest rest) → (h : RequestHead) → Begins (looked_at bytes) h → ⊥
undecided now first rest bytes at begun empty short (inr none) says h begins = none h begins
undecided now first rest bytes at begun empty short (inl same) says h begins =
    let here : Begins (looked_at rest) h = rw same.1 begins in
    let whole : Begins rest h = rw (all_looked_at rest short) at here in
    says same.2 same.3 same.4 h whole.0 whole.1

pub undecided_at : {S : Type 0} (now first : S) (rest bytes looked : List ℕ) (at : ℕ) (begun empty : Bool) → looked ≡ rest → length rest < head_limit → Unasked now first rest bytes at begun empty → (at ≡ 0 → begun ≡ false → empty ≡ true → HasNoRequest looked) → (h : RequestHead) → Begins (looked_at bytes) h → ⊥
undecided_at now first rest bytes looked at begun empty same short unasked says h begins =
    undecided now first rest bytes at begun empty short unasked (λ a b e. rw same at (says a b e)) h begins

-- ---- where the head is

pub here_early : (bytes looked : List ℕ) (state : HeadState) (head : Head) → looked ≡ bytes → state ≡ states.Whole head → length bytes < head_limit → IsSeen looked state → (h : RequestHead) × Begins (looked_at bytes) h × IsHeadOf h head
here_early bytes looked state head same is short found =
    let seen_here : IsSeen bytes (states.Whole head) = rw (same, is) at found in
    (seen_here.0, rw (all_looked_at bytes short) seen_here.1, seen_here.2)

pub here_end : (bytes : List ℕ) (found : Found) → Finds bytes found → HasFound bytes found
here_end bytes (Ok (Ok head)) is = is
here_end bytes (Ok (Err fault)) is = tt
here_end bytes (Err end) is = tt

pub whole_size : (bytes : List ℕ) (k : RequestHead) (head : Head) → (whole : BeginsWithRequest bytes) → Begins (looked_at bytes) k → IsHeadOf k head → head.size + head.body_size ≤ length bytes
whole_size bytes k head whole begins is =
    let same : k ≡ whole.head = same_head (looked_at bytes) k whole.head begins whole.framed.head in
    let body = sym is.body_size ∙ ap (λ h. body_length (headers_of h)) same ∙ whole.framed.body in
    let bodies : head.body_size ≡ whole.size = cc in
    let heads : head.size ≡ length (print_request whole.head) = is.size ∙ ap (λ h. length (print_request h)) same in
    omega (arith, bodies, heads, whole.whole, length-drop (length (print_request whole.head)) bytes, head_within bytes whole.head whole.framed.head)

pub here_limit : (bytes looked : List ℕ) (found : Result Head Fault) → looked ≡ bytes → ((more : List ℕ) → Finds (looked ++ more) (Ok found)) → HasFound bytes (Ok found)
here_limit bytes looked found same finds =
    here_end bytes (Ok found) (subst (λ xs. Finds xs (Ok found)) (append-nil looked ∙ same) (finds []))

pub body_there : (bytes now : List ℕ) (found : Found) (parsed : Result Head Fault) (head : Head) → found ≡ Ok parsed → parsed ≡ Ok head → now ≡ bytes → HasFound now found → BeginsWithRequest bytes → head.size + head.body_size ≤ length now
body_there bytes now found parsed head found_is parsed_is same has_found whole =
    let here : HasFound now (Ok (Ok head)) = rw (found_is, parsed_is) at has_found in
    let begins : Begins (looked_at bytes) here.0 = rw same at here.1 in
    rw same (whole_size bytes here.0 head whole begins here.2)
