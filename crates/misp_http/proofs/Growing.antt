-- What bytes begin with, and whether they are faulty, stays as more bytes come.
use Rattle.std.proofs.Common.{◌≡◌, ℕ, zero, suc, ◌-◌, ◌<◌, ◌≤◌, ◌==◌, List, [], ◌∷◌, ◌++◌, length, take, Option, Some, None, Ok, Err, refl, sym, ap, ◌∙◌, subst, cond, arith, append_assoc, append-nil, length-append}
use Rattle.std.specs.Prelude.{IfSome}
use Rattle.std.specs.Io.KnownBytes.{prepend_known, Keeps, IsAtEnd}
use Rattle.std.proofs.lemmas.List.{take_all, take-append-le}
use Rattle.std.proofs.lemmas.List.Sums.{sum_by-append}
use Rattle.httparse.specs.Grammar.{RequestHead}
use Rattle.httparse.proofs.GrammarLemmas.{ReadsRequest-append}
use Rattle.misp_http.specs.Limits.{head_limit}
use Rattle.misp_http.specs.Reading.{spaces, Begins, NeverBegins, HasBadHead, looked_at, Refuses}
use Rattle.misp_http.specs.Parsing.{IsFaulty, IsHeadState, IsSeen}
use Rattle.misp_http.specs.Finding.{Finds, FindsSoFar}
use Rattle.misp_http.specs.declared.fault.Fault.{Fault}
use Rattle.misp_http.specs.declared.fault.Fault.TheVariants.{NoHead, LongHead, BadHead}
use Rattle.misp_http.specs.declared.fault.HeadFault.{HeadFault}
use Rattle.misp_http.specs.declared.head.Head.{Head}
use Rattle.misp_http.specs.declared.parsing.HeadState.{HeadState}
use Rattle.misp_http.specs.declared.parsing.HeadState.TheVariants as states

pub all_looked_at : (bytes : List ℕ) → length bytes < head_limit → looked_at bytes ≡ bytes
all_looked_at bytes short = take_all head_limit bytes (omega arith)

pub taken : (n : ℕ) (xs ys : List ℕ) → length xs ≤ n → take n (xs ++ ys) ≡ xs ++ take (n - length xs) ys
taken n [] ys short = let whole : n - 0 ≡ n = omega arith in rw whole refl
taken zero (x ∷ xs) ys short = absurd (omega arith)
taken (suc n) (x ∷ xs) ys short =
    let less : suc n - length (x ∷ xs) ≡ n - length xs = omega arith in
    rw less (ap (λ zs. x ∷ zs) (taken n xs ys (omega arith)))

-- of more bytes the first are looked at too
more_looked_at : (bytes more : List ℕ) → length bytes ≤ head_limit → (others : List ℕ) × (looked_at (bytes ++ more) ≡ bytes ++ others)
more_looked_at bytes more short = (take (head_limit - length bytes) more, taken head_limit bytes more short)

begins_more : (bytes more : List ℕ) (h : RequestHead) → Begins bytes h → Begins (bytes ++ more) h
begins_more bytes more h begun = (_, ReadsRequest-append bytes h begun.0 more begun.1)

more_spaces : (bytes more : List ℕ) → spaces bytes ≤ spaces (bytes ++ more)
more_spaces bytes more = omega (arith, sum_by-append (λ byte. cond (byte == 32) 1 0) bytes more)

never_more : (bytes more : List ℕ) → NeverBegins bytes → NeverBegins (bytes ++ more)
never_more bytes more never = (
  omega (arith, never.0, more_spaces bytes more),
  λ others. rw (append_assoc bytes more others) (never.1 (more ++ others)),
)

bad_more : (bytes more : List ℕ) (fault : HeadFault) → HasBadHead bytes fault → HasBadHead (bytes ++ more) fault
bad_more bytes more fault bad = (bad.0, begins_more bytes more bad.0 bad.1, bad.2)

faulty_more : (bytes more : List ℕ) (fault : Fault) → IsFaulty bytes fault → IsFaulty (bytes ++ more) fault
faulty_more bytes more NoHead faulty = never_more bytes more faulty
faulty_more bytes more LongHead faulty = absurd faulty
faulty_more bytes more (BadHead fault) faulty = bad_more bytes more fault faulty

pub refuses : (bytes : List ℕ) (fault : Fault) → IsFaulty (looked_at bytes) fault → Refuses bytes fault
refuses bytes NoHead faulty = faulty
refuses bytes LongHead faulty = absurd faulty
refuses bytes (BadHead fault) faulty = faulty

-- what was found in the first bytes is found in all
pub found_so_far : (bytes : List ℕ) (state : HeadState) → length bytes ≤ head_limit → IsHeadState bytes state → FindsSoFar bytes state
found_so_far bytes (states.Whole head) short is = λ more.
    let looked = more_looked_at bytes more short in
    (is.0, rw looked.1 (begins_more bytes looked.0 is.0 is.1), is.2)
found_so_far bytes (states.Faulty fault) short is = λ more.
    let looked = more_looked_at bytes more short in
    refuses (bytes ++ more) fault (rw looked.1 (faulty_more bytes looked.0 fault is))
found_so_far bytes states.Undecided short is = is

pub head_so_far : (bytes seen : List ℕ) (state : HeadState) (head : Head) → seen ≡ bytes → state ≡ states.Whole head → length bytes < head_limit → IsSeen seen state → (more : List ℕ) → Finds (bytes ++ more) (Ok (Ok head))
head_so_far bytes seen state head same is short found = found_so_far bytes (states.Whole head) (omega arith) (rw (same, is) at found)

pub faulty_so_far : (bytes seen : List ℕ) (state : HeadState) (fault : Fault) → seen ≡ bytes → state ≡ states.Faulty fault → length bytes < head_limit → IsSeen seen state → (more : List ℕ) → Finds (bytes ++ more) (Ok (Err fault))
faulty_so_far bytes seen state fault same is short found = found_so_far bytes (states.Faulty fault) (omega arith) (rw (same, is) at found)

-- what is known of all bytes that may follow is known of those that do
pub known_of_all : (old : Option (List ℕ)) (rest : List ℕ) (left : Option (List ℕ)) (P : List ℕ → Type 0) → Keeps old (prepend_known rest left) → ((more : List ℕ) → P (rest ++ more)) → IfSome old P
known_of_all None rest left P kept known = tt
known_of_all (Some bytes) rest None P kept known = absurd kept
known_of_all (Some bytes) rest (Some more) P kept known = subst P kept (known more)

pub known_at_end : (old : Option (List ℕ)) (rest : List ℕ) (left : Option (List ℕ)) (P : List ℕ → Type 0) → Keeps old (prepend_known rest left) → IsAtEnd left → P rest → IfSome old P
known_at_end None rest left P kept end known = tt
known_at_end (Some bytes) rest None P kept end known = absurd kept
known_at_end (Some bytes) rest (Some more) P kept end known = subst P (sym (append-nil rest) ∙ ap (λ xs. rest ++ xs) (sym end) ∙ kept) known

pub known_before : (old new : Option (List ℕ)) (P : List ℕ → Type 0) → Keeps old new → IfSome new P → IfSome old P
known_before None new P kept known = tt
known_before (Some bytes) None P kept known = absurd kept
known_before (Some bytes) (Some same) P kept known = subst P kept known

pub keeps_all : (old : Option (List ℕ)) → Keeps old old
keeps_all None = tt
keeps_all (Some bytes) = refl

pub keeps_more : (old mid new : Option (List ℕ)) → Keeps old mid → Keeps mid new → Keeps old new
keeps_more None mid new a b = tt
keeps_more (Some old) None new a b = absurd a
keeps_more (Some old) (Some mid) None a b = absurd b
keeps_more (Some old) (Some mid) (Some new) a b = b ∙ a

-- ---- where as many bytes came as are looked at

looked_at_limit : (bytes more : List ℕ) → head_limit ≤ length bytes → looked_at (bytes ++ more) ≡ take head_limit bytes
looked_at_limit bytes more long = take-append-le head_limit bytes more long

pub head_at_the_limit : (bytes : List ℕ) (head : Head) → head_limit ≤ length bytes → IsHeadState (take head_limit bytes) (states.Whole head) → (more : List ℕ) → Finds (bytes ++ more) (Ok (Ok head))
head_at_the_limit bytes head long is more = (is.0, rw (looked_at_limit bytes more long) is.1, is.2)

pub faulty_at_the_limit : (bytes : List ℕ) (fault : Fault) → head_limit ≤ length bytes → IsHeadState (take head_limit bytes) (states.Faulty fault) → (more : List ℕ) → Finds (bytes ++ more) (Ok (Err fault))
faulty_at_the_limit bytes fault long is more = refuses (bytes ++ more) fault (rw (looked_at_limit bytes more long) is)

pub undecided_at_the_limit : (bytes : List ℕ) → head_limit ≤ length bytes → IsHeadState (take head_limit bytes) states.Undecided → (more : List ℕ) → Finds (bytes ++ more) (Ok (Err LongHead))
undecided_at_the_limit bytes long is more = (omega (arith, length-append bytes more), rw (looked_at_limit bytes more long) is)
