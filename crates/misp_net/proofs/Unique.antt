-- A script has one list of acts.
use Rattle.std.proofs.Common.{◌≡◌, ◌≢◌, ℕ, suc, ◌<◌, Bool, true, false, List, [], ◌∷◌, ◌++◌, Option, Some, None, Result, Ok, Err, refl, sym, ◌∙◌, ap, subst, arith}
use Rattle.std.specs.List.{AllByRecursion}
use Rattle.misp_script.specs.Step.{CommandData}
use Rattle.misp_http.specs.Reading.{IsRead}
use Rattle.misp_http.specs.declared.request.Read.{Read}
use Rattle.misp_http.specs.declared.request.Read.TheVariants as reads
use Rattle.misp_http.specs.declared.request.ReadEnd.{ReadEnd}
use Rattle.misp_http.specs.declared.request.ReadEnd.TheVariants as reading
use Rattle.misp_http.proofs.Readings.{one_left, one_reading}
use Rattle.misp_api.specs.Turn.{closes}
use Rattle.misp_api.specs.declared.TheConstants.{MAX_REQUESTS}
use Rattle.misp_api.specs.declared.sessions.End.{End}
use Rattle.misp_api.specs.declared.sessions.End.TheVariants as ends
use Rattle.misp_core.specs.declared.reply.Reply.{Reply}
use Rattle.misp_net.specs.Acts.{AreDone, AreRead, Deed, Does, DoesCommand, DoesOne, Done, EndsHere, GoesOn, HasMemory, Session, act, acts_done, acts_of, asks_from, request_deed}
use Rattle.misp_net.specs.Lines.{Line}
use Rattle.misp_script.specs.Step as commands

-- ---- the requests of a connection

-- what was read twice
abbrev IsSame : Result Read ReadEnd → Result Read ReadEnd → Type 0
IsSame a b = a ≡ b

-- requests and an end are these
abbrev AreThese : List Read → End → List Read → End → Type 0
AreThese xs x ys y = (xs ≡ ys) × (x ≡ y)

-- bytes that have ended are no request
no_more : (n : ℕ) (bytes : List ℕ) (x : End) (read : Read) (left : Option (List ℕ)) → n < MAX_REQUESTS → EndsHere n bytes x → x ≢ ends.NoMemory → IsRead bytes (Ok read) left → ⊥
no_more n bytes ends.Ended read left few ended memory is =
    let no_ : IsSame (Err reading.Ended) (Ok read) = one_reading bytes (Err reading.Ended) (Ok read) None left tt tt ended.1 is in cc
no_more n bytes ends.Cut read left few ended memory is =
    let no_ : IsSame (Err reading.Cut) (Ok read) = one_reading bytes (Err reading.Cut) (Ok read) ended.1.0 left tt tt ended.1.1 is in cc
no_more n bytes ends.Quota read left few ended memory is = omega (arith, few, ended)
no_more n bytes ends.NoMemory read left few ended memory is = memory refl
no_more n bytes ends.Closed read left few ended memory is = ended
no_more n bytes ends.ReadFault read left few ended memory is = ended
no_more n bytes ends.WriteFault read left few ended memory is = ended

never_both : (bytes : List ℕ) (left : Option (List ℕ)) → bytes ≡ [] → IsRead bytes (Err reading.Cut) left → ⊥
never_both bytes left none cut =
    let no_ : IsSame (Err reading.Ended) (Err reading.Cut) = one_reading bytes (Err reading.Ended) (Err reading.Cut) None left tt tt none cut in cc

one_end : (n : ℕ) (bytes : List ℕ) (x y : End) → EndsHere n bytes x → EndsHere n bytes y → x ≢ ends.NoMemory → y ≢ ends.NoMemory → x ≡ y
one_end n bytes ends.Ended ends.Ended a b first second = refl
one_end n bytes ends.Ended ends.Cut a b first second = absurd (never_both bytes b.1.0 a.1 b.1.1)
one_end n bytes ends.Ended ends.Quota a b first second = absurd (omega (arith, a.0, b))
one_end n bytes ends.Cut ends.Ended a b first second = absurd (never_both bytes a.1.0 b.1 a.1.1)
one_end n bytes ends.Cut ends.Cut a b first second = refl
one_end n bytes ends.Cut ends.Quota a b first second = absurd (omega (arith, a.0, b))
one_end n bytes ends.Quota ends.Ended a b first second = absurd (omega (arith, a, b.0))
one_end n bytes ends.Quota ends.Cut a b first second = absurd (omega (arith, a, b.0))
one_end n bytes ends.Quota ends.Quota a b first second = refl
one_end n bytes ends.NoMemory y a b first second = absurd (first refl)
one_end n bytes ends.Closed y a b first second = absurd a
one_end n bytes ends.ReadFault y a b first second = absurd a
one_end n bytes ends.WriteFault y a b first second = absurd a
one_end n bytes x ends.NoMemory a b first second = absurd (second refl)
one_end n bytes x ends.Closed a b first second = absurd b
one_end n bytes x ends.ReadFault a b first second = absurd b
one_end n bytes x ends.WriteFault a b first second = absurd b

-- what follows a request is one list, where what is behind it is
one_rest : (close : Bool) (n : ℕ) (xs ys : List Read) (x y : End) (left rest : Option (List ℕ)) → (close ≡ false → left ≡ rest)
    → GoesOn close ((xs ≡ []) × (x ≡ ends.Closed)) (λ bytes. AreRead n bytes xs x) left
    → GoesOn close ((ys ≡ []) × (y ≡ ends.Closed)) (λ bytes. AreRead n bytes ys y) rest
    → ((bytes : List ℕ) → AreRead n bytes xs x → AreRead n bytes ys y → AreThese xs x ys y) → AreThese xs x ys y
one_rest true n xs ys x y left rest same a b more = (a.0 ∙ sym b.0, a.1 ∙ sym b.1)
one_rest false n xs ys x y None rest same a b more = absurd a
one_rest false n xs ys x y (Some bytes) None same a b more = absurd b
one_rest false n xs ys x y (Some bytes) (Some others) same a b more =
    let one : bytes ≡ others = let some : Some bytes ≡ Some others = same refl in cc in
    more bytes a (subst (λ bs. AreRead n bs ys y) (sym one) b)

-- two requests that these bytes are leave the same, where the first does not close
one_behind : (bytes : List ℕ) (read that : Read) (left rest : Option (List ℕ)) → read ≡ that → IsRead bytes (Ok read) left → IsRead bytes (Ok that) rest → closes read ≡ false → left ≡ rest
one_behind bytes (reads.Request r) (reads.Request s) left rest same a b stays = one_left bytes r s left rest a b
one_behind bytes (reads.Request r) (reads.Refused fault) left rest same a b stays = absurd cc
one_behind bytes (reads.Refused fault) that left rest same a b stays = absurd cc

one_list : (n : ℕ) (bytes : List ℕ) (xs ys : List Read) (x y : End) → AreRead n bytes xs x → AreRead n bytes ys y → x ≢ ends.NoMemory → y ≢ ends.NoMemory → AreThese xs x ys y
one_list n bytes [] [] x y a b first second = (refl, one_end n bytes x y a b first second)
one_list n bytes [] (that ∷ ys) x y a b first second = absurd (no_more n bytes x that b.1.0 b.0 a first b.1.1)
one_list n bytes (read ∷ xs) [] x y a b first second = absurd (no_more n bytes y read a.1.0 a.0 b second a.1.1)
one_list n bytes (read ∷ xs) (that ∷ ys) x y a b first second =
    let ok : IsSame (Ok read) (Ok that) = one_reading bytes (Ok read) (Ok that) a.1.0 b.1.0 tt tt a.1.1 b.1.1 in
    let one : read ≡ that = cc in
    let rest : AreThese xs x ys y =
    one_rest (closes read) (suc n) xs ys x y a.1.0 b.1.0 (one_behind bytes read that a.1.0 b.1.0 one a.1.1 b.1.1) a.1.2
    (subst (λ r. GoesOn (closes r) ((ys ≡ []) × (y ≡ ends.Closed)) (λ bs. AreRead (suc n) bs ys y) b.1.0) (sym one) b.1.2)
    (λ bs as_ bs_. one_list (suc n) bs xs ys x y as_ bs_ first second) in
    ((λ i. one i ∷ rest.0 i), rest.1)

-- ---- lines

-- two that were done of a line have the same acts
abbrev HaveOne : Done → Done → Type 0
HaveOne d e = acts_done d ≡ acts_done e

one_act : (time word : ℕ) (deed other : Deed) (d e : Done) → deed ≡ other → DoesOne time word deed d → DoesOne time word other e → HaveOne d e
one_act time word deed other d e same does that =
    ap acts_done does.1 ∙ ap (λ x. act time word x ∷ []) same ∙ sym (ap acts_done that.1)

has_memory : (time word at : ℕ) (asked : List Read) (replies : List Reply) (end : End) → HasMemory (Session time word at asked replies end) → end ≢ ends.NoMemory
has_memory time word at asked replies ends.NoMemory memory is = memory
has_memory time word at asked replies ends.Closed memory is = cc
has_memory time word at asked replies ends.Ended memory is = cc
has_memory time word at asked replies ends.Cut memory is = cc
has_memory time word at asked replies ends.Quota memory is = cc
has_memory time word at asked replies ends.ReadFault memory is = cc
has_memory time word at asked replies ends.WriteFault memory is = cc

one_command : (time word : ℕ) (command : CommandData) (d e : Done) → DoesCommand time word command d → DoesCommand time word command e → HasMemory d → HasMemory e → HaveOne d e
one_command time word commands.Nothing d e does that first second = one_act time word _ _ d e refl does that
one_command time word (commands.Request r) d e (read, left, sure, is, does) (found, rest, certain, was, that) first second =
    one_act time word (request_deed r.at read) (request_deed r.at found) d e (ap (request_deed r.at) (one_reading _ read found left rest sure certain is was)) does that
one_command time word (commands.Raw r) d e (asked, replies, end, are, is) (found, others, last, were, was) first second =
    let one = one_list 0 r.bytes asked found end last are were
    (has_memory time word r.at asked replies end (subst HasMemory is first)) (has_memory time word r.at found others last (subst HasMemory was second)) in
    ap acts_done is ∙ ap (asks_from time word r.at) one.0 ∙ sym (ap acts_done was)
one_command time word (commands.Group group) d e does that first second = one_act time word _ _ d e refl does that
one_command time word (commands.Sync line) d e does that first second = one_act time word _ _ d e refl does that

one_line : (line : Line) (d e : Done) → Does line d → Does line e → HasMemory d → HasMemory e → HaveOne d e
one_line (Ok step) d e does that first second = one_command step.time step.word step.command d e does that first second
one_line (Err bad) d e does that first second = one_act 0 0 _ _ d e refl does that

pub one_script : (lines : List Line) (ds es : List Done) → AreDone lines ds → AreDone lines es → AllByRecursion HasMemory ds → AllByRecursion HasMemory es → acts_of ds ≡ acts_of es
one_script [] [] [] done that first second = refl
one_script [] [] (e ∷ es) done that first second = absurd that
one_script [] (d ∷ ds) es done that first second = absurd done
one_script (line ∷ lines) [] es done that first second = absurd done
one_script (line ∷ lines) (d ∷ ds) [] done that first second = absurd that
one_script (line ∷ lines) (d ∷ ds) (e ∷ es) done that first second =
    (λ i. one_line line d e done.0 that.0 first.0 second.0 i ++ one_script lines ds es done.1 that.1 first.1 second.1 i)
