-- Facts on the grammar of heads.
use Rattle.std.proofs.Common.{◌≡◌, ◌≤◌, ◌<◌, ◌+◌, ◌*◌, ◌==◌, ℕ, Bool, true, false, cond, List, [], ◌∷◌, ◌++◌, length, flat_map, refl, ap, arith, inl, inr, length-append, append-nil}
use Rattle.std.specs.Prelude.{All}
use Rattle.std.proofs.lemmas.List.Elements.{All-head, All-tail}
use Rattle.std.proofs.lemmas.List.Sums.{sum_by-append}
use Rattle.httparse.specs.Grammar.{LineEnd, crlf, lf, print_end, print_blank, Field, IsField, print_field, RequestHead, print_request, NeverHasRequest, EndsInTarget, MayBecomeRequest, AllPass, is_token_byte, is_uri_byte}
use Rattle.httparse.specs.Spans.{RequestExceeds}
use Rattle.httparse.proofs.GrammarLemmas.{print_request-append}
use Rattle.misp_http.specs.Reading.{spaces}

end_size : (e : LineEnd) → 1 ≤ length (print_end e)
end_size crlf = grind arith
end_size lf = grind arith

field_size : (f : Field) → IsField f → 3 ≤ length (print_field f)
field_size f h =
    let end = end_size f.end in
    let name : 0 < length f.name = h.name.0 in
    simp length-append (omega arith)

fields_size : (fs : List Field) → All IsField fs → 3 * length fs ≤ length (flat_map print_field fs)
fields_size [] h = grind arith
fields_size (f ∷ fs) h =
    let one = field_size f (All-head IsField f fs h) in
    let more = fields_size fs (All-tail IsField f fs h) in
    omega (arith, length-append (print_field f) (flat_map print_field fs))

pub head_size : (h : RequestHead) → All IsField h.fields → 3 * length h.fields + 10 ≤ length (print_request h)
head_size h fields =
    let size = fields_size h.fields fields in
    let text : length (print_request h ++ []) ≡ _ = ap length (print_request-append h []) in
    let text2 = simp (append-nil, length-append) at text in
    omega (arith, text2)

pub no_exceeding : (room : ℕ) (bytes : List ℕ) → RequestExceeds room bytes → length bytes ≤ 3 * room → ⊥
no_exceeding room bytes (front, rest, is, h, reads, over) room_is =
    let size = head_size h reads.0.fields in
    let whole : length (front ++ 10 ∷ []) ≡ length (print_request h ++ []) = ap length reads.1 in
    let whole2 = simp (append-nil, length-append) at whole in
    let part : length bytes ≡ length (front ++ rest) = ap length is in
    omega (arith, whole2, part, length-append front rest)

-- ---- spaces

no_space : (bs : List ℕ) (test : ℕ → Bool) → test 32 ≡ false → AllPass test bs → spaces bs ≡ 0
no_space [] test at_space h = refl
no_space (b ∷ bs) test at_space h =
    let here = All-head (λ x. test x ≡ true) b bs h in
    let more = no_space bs test at_space (All-tail (λ x. test x ≡ true) b bs h) in
    grind (arith, here, more)

blank_spaces : (ends : List LineEnd) → spaces (print_blank ends) ≡ 0
blank_spaces [] = refl
blank_spaces (crlf ∷ ends) = blank_spaces ends
blank_spaces (lf ∷ ends) = blank_spaces ends

token_space : is_token_byte 32 ≡ false
unfolding is_token_byte
token_space = refl

ends_in_target : (bytes : List ℕ) → EndsInTarget bytes → spaces bytes ≡ 1
ends_in_target bytes (blank, method, target, is_method, is_target, is) =
    let a = blank_spaces blank in
    let b = no_space method is_token_byte token_space is_method.1 in
    let c = no_space target is_uri_byte refl is_target in
    let f : ℕ → ℕ = λ x. cond (x == 32) 1 0 in
    let d : spaces (32 ∷ target) ≡ 1 + spaces target = sum_by-append f (32 ∷ []) target in
    rw is (rw (sum_by-append f (print_blank blank ++ method) (32 ∷ target), sum_by-append f (print_blank blank) method) (omega (arith, a, b, c, d)))

pub may_begin : (bytes : List ℕ) → MayBecomeRequest bytes → NeverHasRequest bytes → 2 ≤ spaces bytes → ⊥
may_begin bytes (inl m) never two = never m.0 m.1 [] m.2
may_begin bytes (inr e) never two = omega (arith, ends_in_target bytes e)
