-- The tokens of a pattern take a path where its words take the path's segments.
use Rattle.std.proofs.Common.{◌≡◌, ◌∙◌, ℕ, Bool, true, false, not, ◌==◌, ◌&&◌, if◌then◌else◌, List, [], ◌∷◌, bytes_eq, refl, sym, ap, arith, inl, inr}
use Rattle.std.specs.Cmp.Lexicographic.{pointwise}
use Rattle.std.proofs.lemmas.Bool.{cases_Bool, and_from, and_parts, and_right, eqb-true, false≢true}
use Rattle.std.proofs.lemmas.Bool.Decides.{nat_tests}
use Rattle.std.proofs.lemmas.Slice.Eq.{bytes_eq-Decides}
use Rattle.misp_api.specs.Pattern.{segments, is_name, takes, fits_pattern}
use Rattle.misp_api.proofs.Tokens.{fits, stops, is_apart}

-- ---- the first segment, and the others

abbrev first_of : List ℕ → List ℕ
first_of [] = []
first_of (b ∷ t) = if b == 47 then [] else b ∷ first_of t

abbrev others : List ℕ → List (List ℕ)
others [] = []
others (b ∷ t) = if b == 47 then segments t else others t

segments_split : (t : List ℕ) → segments t ≡ first_of t ∷ others t
segments_split [] = refl
segments_split (b ∷ t) =
    elim (cases_Bool (b == 47)) [
      | inl slash ↦ rw slash refl
      | inr other ↦ rw (other, segments_split t) refl
    ]

-- ---- words of tokens

abbrev is_wild : List ℕ → Bool
is_wild [] = false
is_wild (x ∷ u) = x == 256

-- as `takes`, of tokens
abbrev taken : List ℕ → List ℕ → Bool
taken u segment = if is_wild u then not (bytes_eq [] segment) else bytes_eq u segment

-- tokens are those of a word
abbrev is_read : List ℕ → List ℕ → Bool
is_read word u = if is_wild u then is_name word else not (is_name word) && bytes_eq word u

no_test : (c : Bool) → not c ≡ true → c ≡ false
no_test true h = absurd (false≢true h)
no_test false h = refl

word_taken : (word u segment : List ℕ) → is_read word u ≡ true → takes word segment ≡ taken u segment
word_taken word u segment h =
    elim (cases_Bool (is_wild u)) [
      | inl wild ↦ let name : is_name word ≡ true = rw wild at h in rw (wild, name) refl
      | inr plain ↦
          let parts = and_parts (not (is_name word)) (bytes_eq word u) (rw plain at h) in
          rw (plain, no_test (is_name word) parts.0) (ap (λ w. bytes_eq w segment) ((bytes_eq-Decides word u).0 parts.1))
    ]

words_taken : (words us ss : List (List ℕ)) → pointwise is_read words us ≡ true → pointwise takes words ss ≡ pointwise taken us ss
words_taken [] [] [] h = refl
words_taken [] [] (s ∷ ss) h = refl
words_taken [] (u ∷ us) ss h = absurd (false≢true h)
words_taken (w ∷ words) [] ss h = absurd (false≢true h)
words_taken (w ∷ words) (u ∷ us) [] h = refl
words_taken (w ∷ words) (u ∷ us) (s ∷ ss) h =
    let parts = and_parts (is_read w u) (pointwise is_read words us) h in
    ap (λ c. c && pointwise takes words ss) (word_taken w u s parts.0) ∙ ap (λ c. taken u s && c) (words_taken words us ss parts.1)

-- ---- tokens segment by segment

-- what a walk asks of the rest of a segment: all of it, at its start, or bytes alone, behind that
abbrev in_segment : Bool → List ℕ → List ℕ → Bool
in_segment true u segment = taken u segment
in_segment false u segment = bytes_eq u segment

abbrev behind : List ℕ → List ℕ → Bool
behind t p = pointwise taken (others t) (others p)

abbrev takes_rest : Bool → Bool → List ℕ → List ℕ → Bool
takes_rest true first t p = behind t p
takes_rest false first t p = in_segment first (first_of t) (first_of p) && behind t p

abbrev is_good : Bool → Bool → List ℕ → Bool
is_good true first t = stops t && is_apart false t
is_good false first t = is_apart first t

nothing_else : (first : Bool) (segment : List ℕ) → in_segment first [] segment ≡ bytes_eq [] segment
nothing_else true segment = refl
nothing_else false segment = refl

not_empty : (first : Bool) (x : ℕ) (u : List ℕ) → in_segment first (x ∷ u) [] ≡ false
not_empty false x u = refl
not_empty true x u =
    elim (cases_Bool (x == 256)) [
      | inl wild ↦ rw wild refl
      | inr plain ↦ rw plain refl
    ]

as_bytes : (first : Bool) (x : ℕ) (t segment : List ℕ) → (x == 256) ≡ false → in_segment first (first_of (x ∷ t)) segment ≡ bytes_eq (first_of (x ∷ t)) segment
as_bytes false x t segment plain = refl
as_bytes true x t segment plain =
    elim (cases_Bool (x == 47)) [
      | inl slash ↦ rw slash refl
      | inr other ↦ rw (other, plain) refl
    ]

whole : (t p : List ℕ) → pointwise taken (segments t) (segments p) ≡ takes_rest false true t p
whole t p = rw (segments_split t, segments_split p) refl

flip : (e : ℕ) → (e == 47) ≡ false → (47 == e) ≡ false
flip e h = grind (arith, nat_tests)

and_assoc : (a b c : Bool) → ((a && b) && c) ≡ (a && (b && c))
and_assoc true b c = refl
and_assoc false b c = refl

past_slash : (x : ℕ) (t : List ℕ) → x ≡ 47 → is_apart false (x ∷ t) ≡ true → is_apart true t ≡ true
past_slash x t same h = rw same at h

past_name : (x : ℕ) (t : List ℕ) → x ≡ 256 → is_apart (x == 47) t ≡ true → is_apart false t ≡ true
past_name x t same h = rw same at h

by_segments : (w first : Bool) (t p : List ℕ) → is_good w first t ≡ true → fits w t p ≡ takes_rest w first t p
by_segments true first [] [] h = refl
by_segments false true [] [] h = refl
by_segments false false [] [] h = refl
by_segments true first [] (b ∷ p) h =
    elim (cases_Bool (b == 47)) [
      | inl slash ↦ rw (slash, segments_split p) refl
      | inr other ↦ rw other (by_segments true first [] p h)
    ]
by_segments false first [] (b ∷ p) h =
    elim (cases_Bool (b == 47)) [
      | inl slash ↦ rw (slash, segments_split p) (sym (and_right (in_segment first [] []) false refl))
      | inr other ↦ rw (other, nothing_else first (b ∷ first_of p)) refl
    ]
by_segments true first (x ∷ t) [] h =
    let slash = (and_parts (x == 47) (is_apart false (x ∷ t)) h).0 in
    rw (slash, segments_split t) refl
by_segments false first (x ∷ t) [] h =
    elim (cases_Bool (x == 47)) [
      | inl slash ↦ rw (slash, segments_split t) (sym (and_right (in_segment first [] []) false refl))
      | inr other ↦ rw (other, not_empty first x (first_of t)) refl
    ]
by_segments true first (x ∷ t) (b ∷ p) h =
    let slash = (and_parts (x == 47) (is_apart false (x ∷ t)) h).0 in
    elim (cases_Bool (b == 47)) [
      | inl ends ↦
          let same = eqb-true x 47 slash in
          rw (ends, same) (by_segments false true t p (past_slash x t same (and_parts (x == 47) (is_apart false (x ∷ t)) h).1) ∙ sym (whole t p))
      | inr other ↦ rw other (by_segments true first (x ∷ t) p h)
    ]
by_segments false first (x ∷ t) (b ∷ p) h =
    let apart = and_parts (if x == 256 then first && stops t else true) (is_apart (x == 47) t) h in
    elim (cases_Bool (x == 256)) [
      | inl wild ↦
          let parts = and_parts first (stops t) (rw wild at apart.0) in
          let name = eqb-true x 256 wild in
          elim (cases_Bool (b == 47)) [
            | inl slash ↦ rw (parts.0, name, slash) refl
            | inr other ↦ rw (parts.0, name, other) (by_segments true true t p (and_from (stops t) (is_apart false t) parts.1 (past_name x t name apart.1)))
          ]
      | inr plain ↦
          let after = apart.1 in
          let bytes : fits false (x ∷ t) (b ∷ p) ≡ (bytes_eq (first_of (x ∷ t)) (first_of (b ∷ p)) && behind (x ∷ t) (b ∷ p)) =
          elim (cases_Bool (x == 47)) [
            | inl slash ↦ elim (cases_Bool (b == 47)) [
              | inl ends ↦
                  let equal : (x == b) ≡ true = rw (eqb-true x 47 slash, eqb-true b 47 ends) refl in
                  rw (plain, equal, slash, ends) (by_segments false true t p (rw slash at after) ∙ sym (whole t p))
              | inr other ↦
                  let unequal : (x == b) ≡ false = rw (eqb-true x 47 slash) (flip b other) in
                  rw (plain, unequal, slash, other) refl
            ]
            | inr goes ↦ elim (cases_Bool (b == 47)) [
              | inl ends ↦
                  let unequal : (x == b) ≡ false = rw (eqb-true b 47 ends) goes in
                  rw (plain, unequal, goes, ends) refl
              | inr other ↦
                  rw (plain, goes, other)
                  (ap (λ f. (x == b) && f) (by_segments false false t p (rw goes at after))
                  ∙ sym (and_assoc (x == b) (bytes_eq (first_of t) (first_of p)) (behind t p)))
            ]
          ] in
          bytes ∙ ap (λ c. c && behind (x ∷ t) (b ∷ p)) (sym (as_bytes first x t (first_of (b ∷ p)) plain))
    ]

-- ---- a pattern

-- the tokens are those of the pattern, and each name is a segment of its own
abbrev pub reads : List ℕ → List ℕ → Bool
reads pattern t = pointwise is_read (segments pattern) (segments t) && is_apart true t

pub by_tokens : (pattern t path : List ℕ) → reads pattern t ≡ true → fits_pattern pattern path ≡ fits false t path
by_tokens pattern t path h =
    let parts = and_parts (pointwise is_read (segments pattern) (segments t)) (is_apart true t) h in
    words_taken (segments pattern) (segments t) (segments path) parts.0 ∙ whole t path ∙ sym (by_segments false true t path parts.1)
