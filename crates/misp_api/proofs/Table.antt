-- What the router of all paths finds is what the path is for.
use Rattle.std.proofs.Common.{◌≡◌, ◌<◌, ◌≤◌, ℕ, suc, Bool, true, false, ◌&&◌, cond, List, [], ◌∷◌, length, map, get_or, filter, find, Option, Some, None, IsSome, option_map, Result, Ok, Err, refl, sym, ap, ◌∙◌, inl, inr, arith}
use Rattle.std.proofs.lemmas.Bool.{cases_Bool, and_parts, false_from_ne_true, false≢true}
use Rattle.matchit.specs.Router.{RouteOf}
use Rattle.matchit.specs.Route.{parse_route, Scan}
use Rattle.matchit.specs.Seek.{first}
use Rattle.matchit.proofs.OnLiterals.{matchit_on_literals}
use Rattle.misp_api.specs.Path.{paths, kind_of}
use Rattle.misp_api.specs.Pattern.{fits_pattern}
use Rattle.misp_api.specs.Router.{rows}
use Rattle.misp_api.specs.declared.path_kind.PathKind.{PathKind}
use Rattle.misp_api.proofs.Tokens.{is_whole, differs, AreWhole}
use Rattle.misp_api.proofs.Words.{reads, by_tokens}
use Rattle.misp_api.proofs.Whole.{AreBytes, sound, complete}
use Rattle.misp_api.proofs.Apart.{apart_sound}
use Rattle.misp_api.proofs.Placing.{Patterns, is_parsed, are_parsed, HasOne, whole_rows, from_rows, to_rows}

-- ---- at most one pattern fits a path

abbrev tokens_in : {E : Type 0} → Result Scan E → List ℕ
tokens_in (Ok s) = s.pattern
tokens_in (Err e) = []

abbrev tokens_of : List ℕ → List ℕ
tokens_of text = tokens_in (parse_route text)

parsed_reads : {E : Type 0} (text : List ℕ) (read : Result Scan E) → is_parsed text read ≡ true → reads text (tokens_in read) ≡ true
parsed_reads text (Ok s) parsed = (and_parts (is_whole s.pattern) (reads text s.pattern) parsed).1
parsed_reads text (Err e) parsed = absurd (false≢true parsed)

abbrev all_tokens : Patterns → List (List ℕ)
all_tokens ps = map (λ p. tokens_of p.0) ps

-- tokens differ from each of these
abbrev differ_from : List ℕ → List (List ℕ) → Bool
differ_from t [] = true
differ_from t (u ∷ us) = differs t u && differ_from t us

abbrev all_differ : List (List ℕ) → Bool
all_differ [] = true
all_differ (t ∷ ts) = differ_from t ts && all_differ ts

none_else : (path text : List ℕ) (kind : PathKind) (ps : Patterns) → reads text (tokens_of text) ≡ true → are_parsed ps ≡ true → differ_from (tokens_of text) (all_tokens ps) ≡ true
    → fits_pattern text path ≡ true → HasOne path kind ps → ⊥
none_else path text kind [] reading parsed differ f one = one
none_else path text kind ((other, k) ∷ ps) reading parsed differ f (inl here) =
    apart_sound false (tokens_of text) (tokens_of other) path (and_parts (differs (tokens_of text) (tokens_of other)) (differ_from (tokens_of text) (all_tokens ps)) differ).0
    (sym (by_tokens text (tokens_of text) path reading) ∙ f)
    (sym (by_tokens other (tokens_of other) path (parsed_reads other (parse_route other) (and_parts (is_parsed other (parse_route other)) (are_parsed ps) parsed).0)) ∙ here.1)
none_else path text kind ((other, k) ∷ ps) reading parsed differ f (inr later) =
    none_else path text kind ps reading (and_parts (is_parsed other (parse_route other)) (are_parsed ps) parsed).1
    (and_parts (differs (tokens_of text) (tokens_of other)) (differ_from (tokens_of text) (all_tokens ps)) differ).1 f later

module _ (path : List ℕ) where
  abbrev fits_here : List ℕ × PathKind → Bool
  fits_here p = fits_pattern p.0 path

  -- ---- the first that fits

  abbrev kind_in : Patterns → Option PathKind
  kind_in ps = option_map (λ p. p.1) (find fits_here ps)

  -- after a pattern, by whether it fits
  abbrev kind_after : List ℕ → PathKind → Patterns → Bool → Option PathKind
  kind_after text kind ps fit = option_map (λ p. p.1) (cond fit (Some (text, kind)) (find fits_here ps))

  kind_found : (kind : PathKind) (ps : Patterns) → are_parsed ps ≡ true → all_differ (all_tokens ps) ≡ true → HasOne path kind ps → kind_in ps ≡ Some kind
  kind_found kind [] parsed differ one = absurd one
  kind_found kind ((text, k) ∷ ps) parsed differ (inl here) = ap (kind_after text k ps) here.1 ∙ ap Some here.0
  kind_found kind ((text, k) ∷ ps) parsed differ (inr later) =
      let parts = and_parts (is_parsed text (parse_route text)) (are_parsed ps) parsed in
      let apart = and_parts (differ_from (tokens_of text) (all_tokens ps)) (all_differ (all_tokens ps)) differ in
      let not_here : fits_pattern text path ≡ false = false_from_ne_true (fits_pattern text path)
      (λ f. none_else path text kind ps (parsed_reads text (parse_route text) parts.0) parts.1 apart.0 f later) in
      ap (kind_after text k ps) not_here ∙ kind_found kind ps parts.1 apart.1 later

  kind_absent : (ps : Patterns) → ((kind : PathKind) → HasOne path kind ps → ⊥) → kind_in ps ≡ None
  kind_absent [] none = refl
  kind_absent ((text, k) ∷ ps) none =
      ap (kind_after text k ps) (false_from_ne_true (fits_pattern text path) (λ f. none k (inl (refl, f)))) ∙ kind_absent ps (λ kind later. none kind (inr later))

  -- ---- all that fit

  -- with a pattern in front, by whether it fits
  abbrev with_one : List ℕ → PathKind → Patterns → Bool → Patterns
  with_one text kind ps fit = cond fit ((text, kind) ∷ filter fits_here ps) (filter fits_here ps)

  none_fit : (ps : Patterns) → ((kind : PathKind) → HasOne path kind ps → ⊥) → filter fits_here ps ≡ []
  none_fit [] none = refl
  none_fit ((text, k) ∷ ps) none =
      ap (with_one text k ps) (false_from_ne_true (fits_pattern text path) (λ f. none k (inl (refl, f)))) ∙ none_fit ps (λ kind later. none kind (inr later))

  few_fit : (ps : Patterns) → are_parsed ps ≡ true → all_differ (all_tokens ps) ≡ true → length (filter fits_here ps) ≤ 1
  few_fit [] parsed differ = omega arith
  few_fit ((text, k) ∷ ps) parsed differ =
      let parts = and_parts (is_parsed text (parse_route text)) (are_parsed ps) parsed in
      let apart = and_parts (differ_from (tokens_of text) (all_tokens ps)) (all_differ (all_tokens ps)) differ in
      elim (cases_Bool (fits_pattern text path)) [
        | inl fit ↦
            let others = none_fit ps (λ kind later. none_else path text kind ps (parsed_reads text (parse_route text) parts.0) parts.1 apart.0 fit later) in
            let one : length (filter fits_here ((text, k) ∷ ps)) ≡ 1 = ap length (ap (with_one text k ps) fit ∙ ap (λ rest. (text, k) ∷ rest) others) in
            omega (arith, one)
        | inr miss ↦
            let same : length (filter fits_here ((text, k) ∷ ps)) ≡ length (filter fits_here ps) = ap length (ap (with_one text k ps) miss) in
            omega (arith, same, few_fit ps parts.1 apart.1)
      ]

-- ---- the table

all_parsed : are_parsed paths ≡ true
unfolding matchit_on_literals paths
all_parsed = refl

none_alike : all_differ (all_tokens paths) ≡ true
unfolding matchit_on_literals paths
none_alike = refl

pub at_most_one : (path : List ℕ) → length (filter (λ p. fits_pattern p.0 path) paths) ≤ 1
at_most_one path = few_fit path paths all_parsed none_alike

all_whole : AreWhole rows
unfolding rows
all_whole = whole_rows paths [] all_parsed tt

bytes_from_places : (path : List ℕ) → ((i : ℕ) → get_or path i 0 < 256) → AreBytes path
bytes_from_places [] small = tt
bytes_from_places (b ∷ p) small = (small 0, bytes_from_places p (λ i. small (suc i)))

found : (path : List ℕ) (route : RouteOf PathKind) → ((i : ℕ) → get_or path i 0 < 256) → first rows path ≡ Some route → kind_of path ≡ Some route.value
unfolding kind_of rows
found path route small is =
    let (t, i, f) = sound (length path) rows path (omega arith) (bytes_from_places path small) all_whole route is in
    kind_found path route.value paths all_parsed none_alike
    (elim (from_rows path t route paths [] all_parsed f i) [
      | inl one ↦ one
      | inr none ↦ absurd none
    ])

pub found_kind : (path pattern text : List ℕ) (names : List (ℕ × ℕ)) (kind : PathKind) → ((i : ℕ) → get_or path i 0 < 256)
    → first rows path ≡ Some (record { pattern = pattern; text = text; names = names; value = kind }) → kind_of path ≡ Some kind
found_kind path pattern text names kind small is = found path (record { pattern = pattern; text = text; names = names; value = kind }) small is

none_some : (o : Option (RouteOf PathKind)) → o ≡ None → IsSome o → ⊥
none_some None is some = absurd cc
none_some (Some r) is some = absurd cc

pub absent_kind : (path : List ℕ) → first rows path ≡ None → kind_of path ≡ None
unfolding kind_of rows
absent_kind path none =
    kind_absent path paths
    (λ kind one.
    let (t, route, i, f) = to_rows path kind paths [] all_parsed one in
    none_some (first rows path) none (complete (length path) rows path (omega arith) all_whole t route i f))
