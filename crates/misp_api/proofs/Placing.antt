-- The rows of a router are those of its patterns.
use Rattle.std.proofs.Common.{◌≡◌, ℕ, Bool, true, false, ◌&&◌, ◌⊎◌, List, [], ◌∷◌, Result, Ok, Err, fold, refl, sym, ap, ◌∙◌, subst, inl, inr}
use Rattle.std.proofs.lemmas.Bool.{cases_Bool, and_parts, false≢true}
use Rattle.matchit.specs.Rows.{RowsOf, comes_before}
use Rattle.matchit.specs.Router.{RouteOf, route_from}
use Rattle.matchit.specs.Order.{placed}
use Rattle.matchit.specs.Route.{parse_route, Scan}
use Rattle.misp_api.specs.Pattern.{fits_pattern}
use Rattle.misp_api.specs.Router.{added, add}
use Rattle.misp_api.specs.declared.path_kind.PathKind.{PathKind}
use Rattle.misp_api.proofs.Tokens.{fits, is_whole, InRows, AreWhole}
use Rattle.misp_api.proofs.Words.{reads, by_tokens}

-- ---- one row more

module _ {K : Type 0} where
  in_placed : (p : List ℕ) (m : K) (rs : RowsOf K) (t : List ℕ) (k : K) → InRows t k (placed (p, m) rs) → ((p ≡ t) × (m ≡ k)) ⊎ InRows t k rs
  in_placed p m [] t k (inl here) = inl here
  in_placed p m [] t k (inr none) = absurd none
  in_placed p m ((u, l) ∷ rest) t k i =
      elim (cases_Bool (comes_before p u)) [
        | inl before ↦ rw before at i
        | inr after ↦ past_one p m u l rest t k (in_placed p m rest t k) (rw after at i)
      ]
    where
      past_one : (p : List ℕ) (m : K) (u : List ℕ) (l : K) (rest : RowsOf K) (t : List ℕ) (k : K) → (InRows t k (placed (p, m) rest) → ((p ≡ t) × (m ≡ k)) ⊎ InRows t k rest)
          → InRows t k ((u, l) ∷ placed (p, m) rest) → ((p ≡ t) × (m ≡ k)) ⊎ InRows t k ((u, l) ∷ rest)
      past_one p m u l rest t k follows (inl here) = inr (inl here)
      past_one p m u l rest t k follows (inr later) =
          elim (follows later) [
            | inl new ↦ inl new
            | inr old ↦ inr (inr old)
          ]

  new_placed : (p : List ℕ) (m : K) (rs : RowsOf K) → InRows p m (placed (p, m) rs)
  new_placed p m [] = inl (refl, refl)
  new_placed p m ((u, l) ∷ rest) =
      elim (cases_Bool (comes_before p u)) [
        | inl before ↦ rw before (inl (refl, refl))
        | inr after ↦ rw after (inr (new_placed p m rest))
      ]

  old_placed : (p : List ℕ) (m : K) (rs : RowsOf K) (t : List ℕ) (k : K) → InRows t k rs → InRows t k (placed (p, m) rs)
  old_placed p m [] t k i = absurd i
  old_placed p m ((u, l) ∷ rest) t k (inl here) =
      elim (cases_Bool (comes_before p u)) [
        | inl before ↦ rw before (inr (inl here))
        | inr after ↦ rw after (inl here)
      ]
  old_placed p m ((u, l) ∷ rest) t k (inr later) =
      elim (cases_Bool (comes_before p u)) [
        | inl before ↦ rw before (inr (inr later))
        | inr after ↦ rw after (inr (old_placed p m rest t k later))
      ]

  whole_placed : (p : List ℕ) (m : K) (rs : RowsOf K) → is_whole p ≡ true → AreWhole rs → AreWhole (placed (p, m) rs)
  whole_placed p m [] one all = (one, tt)
  whole_placed p m ((u, l) ∷ rest) one all =
      elim (cases_Bool (comes_before p u)) [
        | inl before ↦ rw before (one, all)
        | inr after ↦ rw after (all.0, whole_placed p m rest one all.1)
      ]

-- ---- the rows of patterns

abbrev pub Patterns : Type 0
Patterns = List (List ℕ × PathKind)

abbrev pub Rows : Type 0
Rows = RowsOf (RouteOf PathKind)

-- the pattern is read as tokens, whose names take whole segments
abbrev pub is_parsed : {E : Type 0} → List ℕ → Result Scan E → Bool
is_parsed text (Ok s) = is_whole s.pattern && reads text s.pattern
is_parsed text (Err e) = false

abbrev pub are_parsed : Patterns → Bool
are_parsed [] = true
are_parsed ((text, kind) ∷ ps) = is_parsed text (parse_route text) && are_parsed ps

-- some pattern of this kind fits the path
abbrev pub HasOne : List ℕ → PathKind → Patterns → Type 0
HasOne path kind [] = ⊥
HasOne path kind ((text, k) ∷ ps) = ((k ≡ kind) × (fits_pattern text path ≡ true)) ⊎ HasOne path kind ps

module _ {E : Type 0} where
  whole_added : (text : List ℕ) (kind : PathKind) (rs : Rows) (read : Result Scan E) → is_parsed text read ≡ true → AreWhole rs → AreWhole (added read kind rs)
  whole_added text kind rs (Ok s) parsed all = whole_placed s.pattern (route_from s kind) rs (and_parts (is_whole s.pattern) (reads text s.pattern) parsed).0 all
  whole_added text kind rs (Err e) parsed all = absurd (false≢true parsed)

  old_added : (t : List ℕ) (route : RouteOf PathKind) (kind : PathKind) (rs : Rows) (read : Result Scan E) → InRows t route rs → InRows t route (added read kind rs)
  old_added t route kind rs (Ok s) i = old_placed s.pattern (route_from s kind) rs t route i
  old_added t route kind rs (Err e) i = i

  in_added : (path text t : List ℕ) (route : RouteOf PathKind) (kind : PathKind) (rs : Rows) (read : Result Scan E) → is_parsed text read ≡ true → fits false t path ≡ true
      → InRows t route (added read kind rs) → ((kind ≡ route.value) × (fits_pattern text path ≡ true)) ⊎ InRows t route rs
  in_added path text t route kind rs (Ok s) parsed f i =
      elim (in_placed s.pattern (route_from s kind) rs t route i) [
        | inl new ↦
            inl (
              ap (λ (r : RouteOf PathKind). r.value) new.1,
              by_tokens text s.pattern path (and_parts (is_whole s.pattern) (reads text s.pattern) parsed).1 ∙ subst (λ u. fits false u path ≡ true) (sym new.0) f,
            )
        | inr old ↦ inr old
      ]
  in_added path text t route kind rs (Err e) parsed f i = absurd (false≢true parsed)

pub whole_rows : (ps : Patterns) (rs : Rows) → are_parsed ps ≡ true → AreWhole rs → AreWhole (fold add rs ps)
whole_rows [] rs parsed all = all
whole_rows ((text, kind) ∷ ps) rs parsed all =
    let parts = and_parts (is_parsed text (parse_route text)) (are_parsed ps) parsed in
    whole_rows ps (add rs (text, kind)) parts.1 (whole_added text kind rs (parse_route text) parts.0 all)

old_rows : (t : List ℕ) (route : RouteOf PathKind) (ps : Patterns) (rs : Rows) → InRows t route rs → InRows t route (fold add rs ps)
old_rows t route [] rs i = i
old_rows t route ((text, kind) ∷ ps) rs i = old_rows t route ps (add rs (text, kind)) (old_added t route kind rs (parse_route text) i)

-- the pattern of a row that takes the path fits it
pub from_rows : (path t : List ℕ) (route : RouteOf PathKind) (ps : Patterns) (rs : Rows) → are_parsed ps ≡ true → fits false t path ≡ true
    → InRows t route (fold add rs ps) → HasOne path route.value ps ⊎ InRows t route rs
from_rows path t route [] rs parsed f i = inr i
from_rows path t route ((text, kind) ∷ ps) rs parsed f i =
    let parts = and_parts (is_parsed text (parse_route text)) (are_parsed ps) parsed in
    elim (from_rows path t route ps (add rs (text, kind)) parts.1 f i) [
      | inl later ↦ inl (inr later)
      | inr before ↦ elim (in_added path text t route kind rs (parse_route text) parts.0 f before) [
        | inl here ↦ inl (inl here)
        | inr old ↦ inr old
      ]
    ]

-- a row takes the path, of these rows
abbrev pub Takes : List ℕ → Rows → Type 0
Takes path rs = (t : List ℕ) × (route : RouteOf PathKind) × InRows t route rs × (fits false t path ≡ true)

to_added : {E : Type 0} (path text : List ℕ) (kind : PathKind) (ps : Patterns) (rs : Rows) (read : Result Scan E) → is_parsed text read ≡ true → fits_pattern text path ≡ true
    → Takes path (fold add (added read kind rs) ps)
to_added path text kind ps rs (Ok s) parsed f = (
  s.pattern,
  route_from s kind,
  old_rows s.pattern (route_from s kind) ps (placed (s.pattern, route_from s kind) rs) (new_placed s.pattern (route_from s kind) rs),
  sym (by_tokens text s.pattern path (and_parts (is_whole s.pattern) (reads text s.pattern) parsed).1) ∙ f,
)
to_added path text kind ps rs (Err e) parsed f = absurd (false≢true parsed)

-- the row of a pattern that fits takes the path
pub to_rows : (path : List ℕ) (kind : PathKind) (ps : Patterns) (rs : Rows) → are_parsed ps ≡ true → HasOne path kind ps → Takes path (fold add rs ps)
to_rows path kind [] rs parsed one = absurd one
to_rows path kind ((text, k) ∷ ps) rs parsed (inl here) =
    to_added path text k ps rs (parse_route text) (and_parts (is_parsed text (parse_route text)) (are_parsed ps) parsed).0 here.1
to_rows path kind ((text, k) ∷ ps) rs parsed (inr later) =
    to_rows path kind ps (add rs (text, k)) (and_parts (is_parsed text (parse_route text)) (are_parsed ps) parsed).1 later
