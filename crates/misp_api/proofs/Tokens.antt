-- Patterns as tokens, where 256 stands for a name: which paths they take, and of which forms they are.
use Rattle.std.specs.Prelude.{◌≡◌, ℕ, List, [], ◌∷◌, Bool, true, false, not, ◌==◌, ◌&&◌, ◌⊎◌, if◌then◌else◌, nat_lt}
use Rattle.matchit.specs.Rows.{RowsOf}

-- the tokens take the path; `within` says that a name has begun, whose segment goes on
abbrev pub fits : Bool → List ℕ → List ℕ → Bool
fits within [] [] = true
fits within (x ∷ t) [] = false
fits false [] (b ∷ p) = false
fits false (x ∷ t) (b ∷ p) = if x == 256 then not (b == 47) && fits true t p else (x == b) && fits false t p
fits true [] (b ∷ p) = not (b == 47) && fits true [] p
fits true (x ∷ t) (b ∷ p) = if b == 47 then (x == 47) && fits false t p else fits true (x ∷ t) p

-- the pattern is over, or goes on with a slash
abbrev pub stops : List ℕ → Bool
stops [] = true
stops (x ∷ t) = x == 47

-- bytes and names, with each name at the end of a segment
abbrev pub is_whole : List ℕ → Bool
is_whole [] = true
is_whole (x ∷ t) = (if x == 256 then stops t else nat_lt x 256) && is_whole t

-- each name is a segment of its own; `first` says that a segment begins
abbrev pub is_apart : Bool → List ℕ → Bool
is_apart first [] = true
is_apart first (x ∷ t) = (if x == 256 then first && stops t else true) && is_apart (x == 47) t

-- no path fits both: they differ before a name of one of them, or one of them ends first
abbrev pub differs : List ℕ → List ℕ → Bool
differs [] [] = false
differs [] (y ∷ u) = true
differs (x ∷ t) [] = true
differs (x ∷ t) (y ∷ u) =
    if x == 256 then (if y == 256 then differs t u else false)
    else (if y == 256 then false else (if x == y then differs t u else true))

-- ---- rows

module _ {K : Type 0} where
  abbrev pub InRows : List ℕ → K → RowsOf K → Type 0
  InRows t k [] = ⊥
  InRows t k ((u, l) ∷ rest) = ((u ≡ t) × (l ≡ k)) ⊎ InRows t k rest

  abbrev pub AreWhole : RowsOf K → Type 0
  AreWhole [] = Unit {0}
  AreWhole ((u, l) ∷ rest) = (is_whole u ≡ true) × AreWhole rest

  abbrev pub Stop : RowsOf K → Type 0
  Stop [] = Unit {0}
  Stop ((u, l) ∷ rest) = (stops u ≡ true) × Stop rest
