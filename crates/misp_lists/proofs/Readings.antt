-- Readings that give a value.
use Rattle.std.proofs.Common.{◌≡◌, Result, Ok, Err, refl}
use Rattle.misp_lists.specs.Reading.{◌>>=◌}

-- what holds of the value that is given holds of what is read
pub ok_keeps : {A E : Type 0} (P : A → Type 0) (x : A) → P x → (y : A) → ◌≡◌ {A = Result A E} (Ok x) (Ok y) → P y
ok_keeps P x holds y h = let same : x ≡ y = cc in rw (← same) holds

-- the value of a step that did not fail
pub bind_ok : {A B E : Type 0} (read : Result A E) (f : A → Result B E) (y : B) → read >>= f ≡ Ok y → (x : A) × (read ≡ Ok x) × (f x ≡ Ok y)
bind_ok (Ok x) f y h = (x, refl, h)
bind_ok (Err fault) f y h = absurd cc

-- what holds of all that follows holds of what is read in the end
pub bind_keeps : {A B E : Type 0} (P : B → Type 0) (read : Result A E) (f : A → Result B E)
    → ((x : A) → read ≡ Ok x → (y : B) → f x ≡ Ok y → P y) → (y : B) → read >>= f ≡ Ok y → P y
bind_keeps P (Ok x) f each y h = each x refl y h
bind_keeps P (Err fault) f each y h = absurd cc
