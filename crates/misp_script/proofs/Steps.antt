-- What holds of what is read in the end.
use Rattle.std.proofs.Common.{◌≡◌, ℕ, ◌+◌, Bool, true, false, List, [], ◌∷◌, ◌++◌, Option, Some, None, Ok, refl, ap}
use Rattle.std.specs.Prelude.{⊤}
use Rattle.toml.specs.Data.{Data, get, as_str}
pub use Rattle.misp_lists.proofs.Prelude.{bind_keeps}
use Rattle.misp_lists.proofs.Prelude.{ok_keeps, option_map_or}
use Rattle.misp_script.specs.declared.fault.DescNeed.{DescNeed}
use Rattle.misp_script.specs.Faults.{Reading, ◌>>=◌, bad, or_bad, bad_if}
use Rattle.misp_script.specs.Entries.{Body, text_of, text_at, text_in, member_path, each}

pub not_bad : (test : Bool) (path : List ℕ) (need : DescNeed) (x : ⊤) → bad_if test path need ≡ Ok x → test ≡ false
not_bad true path need x h = absurd cc
not_bad false path need x h = refl

pub each_keeps : {S : Type 0} (reads : ℕ → S → Data → Reading S) (P : S → Type 0) → ((n : ℕ) (s : S) (d : Data) (t : S) → P s → reads n s d ≡ Ok t → P t)
    → (n : ℕ) (s : S) (ds : List Data) (t : S) → P s → each reads n s ds ≡ Ok t → P t
each_keeps reads P keeps n s [] t p h = ok_keeps P s p t h
each_keeps reads P keeps n s (d ∷ ds) t p h =
    bind_keeps P (reads n s d) (λ more. each reads (n + 1) more ds) (λ more is y rest. each_keeps reads P keeps (n + 1) more ds y (keeps n s d more p is) rest) t h

-- each entry adds what it is read as
pub adds_keep : {X : Type 0} (read : Reading X) (before : List X) (P : List X → Type 0) → ((x : X) → read ≡ Ok x → P (before ++ x ∷ []))
    → (t : List X) → read >>= (λ x. Ok (before ++ x ∷ [])) ≡ Ok t → P t
adds_keep read before P holds t h = bind_keeps P read (λ x. Ok (before ++ x ∷ [])) (λ x is y rest. ok_keeps P (before ++ x ∷ []) (holds x is) y rest) t h

pub or_bad_is : {A : Type 0} (path : List ℕ) (need : DescNeed) (o : Option A) (x : A) → or_bad path need o ≡ Ok x → o ≡ Some x
or_bad_is path need None x h = absurd cc
or_bad_is path need (Some y) x h = let same : y ≡ x = cc in ap (λ z. Some z) same

text_by : (path : List ℕ) (got : Option Data) (text : List ℕ) → option_map_or (text_of path) got (bad path DescNeed.Present) ≡ Ok text → option_map_or as_str got None ≡ Some text
text_by path None text h = absurd cc
text_by path (Some d) text h = or_bad_is path DescNeed.Text (as_str d) text h

-- a text that is read is there
pub text_is : (it : Body) (name text : List ℕ) → text_at it name ≡ Ok text → text_in it name ≡ Some text
text_is it name text h = text_by (member_path it.path name) (get name it.value) text h
