-- A word that is neither `serve` nor `sync` asks for nothing, whatever three words come after it.
use Rattle.std.proofs.Common.{◌≡◌, ℕ, Bool, true, false, List, Option, None, option_map, if◌then◌else◌, bytes_eq, refl}
use Rattle.std.specs.Prelude.{codes}
use Rattle.std.proofs.lemmas.Bool.{false_from_ne_true, true≢false}
use Rattle.std.proofs.lemmas.Slice.Eq.{bytes_eq-Decides}
use Rattle.misp_words.specs.Words.{CommandData, Serve, Sync, command_with, serve_words, sync_words}

none_of_both : (serve sync : Bool) (x y : Option CommandData) → serve ≡ false → sync ≡ false → (if serve then x else if sync then y else None) ≡ None
none_of_both true sync x y is other = absurd (true≢false is)
none_of_both false true x y is other = absurd (true≢false other)
none_of_both false false x y is other = refl

unlike : (word name : List ℕ) → (word ≡ name → ⊥) → bytes_eq word name ≡ false
unlike word name differs = false_from_ne_true (bytes_eq word name) (λ same. differs ((bytes_eq-Decides word name).0 same))

pub another_word : (word a b c : List ℕ) → (word ≡ codes "serve" → ⊥) → (word ≡ codes "sync" → ⊥) → command_with word a b c ≡ None
another_word word a b c serve sync =
    none_of_both (bytes_eq word (codes "serve")) (bytes_eq word (codes "sync")) (option_map Serve (serve_words a b c)) (option_map Sync (sync_words a b c))
    (unlike word (codes "serve") serve) (unlike word (codes "sync") sync)
