-- Words of which one begins with a dash ask for nothing.
use Rattle.std.proofs.Common.{◌≡◌, ℕ, Bool, true, false, not, ◌&&◌, ◌||◌, List, [], ◌∷◌, length, Option, None, option_and_then, option_map, if◌then◌else◌, bytes_eq, refl, sym, ap, subst, inl, inr}
use Rattle.std.specs.Prelude.{codes, nat_le}
use Rattle.std.specs.Str.Parse.{digits_value}
use Rattle.std.proofs.lemmas.Bool.{eqb-true, false≢true, or_cases}
use Rattle.misp_ids.specs.Names.{is_inst_name}
use Rattle.misp_words.specs.Count.{count_of, events_of, is_numeral, within_events, within_limit}
use Rattle.misp_words.specs.Words.{Gen, NoDashIsAccepted, Serve, ServeData, Sync, SyncData, begins_with_dash, command_counted, command_named, command_with, serve_words, sync_words, direction_of, with_count, with_direction}

-- what holds of every word that has a dash first
dashed : (P : List ℕ → Type 0) → ((bytes : List ℕ) → P (45 ∷ bytes)) → (word : List ℕ) → begins_with_dash word ≡ true → P word
dashed P holds [] dash = absurd (false≢true dash)
dashed P holds (byte ∷ bytes) dash = subst (λ b. P (b ∷ bytes)) (sym (eqb-true byte 45 dash)) (holds bytes)

and_no : (b c : Bool) → c ≡ false → (b && c) ≡ false
and_no true c is = is
and_no false c is = refl

-- none, whatever the test says
if_none : {A : Type 0} (test : Bool) (x : Option A) → x ≡ None → (if test then x else None) ≡ None
if_none true x none = none
if_none false x none = refl

neither : (serve sync : Bool) (x : Option ServeData) (y : Option SyncData) → x ≡ None → y ≡ None → (if serve then option_map Serve x else if sync then option_map Sync y else None) ≡ None
neither true sync x y none other = ap (option_map Serve) none
neither false true x y none other = ap (option_map Sync) other
neither false false x y none other = refl

no_count : (bytes : List ℕ) → count_of (45 ∷ bytes) ≡ None
no_count bytes = ap (λ t. if t then within_limit (digits_value 10 (45 ∷ bytes)) else None) (and_no (nat_le (length (45 ∷ bytes)) 7) (is_numeral (45 ∷ bytes)) refl)

-- a dash in one of two words
two : (word count : List ℕ) → (begins_with_dash word || (begins_with_dash count || false)) ≡ true → command_counted word count ≡ None
two word count dash = elim (or_cases (begins_with_dash word) _ dash) [
  | inl is ↦ dashed (λ w. command_counted w count ≡ None) (λ bytes. refl) word is
  | inr rest ↦ elim (or_cases (begins_with_dash count) false rest) [
    | inl is ↦ if_none (bytes_eq word (codes "gen")) (option_map Gen (events_of count)) (ap (λ n. option_map Gen (option_and_then within_events n)) (dashed (λ w. count_of w ≡ None) no_count count is))
    | inr none ↦ absurd (false≢true none)
  ]
]

module _ (word a b c : List ℕ) where
  -- none of both commands
  asks_nothing : serve_words a b c ≡ None → sync_words a b c ≡ None → command_with word a b c ≡ None
  asks_nothing serve sync = neither (bytes_eq word (codes "serve")) (bytes_eq word (codes "sync")) (serve_words a b c) (sync_words a b c) serve sync

  dash_first : begins_with_dash word ≡ true → command_with word a b c ≡ None
  dash_first = dashed (λ w. command_with w a b c ≡ None) (λ bytes. refl) word

  dash_second : begins_with_dash a ≡ true → command_with word a b c ≡ None
  dash_second dash = asks_nothing (dashed (λ w. serve_words w b c ≡ None) (λ bytes. refl) a dash) (dashed (λ w. sync_words w b c ≡ None) (λ bytes. refl) a dash)

  dash_third : begins_with_dash b ≡ true → command_with word a b c ≡ None
  dash_third dash = asks_nothing
      (dashed (λ w. serve_words a w c ≡ None) (λ bytes. ap (λ t. if t then with_count a (45 ∷ bytes) (count_of c) else None) (and_no (is_inst_name a) false refl)) b dash)
      (dashed (λ w. sync_words a w c ≡ None) (λ bytes. ap (λ t. if t then with_direction a (45 ∷ bytes) (direction_of c) else None) (and_no (is_inst_name a) false refl)) b dash)

  dash_last : begins_with_dash c ≡ true → command_with word a b c ≡ None
  dash_last dash = asks_nothing
      (if_none (is_inst_name a && not (begins_with_dash b)) (with_count a b (count_of c)) (ap (with_count a b) (dashed (λ w. count_of w ≡ None) no_count c dash)))
      (if_none (is_inst_name a && is_inst_name b) (with_direction a b (direction_of c)) (ap (with_direction a b) (dashed (λ w. direction_of w ≡ None) (λ bytes. refl) c dash)))

  -- a dash in one of four words
  four : (begins_with_dash word || (begins_with_dash a || (begins_with_dash b || (begins_with_dash c || false)))) ≡ true → command_with word a b c ≡ None
  four dash = elim (or_cases (begins_with_dash word) _ dash) [
    | inl is ↦ dash_first is
    | inr rest ↦ elim (or_cases (begins_with_dash a) _ rest) [
      | inl is ↦ dash_second is
      | inr rest ↦ elim (or_cases (begins_with_dash b) _ rest) [
        | inl is ↦ dash_third is
        | inr rest ↦ elim (or_cases (begins_with_dash c) _ rest) [
          | inl is ↦ dash_last is
          | inr none ↦ absurd (false≢true none)
        ]
      ]
    ]
  ]

pub no_dash : NoDashIsAccepted
no_dash [] dash = refl
no_dash (word ∷ []) dash = elim (or_cases (begins_with_dash word) false dash) [
  | inl is ↦ dashed (λ w. command_named w ≡ None) (λ bytes. refl) word is
  | inr none ↦ absurd (false≢true none)
]
no_dash (word ∷ a ∷ []) dash = two word a dash
no_dash (word ∷ a ∷ b ∷ []) dash = refl
no_dash (word ∷ a ∷ b ∷ c ∷ []) dash = four word a b c dash
no_dash (word ∷ a ∷ b ∷ c ∷ d ∷ words) dash = refl
