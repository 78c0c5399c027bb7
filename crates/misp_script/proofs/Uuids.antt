-- The text of a uuid is ASCII.
use Rattle.std.proofs.Common.{◌≡◌, ℕ, ◌<◌, ◌==◌, ◌&&◌, true, false, List, get_or, slice_index, length, None, refl, inl, inr, arith, IsAscii, IsUtf8}
use Rattle.std.proofs.lemmas.Bool.{cases_lt}
use Rattle.std.proofs.lemmas.List.{get_or_past}
use Rattle.std.proofs.lemmas.List.Sums.{AllPass-from_list_all}
use Rattle.std.proofs.lemmas.Str.{IsUtf8-from_ascii}
use Rattle.uuid.specs.Text.{by_index, is_hex_digit, is_hyphen_place, hyphen_place, digit_place, digits_of, has_hyphens}
use Rattle.uuid.proofs.TextLemmas.{by_index_at, by_index_length}
use Rattle.misp_lists.proofs.Prelude.{and_parts, cases_Bool, list_all, nat_tests}
use Rattle.misp_ids.specs.Uid.{read_uid}

digit_small : (byte : ℕ) → is_hex_digit byte ≡ true → byte < 128
digit_small byte h = grind (arith, nat_tests)

hyphen_small : (byte : ℕ) → (byte == 45) ≡ true → byte < 128
hyphen_small byte h = grind (arith, nat_tests)

same_length : (text : List ℕ) → (length text == 36) ≡ true → length text ≡ 36
same_length text h = grind (arith, nat_tests)

-- where no hyphen stands, a digit does
digit_here : (i : ℕ) → i < 36 → is_hyphen_place i ≡ false → (digit_place i < 32) × (hyphen_place (digit_place i) ≡ i)
digit_here i within digit = (grind (arith, nat_tests), grind (arith, nat_tests))

module _ (text : List ℕ) (hyphens : has_hyphens text ≡ true) (digits : list_all is_hex_digit (digits_of text) ≡ true) where
  digit_at : (i : ℕ) → i < 32 → slice_index text (hyphen_place i) < 128
  digit_at i within =
      let here : get_or (digits_of text) i 0 ≡ slice_index text (hyphen_place i) = by_index_at 32 (λ i. slice_index text (hyphen_place i)) i 0 within in
      let is : is_hex_digit (get_or (digits_of text) i 0) ≡ true =
      AllPass-from_list_all is_hex_digit (digits_of text) digits i 0 (rw (by_index_length 32 (λ i. slice_index text (hyphen_place i))) within) in
      digit_small _ (rw here at is)

  hyphen_at : (i : ℕ) → is_hyphen_place i ≡ true → slice_index text i < 128
  hyphen_at i hyphen = hyphen_small (slice_index text i) (grind (arith, nat_tests))

  byte_at : (i : ℕ) → i < 36 → slice_index text i < 128
  byte_at i within = elim (cases_Bool (is_hyphen_place i)) [
    | inl hyphen ↦ hyphen_at i hyphen
    | inr digit ↦ let here : (digit_place i < 32) × (hyphen_place (digit_place i) ≡ i) = digit_here i within digit in rw here.1 at (digit_at (digit_place i) here.0)
  ]

  pub ascii : length text ≡ 36 → IsAscii text
  ascii size i = elim (cases_lt i 36) [
    | inl within ↦ byte_at i within
    | inr past ↦ rw (get_or_past text i 0 (rw size past)) (omega arith)
  ]

-- bytes that are no text are no uuid
pub no_uuid : (text : List ℕ) → (IsUtf8 text → ⊥) → None ≡ read_uid text
unfolding by_index
no_uuid text h = elim (cases_Bool ((length text == 36) && has_hyphens text)) [
  | inr other ↦ rw other refl
  | inl form ↦ elim (cases_Bool (list_all is_hex_digit (digits_of text))) [
    | inr other ↦ rw (form, other) refl
    | inl digits ↦
        let parts : ((length text == 36) ≡ true) × (has_hyphens text ≡ true) = and_parts (length text == 36) (has_hyphens text) form in
        absurd (h (IsUtf8-from_ascii text (ascii text parts.1 digits (same_length text parts.0))))
  ]
]
