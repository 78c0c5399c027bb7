-- What stays of a text in lower case.
use Rattle.std.proofs.Common.{◌≡◌, ℕ, ◌+◌, ◌==◌, nat_lt, Bool, true, false, cond, not, ◌&&◌, ◌||◌, List, [], ◌∷◌, map, length, take, drop, fold, count_by, position, is_some, Option, Some, None, Ok, Err, true≢false, refl, sym, ap, ap₂, ◌∙◌}
use Rattle.std.proofs.Common.{arith}
use Rattle.std.specs.Char.{is_ascii_digit, is_ascii_hexdigit, to_ascii_lowercase}
use Rattle.std.specs.List.{list_all, list_any, position_or_len, slice_split, onto_first}
use Rattle.std.proofs.lemmas.Bool.{and_parts, cond-false}
use Rattle.std.proofs.lemmas.Bool.Decides.{nat_tests}
use Rattle.std.proofs.lemmas.List.{length-map, take-map, drop-map}
use Rattle.std.proofs.lemmas.Str.Ascii.{lowercase-lowercase}
use Rattle.misp_types.specs.declared.fault.ValueFault.{ValueFault}
use Rattle.misp_types.specs.Numbers.{is_numeral, number_in, is_number}
use Rattle.misp_types.specs.Addresses.{is_slash, is_colon, is_dot, is_colon_byte, has_colon, is_colon_form, is_dotted_form, is_address, most_bits}
use Rattle.misp_types.specs.Forms.{lower, lower_unless_at, lower_unless_part, digest, is_barred, domain, parts_fault, address_fault_at, address_fault, address}

-- a test that tells no item from its image
module _ {X : Type 0} (p : X → Bool) (f : X → X) (blind : (x : X) → p (f x) ≡ p x) where
  pub all_blind : (xs : List X) → list_all p (map f xs) ≡ list_all p xs
  all_blind [] = refl
  all_blind (x ∷ xs) = ap₂ (λ a b. a && b) (blind x) (all_blind xs)

  pub any_blind : (xs : List X) → list_any p (map f xs) ≡ list_any p xs
  any_blind [] = refl
  any_blind (x ∷ xs) = ap₂ (λ a b. a || b) (blind x) (any_blind xs)

  count_from : (n : ℕ) (xs : List X) → fold (λ a x. a + cond (p x) 1 0) n (map f xs) ≡ fold (λ a x. a + cond (p x) 1 0) n xs
  count_from n [] = refl
  count_from n (x ∷ xs) = ap (λ b. fold (λ a y. a + cond (p y) 1 0) (n + cond b 1 0) (map f xs)) (blind x) ∙ count_from (n + cond (p x) 1 0) xs

  pub count_blind : (xs : List X) → count_by p (map f xs) ≡ count_by p xs
  count_blind xs = count_from 0 xs

  place_blind : (xs : List X) → position_or_len p (map f xs) ≡ position_or_len p xs
  place_blind [] = refl
  place_blind (x ∷ xs) = ap₂ (λ b n. cond (not b) (1 + n) 0) (blind x) (place_blind xs)

  pub position_blind : (xs : List X) → position p (map f xs) ≡ position p xs
  position_blind xs = ap₂ (λ n m. cond (nat_lt n m) (Some n) None) (place_blind xs) (length-map xs f)

  part_blind : (b : Bool) (x : X) (parts : List (List X)) → cond b ([] ∷ map (map f) parts) (onto_first (f x) (map (map f) parts)) ≡ map (map f) (cond b ([] ∷ parts) (onto_first x parts))
  part_blind true x parts = refl
  part_blind false x [] = refl
  part_blind false x (part ∷ parts) = refl

  pub split_blind : (xs : List X) → slice_split p (map f xs) ≡ map (map f) (slice_split p xs)
  split_blind [] = refl
  split_blind (x ∷ xs) = ap₂ (λ b parts. cond b ([] ∷ parts) (onto_first (f x) parts)) (blind x) (split_blind xs) ∙ part_blind (p x) x (slice_split p xs)

hex_blind : (b : ℕ) → is_ascii_hexdigit (to_ascii_lowercase b) ≡ is_ascii_hexdigit b
hex_blind b = grind (arith, nat_tests)

slash_blind : (b : ℕ) → is_slash (to_ascii_lowercase b) ≡ is_slash b
slash_blind b = grind (arith, nat_tests)

colon_blind : (b : ℕ) → is_colon (to_ascii_lowercase b) ≡ is_colon b
colon_blind b = grind (arith, nat_tests)

dot_blind : (b : ℕ) → is_dot (to_ascii_lowercase b) ≡ is_dot b
dot_blind b = grind (arith, nat_tests)

barred_blind : (b : ℕ) → is_barred (to_ascii_lowercase b) ≡ is_barred b
barred_blind b = grind (arith, nat_tests)

zero_blind : (b : ℕ) → (to_ascii_lowercase b == 48) ≡ (b == 48)
zero_blind b = grind (arith, nat_tests)

digit_blind : (b : ℕ) → is_ascii_digit (to_ascii_lowercase b) ≡ is_ascii_digit b
digit_blind b = grind (arith, nat_tests)

digit_stays : (b : ℕ) → is_ascii_digit b ≡ true → to_ascii_lowercase b ≡ b
digit_stays b h = grind (arith, nat_tests)

digits_stay : (s : List ℕ) → list_all is_ascii_digit s ≡ true → lower s ≡ s
digits_stay [] h = refl
digits_stay (d ∷ ds) h = ap₂ (λ b bs. b ∷ bs) (digit_stays d (and_parts _ _ h).0) (digits_stay ds (and_parts _ _ h).1)

pub numeral_digits : (s : List ℕ) → is_numeral s ≡ true → list_all is_ascii_digit s ≡ true
numeral_digits [] h = absurd (true≢false (sym h))
numeral_digits (d ∷ []) h = h
numeral_digits (d ∷ e ∷ ds) h = (and_parts _ _ h).1

numeral_blind : (s : List ℕ) → is_numeral (lower s) ≡ is_numeral s
numeral_blind [] = refl
numeral_blind (d ∷ []) = all_blind is_ascii_digit to_ascii_lowercase digit_blind (d ∷ [])
numeral_blind (d ∷ e ∷ ds) = ap₂ (λ a b. not a && b) (zero_blind d) (all_blind is_ascii_digit to_ascii_lowercase digit_blind (d ∷ e ∷ ds))

number_by : (least most : ℕ) (s : List ℕ) (b : Bool) → is_numeral s ≡ b → number_in least most (lower s) ≡ number_in least most s
number_by least most s true h = ap (number_in least most) (digits_stay s (numeral_digits s h))
number_by least most s false h = cond-false _ _ _ (numeral_blind s ∙ h) ∙ sym (cond-false _ _ _ h)

number_blind : (least most : ℕ) (s : List ℕ) → is_number least most (lower s) ≡ is_number least most s
number_blind least most s = ap is_some (number_by least most s _ refl)

colon_byte_blind : (b : ℕ) → is_colon_byte (to_ascii_lowercase b) ≡ is_colon_byte b
colon_byte_blind b = rw (hex_blind b, colon_blind b, dot_blind b) refl

has_colon_blind : (s : List ℕ) → has_colon (lower s) ≡ has_colon s
has_colon_blind s = any_blind is_colon to_ascii_lowercase colon_blind s

colon_form_blind : (s : List ℕ) → is_colon_form (lower s) ≡ is_colon_form s
colon_form_blind s = rw (length-map s to_ascii_lowercase, all_blind is_colon_byte to_ascii_lowercase colon_byte_blind s, count_blind is_colon to_ascii_lowercase colon_blind s) refl

octets_blind : (s : List ℕ) → list_all (is_number 0 255) (slice_split is_dot (lower s)) ≡ list_all (is_number 0 255) (slice_split is_dot s)
octets_blind s = ap (list_all (is_number 0 255)) (split_blind is_dot to_ascii_lowercase dot_blind s) ∙ all_blind (is_number 0 255) lower (number_blind 0 255) (slice_split is_dot s)

dotted_form_blind : (s : List ℕ) → is_dotted_form (lower s) ≡ is_dotted_form s
dotted_form_blind s = ap₂ (λ n b. (n == 3) && b) (count_blind is_dot to_ascii_lowercase dot_blind s) (octets_blind s)

address_blind : (s : List ℕ) → is_address (lower s) ≡ is_address s
address_blind s = rw (has_colon_blind s, colon_form_blind s, dotted_form_blind s) refl

most_blind : (s : List ℕ) → most_bits (lower s) ≡ most_bits s
most_blind s = ap (λ b. cond b 128 32) (has_colon_blind s)

parts_blind : (s bits : List ℕ) → parts_fault (lower s) (lower bits) ≡ parts_fault s bits
parts_blind s bits = rw (address_blind s, most_blind s, number_blind 0 (most_bits s) bits) refl

fault_at_blind : (at : Option ℕ) (s : List ℕ) → address_fault_at at (lower s) ≡ address_fault_at at s
fault_at_blind None s = ap (λ b. cond b None (Some 1)) (address_blind s)
fault_at_blind (Some at) s = ap₂ parts_fault (take-map to_ascii_lowercase at s) (drop-map to_ascii_lowercase (at + 1) s) ∙ parts_blind (take at s) (drop (at + 1) s)

fault_blind : (s : List ℕ) → address_fault (lower s) ≡ address_fault s
fault_blind s = ap (λ at. address_fault_at at (lower s)) (position_blind is_slash to_ascii_lowercase slash_blind s) ∙ fault_at_blind (position is_slash s) s

-- lower case is its own
pub lower_again : (s : List ℕ) → lower (lower s) ≡ lower s
lower_again [] = refl
lower_again (b ∷ bs) = ap₂ (λ c cs. c ∷ cs) (lowercase-lowercase b) (lower_again bs)

unless_at_blind : (at : Option ℕ) (s : List ℕ) → lower_unless_at at (lower s) ≡ lower_unless_at at s
unless_at_blind None s = ap Ok (lower_again s)
unless_at_blind (Some place) s = refl

unless_part_blind : (part : Option ℕ) (s : List ℕ) → lower_unless_part part (lower s) ≡ lower_unless_part part s
unless_part_blind None s = ap Ok (lower_again s)
unless_part_blind (Some part) s = refl

pub digest_blind : (digits : ℕ) (s : List ℕ) → digest digits (lower s) ≡ digest digits s
digest_blind digits s =
    let place = position_blind (λ b. not (is_ascii_hexdigit b)) to_ascii_lowercase (λ b. ap not (hex_blind b)) s in
    ap₂ (λ n at. cond (n == digits) (lower_unless_at at (lower s)) (Err ValueFault.WrongLength)) (length-map s to_ascii_lowercase) place
    ∙ ap (λ kept. cond (length s == digits) kept (Err ValueFault.WrongLength)) (unless_at_blind _ s)

pub domain_blind : (s : List ℕ) → domain (lower s) ≡ domain s
domain_blind s =
    ap₂ (λ n at. cond (nat_lt 255 n) (Err ValueFault.WrongLength) (lower_unless_at at (lower s))) (length-map s to_ascii_lowercase) (position_blind is_barred to_ascii_lowercase barred_blind s)
    ∙ ap (λ kept. cond (nat_lt 255 (length s)) (Err ValueFault.WrongLength) kept) (unless_at_blind _ s)

pub address_kept_blind : (s : List ℕ) → address (lower s) ≡ address s
address_kept_blind s = ap (λ part. lower_unless_part part (lower s)) (fault_blind s) ∙ unless_part_blind (address_fault s) s
