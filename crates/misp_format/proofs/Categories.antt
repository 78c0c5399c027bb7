-- The code's list of categories and the definitions' list of their texts: each text is that of a name.
use Rattle.std.proofs.Common.{◌≡◌, ℕ, Bool, not, List, [], ◌∷◌, map, Option, Some, None, refl, ap, ◌∙◌, sym, ◌+◌, position, slice_get, unwrap_or, if◌then◌else◌, option_map, bytes_eq}
use Rattle.std.specs.List.{prefix_len}
use Rattle.std.proofs.lemmas.Option.{slice_get-map}
use Rattle.misp_lists.proofs.Prelude.{length-map, option_map_or}
use Rattle.misp_format.specs.declared.kinds.TheConstants.{CATEGORIES}
use Rattle.misp_format.specs.Kinds.{category_texts}

-- ---- names and texts

module _ {A B : Type 0} (f : A → B) where
  prefix_map : (p : B → Bool) (xs : List A) → prefix_len p (map f xs) ≡ prefix_len (λ x. p (f x)) xs
  prefix_map p [] = refl
  prefix_map p (x ∷ xs) = ap (λ n. if p (f x) then 1 + n else 0) (prefix_map p xs)

  -- the place of a text is that of its name
  position_map : (p : B → Bool) (xs : List A) → position p (map f xs) ≡ position (λ x. p (f x)) xs
  position_map p xs = rw (prefix_map (λ y. not (p y)) xs, length-map xs f) refl

  or_absent : (o : Option A) (absent : B) → unwrap_or (option_map f o) absent ≡ option_map_or f o absent
  or_absent None absent = refl
  or_absent (Some x) absent = refl

  -- the text at a place is that of the name there
  pub name_in_map : (xs : List A) (n : ℕ) (absent : B) → unwrap_or (slice_get (map f xs) n) absent ≡ option_map_or f (slice_get xs n) absent
  name_in_map xs n absent = ap (λ o. unwrap_or o absent) (slice_get-map f xs n) ∙ or_absent (slice_get xs n) absent

-- ---- categories

categories_are : map (λ name. name.now) CATEGORIES ≡ category_texts
categories_are = refl

pub category_place : (text : List ℕ) → position (λ name. bytes_eq name.now text) CATEGORIES ≡ position (λ name. bytes_eq name text) category_texts
category_place text = sym (position_map (λ name. name.now) (λ name. bytes_eq name text) CATEGORIES) ∙ ap (position (λ name. bytes_eq name text)) categories_are
