-- Lists of rows, and searches in lists.
use Rattle.std.proofs.Common.{◌≡◌, ◌∙◌, ℕ, ◌+◌, ◌<◌, Bool, ◌||◌, Option, Some, None, List, [], ◌∷◌, ◌++◌, map, take, length, get_or, ap, sym, refl, arith, append_assoc, append-nil, filter_map}
use Rattle.std.specs.List.{list_any, cons_option}
use Rattle.std.proofs.lemmas.List.{map-append, map-id, map_more, take_more}
use Rattle.std.proofs.lemmas.List.Elements.{filter_map-append}

module _ {A B : Type 0} where
  -- one more item at the end of a list that is mapped after another
  pub map_push : (f : A → B) (before after : List B) (xs : List A) (x : A) →
      after ≡ before ++ map f xs → after ++ f x ∷ [] ≡ before ++ map f (xs ++ x ∷ [])
  map_push f before after xs x h = rw h (append_assoc before (map f xs) (f x ∷ []) ∙ ap (λ ys. before ++ ys) (sym (map-append f xs (x ∷ []))))

  -- the same where the list is taken from another
  pub map_next : (f : A → B) (after : List B) (xs : List A) (i : ℕ) (x : A) (y : B) → i < length xs → x ≡ get_or xs i x → y ≡ f x →
      after ≡ map f (take i xs) → after ++ y ∷ [] ≡ map f (take (i + 1) xs)
  map_next f after xs i x y l e g h =
      (λ j. h j ++ (g ∙ ap f e) j ∷ []) ∙ sym (map_more f xs i x l)

-- something passes one of two tests where something passes the one or the other
pub any_or : {X : Type 0} (p q : X → Bool) (xs : List X) → list_any (λ x. p x || q x) xs ≡ (list_any p xs || list_any q xs)
any_or p q [] = refl
any_or p q (x ∷ xs) = grind (arith, any_or p q xs)

-- the same as map_push where the whole list is known
pub map_all : {A B : Type 0} (f : A → B) (before after : List B) (xs ys : List A) →
    map (λ x. x) xs ≡ ys → after ≡ before ++ map f xs → after ≡ before ++ map f ys
map_all f before after xs ys e h = h ∙ ap (λ zs. before ++ map f zs) (sym (map-id xs) ∙ e)

-- one of a list that is filtered, after those before it
module _ {X Y : Type 0} (f : X → Option Y) where
  filter_map_more : (xs : List X) (i : ℕ) (d : X) → i < length xs → filter_map f (take (i + 1) xs) ≡ filter_map f (take i xs) ++ cons_option (f (get_or xs i d)) []
  filter_map_more xs i d l = ap (filter_map f) (take_more xs i d l) ∙ filter_map-append f (take i xs) (get_or xs i d ∷ [])

  -- it is kept
  pub filter_map_some : (ys : List Y) (xs : List X) (i : ℕ) (x : X) (y : Y) → i < length xs → x ≡ get_or xs i x → f x ≡ Some y →
      ys ++ filter_map f (take (i + 1) xs) ≡ (ys ++ filter_map f (take i xs)) ++ y ∷ []
  filter_map_some ys xs i x y l e h =
      ap (λ zs. ys ++ zs) (filter_map_more xs i x l ∙ ap (λ o. filter_map f (take i xs) ++ cons_option o []) (ap f (sym e) ∙ h))
      ∙ sym (append_assoc ys (filter_map f (take i xs)) (y ∷ []))

  -- it is not
  pub filter_map_none : (ys : List Y) (xs : List X) (i : ℕ) (x : X) → i < length xs → x ≡ get_or xs i x → f x ≡ None →
      ys ++ filter_map f (take (i + 1) xs) ≡ ys ++ filter_map f (take i xs)
  filter_map_none ys xs i x l e h =
      ap (λ zs. ys ++ zs) (filter_map_more xs i x l ∙ ap (λ o. filter_map f (take i xs) ++ cons_option o []) (ap f (sym e) ∙ h) ∙ append-nil (filter_map f (take i xs)))

  -- one item more of a list that was gone through
  pub filter_map_push_some : (before after : List Y) (xs : List X) (x : X) (y : Y) → f x ≡ Some y → after ≡ before ++ filter_map f xs →
      after ++ y ∷ [] ≡ before ++ filter_map f (xs ++ x ∷ [])
  filter_map_push_some before after xs x y h e =
      ap (λ zs. zs ++ y ∷ []) e ∙ append_assoc before (filter_map f xs) (y ∷ [])
      ∙ ap (λ zs. before ++ zs) (sym (filter_map-append f xs (x ∷ []) ∙ ap (λ o. filter_map f xs ++ cons_option o []) h))

  pub filter_map_push_none : (before after : List Y) (xs : List X) (x : X) → f x ≡ None → after ≡ before ++ filter_map f xs →
      after ≡ before ++ filter_map f (xs ++ x ∷ [])
  filter_map_push_none before after xs x h e =
      e ∙ ap (λ zs. before ++ zs) (sym (filter_map-append f xs (x ∷ []) ∙ ap (λ o. filter_map f xs ++ cons_option o []) h ∙ append-nil (filter_map f xs)))
