-- The text of data without numbers is UTF-8 where its texts are.
use Rattle.std.proofs.Common.{◌≡◌, ℕ, Bool, true, false, List, [], ◌∷◌, map, IsUtf8, refl}
use Rattle.std.specs.Prelude.{⊤}
use Rattle.std.proofs.lemmas.Str.{IsUtf8-append, IsUtf8-nil}
use Rattle.json.specs.Print.{quoted}
use Rattle.json.proofs.Printed.Utf8.{are_ascii, IsUtf8-are_ascii, IsUtf8-quoted, IsUtf8-boolean}
use Rattle.serde_json.specs.Data.{null}
use Rattle.serde_json.specs.Written.{comma_if, items_text, members_text}
use Rattle.misp_format.specs.Prelude.{AllByRecursion, Data, Items, Members, array, boolean, compact_text, item, items_of, member, no_items, no_members, number, object, string}

-- its texts are UTF-8, its names ASCII, and it has no numbers
abbrev mutual
  pub IsText : Data → Type 0
  IsText null = ⊤
  IsText (boolean b) = ⊤
  IsText (number n) = ⊥
  IsText (string s) = IsUtf8 s
  IsText (array ds) = AreTexts ds
  IsText (object ms) = HasTexts ms

  pub AreTexts : Items → Type 0
  AreTexts no_items = ⊤
  AreTexts (item d ds) = IsText d × AreTexts ds

  pub HasTexts : Members → Type 0
  HasTexts no_members = ⊤
  HasTexts (member k d ms) = (are_ascii k ≡ true) × (IsText d × HasTexts ms)

comma : (later : Bool) → IsUtf8 (comma_if later)
comma true = IsUtf8-are_ascii (44 ∷ []) refl
comma false = IsUtf8-nil

-- after a byte of the grammar
pub behind : (byte : ℕ) (text : List ℕ) → are_ascii (byte ∷ []) ≡ true → IsUtf8 text → IsUtf8 (byte ∷ text)
behind byte text ascii h = IsUtf8-append (byte ∷ []) text (IsUtf8-are_ascii (byte ∷ []) ascii) h

mutual
  pub text_utf8 : (d : Data) → IsText d → IsUtf8 (compact_text d)
  text_utf8 null h = IsUtf8-are_ascii _ refl
  text_utf8 (boolean b) h = IsUtf8-boolean b
  text_utf8 (number n) h = absurd h
  text_utf8 (string s) h = IsUtf8-quoted s h
  text_utf8 (array ds) h = behind 91 _ refl (items_utf8 false ds h)
  text_utf8 (object ms) h = behind 123 _ refl (members_utf8 false ms h)

  items_utf8 : (later : Bool) (ds : Items) → AreTexts ds → IsUtf8 (items_text later ds)
  items_utf8 later no_items h = IsUtf8-are_ascii (93 ∷ []) refl
  items_utf8 later (item d ds) h = IsUtf8-append (comma_if later) _ (comma later) (IsUtf8-append (compact_text d) _ (text_utf8 d h.0) (items_utf8 true ds h.1))

  members_utf8 : (later : Bool) (ms : Members) → HasTexts ms → IsUtf8 (members_text later ms)
  members_utf8 later no_members h = IsUtf8-are_ascii (125 ∷ []) refl
  members_utf8 later (member k d ms) h =
      IsUtf8-append (comma_if later) _ (comma later) (IsUtf8-append (quoted k) _ (IsUtf8-quoted k (IsUtf8-are_ascii k h.0)) (behind 58 _ refl (IsUtf8-append (compact_text d) _ (text_utf8 d h.1.0) (members_utf8 true ms h.1.1))))

pub are_texts : {A : Type 0} {Is : A → Type 0} (one : A → Data) → ((a : A) → Is a → IsText (one a)) → (xs : List A) → AllByRecursion Is xs → AreTexts (items_of (map one xs))
are_texts one h [] all = tt
are_texts one h (x ∷ xs) all = (h x all.0, are_texts one h xs all.1)
