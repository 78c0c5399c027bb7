-- Which bytes are texts of keys and names.
use Rattle.std.proofs.Common.{◌≡◌, ℕ, ◌<◌, ◌==◌, ◌&&◌, Bool, true, false, List, length, take, drop, cond, Result, Ok, Err, None, Some, refl, sym, ap, ◌∙◌, arith, leb, leb-true, IsUtf8, length-take}
use Rattle.std.proofs.lemmas.Bool.Decides.{nat_tests}
use Rattle.misp_ids.specs.Names.{is_api_key}
use Rattle.misp_ids.proofs.NamesLemmas.{IsUtf8-api_key}
use Rattle.misp_orgs.specs.Org.{name_limit}
use Rattle.misp_elem.specs.Fields.{is_text}
use Rattle.std.specs.Str.{is_utf8}
use Rattle.misp_elem.proofs.Texts.{is_text-true}
use Rattle.misp_admins.specs.declared.item.Item.{Item}
use Rattle.misp_admin_rows.specs.Reads.{IsUnread}
use Rattle.misp_admin_rows.specs.Rows.{api_key_at, as_item}

unlike : (n : ℕ) → n < 40 → (n == 40) ≡ false
unlike n h = grind (arith, nat_tests, h)

-- fewer bytes than a key has are no key
pub short_key : (bytes : List ℕ) → length bytes < 40 → is_api_key (take 40 bytes) ≡ false
short_key bytes h = rw (unlike (length (take 40 bytes)) (omega (arith, length-take 40 bytes))) refl

-- what is no text is no key
pub no_key : (bytes : List ℕ) (b : Bool) → is_api_key bytes ≡ b → (IsUtf8 bytes → ⊥) → b ≡ false
no_key bytes true e bad = absurd (bad (IsUtf8-api_key bytes e))
no_key bytes false e bad = refl

-- what is not read is no item
pub unread_item : {A : Type 0} (make : A → Item) (r : Result A ℕ) → IsUnread r → as_item make r ≡ None
unread_item make (Ok x) e = absurd cc
unread_item make (Err left) e = refl

-- ---- names of organisations

long_isnt : (a c : Bool) → (a && false && c) ≡ false
long_isnt true c = refl
long_isnt false c = refl

-- text that is short is a name, and text that is long is none
pub name_is : (text bytes : List ℕ) (short : Bool) → text ≡ bytes → IsUtf8 bytes → short ≡ leb (length text) name_limit → short ≡ true → (text ≡ bytes) × (is_text 0 name_limit bytes ≡ true)
name_is text bytes short same good is h =
    let size : leb (length bytes) name_limit ≡ true = ap (λ t. leb (length t) name_limit) (sym same) ∙ sym is ∙ h in
    (same, is_text-true 0 name_limit bytes (omega arith) (leb-true _ _ size) good)

pub name_isnt : (text bytes : List ℕ) (short : Bool) → text ≡ bytes → short ≡ leb (length text) name_limit → short ≡ false → is_text 0 name_limit bytes ≡ false
name_isnt text bytes short same is h =
    let size : leb (length bytes) name_limit ≡ false = ap (λ t. leb (length t) name_limit) (sym same) ∙ sym is ∙ h in
    rw size (long_isnt (leb 0 (length bytes)) (is_utf8 bytes))

-- ---- keys

told_some : (b : Bool) (front key : List ℕ) → cond b (Some front) None ≡ Some key → (b ≡ true) × (front ≡ key)
told_some true front key e = (refl, cc)
told_some false front key e = absurd cc

told_none : (b : Bool) (front : List ℕ) → cond b (Some front) None ≡ None → b ≡ false
told_none true front e = absurd cc
told_none false front e = refl

-- forty bytes that are a key are read, and others are not
pub key_read : (own bytes front rest key : List ℕ) → own ≡ bytes → front ≡ take 40 own → rest ≡ drop 40 own → cond (is_api_key front) (Some front) None ≡ Some key → api_key_at bytes ≡ Ok (key, rest)
unfolding api_key_at
key_read own bytes front rest key same f r e =
    let told = told_some (is_api_key front) front key e in
    let is : is_api_key (take 40 own) ≡ true = ap (λ k. is_api_key k) (sym f) ∙ told.0 in
    rw (← same, is, ← f, ← r, told.1) refl

pub key_unread : (own bytes front : List ℕ) → own ≡ bytes → front ≡ take 40 own → cond (is_api_key front) (Some front) None ≡ None → IsUnread (api_key_at bytes)
unfolding api_key_at
key_unread own bytes front same f e =
    let isnt : is_api_key (take 40 own) ≡ false = ap (λ k. is_api_key k) (sym f) ∙ told_none (is_api_key front) front e in
    rw (← same, isnt) refl
