-- Texts, and lists of tables.
use Rattle.std.proofs.Common.{◌≡◌, ℕ, Bool, true, false, List, [], ◌∷◌, codes, map, Some, refl, sym, ap, IsUtf8}
use Rattle.toml.specs.Data.{Data, as_array}
use Rattle.toml.specs.View.{items_of, view}
use Rattle.toml.specs.declared.value.Value.{Value}
use Rattle.misp_lists.proofs.Prelude.{IsUtf8-from_is_utf8, is_utf8, is_utf8-from_IsUtf8}
use Rattle.misp_script.specs.declared.fault.DescNeed.{DescNeed}
use Rattle.misp_script.specs.Faults.{bad}
use Rattle.misp_script.specs.Network.{listed, items_in, parsed_at, document_at}

not_true : (b : Bool) → (b ≡ true → ⊥) → b ≡ false
not_true true h = absurd (h refl)
not_true false h = refl

-- a text is parsed
pub of_text : (bytes : List ℕ) → IsUtf8 bytes → document_at bytes ≡ parsed_at bytes
of_text bytes text = rw (is_utf8-from_IsUtf8 bytes text) refl

-- what is no text is refused
pub of_no_text : (bytes : List ℕ) → (IsUtf8 bytes → ⊥) → document_at bytes ≡ bad (codes "-") DescNeed.Toml
of_no_text bytes other = rw (not_true (is_utf8 bytes) (λ h. other (IsUtf8-from_is_utf8 bytes h))) refl

-- the items of a list are the list
pub listed-items : (ds : List Data) → listed (items_of ds) ≡ ds
listed-items [] = refl
listed-items (d ∷ ds) = ap (λ (more : List Data). d ∷ more) (listed-items ds)

-- the items of a value that is a list
pub items_of_array : (vs : List Value) (d : Data) → as_array d ≡ Some (items_of (map view vs)) → map view vs ≡ items_in d
items_of_array vs d is = rw is (sym (listed-items (map view vs)))
