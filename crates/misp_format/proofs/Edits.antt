-- What an edit gives is such as a row may have.
use Rattle.std.proofs.Common.{◌≡◌, ℕ, ◌<◌, ◌≤◌, ◌^◌, Bool, true, false, List, [], ◌∷◌, length, Option, Some, None, Result, Ok, Err, refl, subst, arith, IfSome, ◌==◌}
use Rattle.misp_elem.specs.Fields.{IsDate}
use Rattle.misp_elem.specs.Draft.{IsOptionalDate}
use Rattle.misp_elem.specs.Prelude.{IsLabel, IsLabelBut, IsOptionalUid, IsText, text_limit}
use Rattle.misp_model.specs.Edit.{IsGiven, IsKindValue, given_size, pair_size}
use Rattle.misp_format.specs.Prelude.{Body, Data, Label, Need, Reading, Uid, is_utf8, label_at, label_kind, must_be}
use Rattle.misp_format.specs.Edits.{has, given, given_row, given_label_at}
use Rattle.misp_format.specs.Entries.{IsKeptPair}
use Rattle.misp_format.specs.Rows.{row}
use Rattle.misp_format.proofs.Fitting.{in_room, optional_fits, kept_is_kept}
use Rattle.misp_format.proofs.Kept.{row_keeps, must_be_there, label_owned, not_inherited}

-- ---- rows

-- what holds of all that is read holds of what is given
given_keeps : {A : Type 0} (P : A → Type 0) (there : Bool) (reading : Reading A) (x : Option A)
    → ((y : A) → reading ≡ Ok y → P y) → given there reading ≡ Ok x → IsGiven P x
given_keeps P true (Ok y) x fits h = let e : Some y ≡ x = cc in subst (IsGiven P) e (fits y refl)
given_keeps P true (Err fault) x fits h = absurd cc
given_keeps P false reading x fits h = let e : None ≡ x = cc in subst (IsGiven P) e tt

-- what holds of all that a reader gives holds of what a row gives
pub given_row_keeps : {A : Type 0} (P : A → Type 0) (it : Body) (name : List ℕ) (reader : Data → Result A Need)
    → ((d : Data) (y : A) → reader d ≡ Ok y → P y) → (x : Option A) → given_row it name reader ≡ Ok x → IsGiven P x
given_row_keeps P it name reader fits x h =
    given_keeps P (has it name) (row it name reader must_be) x (λ y is. row_keeps P it name reader must_be fits (λ z absent. must_be_there P z Need.Present absent) y is) h

-- ---- labels

owned_fits : (x : Option Label) → IsGiven (λ label. (label_kind label == 5) ≡ false) x → IsGiven IsLabel x → IsGiven (IsLabelBut (5 ∷ [])) x
owned_fits None owned fits = tt
owned_fits (Some label) owned fits = (not_inherited label owned, fits)

-- the label of an event
pub event_label_given : (it : Body) (x : Option Label) → given_label_at it 4 ≡ Ok x → IsGiven IsLabel x → IsGiven (IsLabelBut (5 ∷ [])) x
unfolding given_label_at
event_label_given it x h fits = owned_fits x (given_keeps (λ label. (label_kind label == 5) ≡ false) _ (label_at it 4 0) x (label_owned it) h) fits

-- ---- texts

pub text_given : (x : Option (List ℕ)) → IfSome x (λ text. is_utf8 text ≡ true) → given_size x ≤ text_limit → IsGiven (IsText 0 text_limit) x
text_given None utf8 short = tt
text_given (Some text) utf8 short = in_room 0 text_limit text utf8 (omega arith) short

pub some_text_given : (x : Option (List ℕ)) → IfSome x (λ text. (is_utf8 text ≡ true) × (1 ≤ length text)) → given_size x ≤ text_limit
    → IsGiven (IsText 1 text_limit) x
some_text_given None long short = tt
some_text_given (Some text) long short = in_room 1 text_limit text long.0 long.1 short

pub pair_given : (x : Option (List ℕ × List ℕ)) → IfSome x IsKeptPair → pair_size x ≤ text_limit → IsGiven IsKindValue x
pair_given None kept short = tt
pair_given (Some p) kept short = (
  kept.0,
  rw (in_room 0 text_limit p.1 kept.1.1 (omega arith) (omega arith), kept_is_kept p.0 p.1 kept.1.0) refl,
)

-- ---- dates and identifiers

pub date_given : (x : Option (List ℕ)) → IsOptionalDate x → IsGiven IsDate x
date_given None fits = tt
date_given (Some date) fits = fits

pub uuid_given : (x : Option (Option Uid)) → IfSome x (λ found. IfSome found (λ uuid. uuid.0 < 2 ^ 128)) → IsGiven IsOptionalUid x
uuid_given None fits = tt
uuid_given (Some found) fits = optional_fits found fits
