-- The names of the categories of attributes.
use Rattle.std.specs.Prelude.{ℕ, Bool, ◌||◌, List, [], ◌∷◌, codes, Result, Ok, Err, position, slice_get, unwrap_or, bytes_eq}
use Rattle.serde_json.specs.Data.{Data}
use Rattle.misp_fields.specs.declared.need.Need.{Need}
use Rattle.misp_fields.specs.Fields.{or_need, text_of}

-- CATEGORIES: their names, each at its number
abbrev pub category_texts : List (List ℕ)
category_texts =
    codes "Internal reference"
    ∷ codes "Targeting data"
    ∷ codes "Antivirus detection"
    ∷ codes "Payload delivery"
    ∷ codes "Artifacts dropped"
    ∷ codes "Payload installation"
    ∷ codes "Persistence mechanism"
    ∷ codes "Network activity"
    ∷ codes "Payload type"
    ∷ codes "Attribution"
    ∷ codes "External analysis"
    ∷ codes "Financial fraud"
    ∷ codes "Support Tool"
    ∷ codes "Social network"
    ∷ codes "Person"
    ∷ codes "Other"
    ∷ []

-- the number of the category `Other`, which counts where none is named
abbrev pub other_category : ℕ
other_category = 15

-- the number of the category of this name
abbrev pub category_in : List ℕ → Result ℕ Need
category_in text = or_need Need.Range (position (λ name. bytes_eq name text) category_texts)

abbrev pub category_in_text : Result (List ℕ) Need → Result ℕ Need
category_in_text (Ok text) = category_in text
category_in_text (Err need) = Err need

-- READER: the name of a category
abbrev pub category_of : Data → Result ℕ Need
category_of d = category_in_text (text_of d)

-- the name of the category of this number, or `Other`
unfoldable pub category_name : ℕ → List ℕ
category_name number = unwrap_or (slice_get category_texts number) (codes "Other")

-- the values of these types are files
abbrev pub is_file_type : List ℕ → Bool
is_file_type kind = bytes_eq kind (codes "attachment") || bytes_eq kind (codes "malware-sample")
