-- Values that are read, so that a wrong rule in the specs does not check.
use Rattle.std.proofs.Common.{◌≡◌, true, [], ◌∷◌, map, Some, None, Ok, Err, refl, ◌++◌, codes, decimal}
use Rattle.hex.proofs.OnLiterals.{hex_on_literals}
use Rattle.serde_json.specs.Data.{unsigned, null, boolean, number, string}
use Rattle.misp_fields.specs.declared.need.Need.{Need}
use Rattle.misp_fields.specs.Fields.{colour_in, moment_of, number_of}
use Rattle.misp_dates.specs.Moments.{read_moment}
use Rattle.misp_fields.specs.Needs.{need_words}

pub known_colours : map colour_in (codes "#ff8000" ∷ codes "#FF80aB" ∷ codes "ff8000" ∷ codes "#ff80" ∷ codes "#ff80000" ∷ codes "#ff800g" ∷ codes "" ∷ [])
    ≡ Some (255 ∷ 128 ∷ 0 ∷ []) ∷ Some (255 ∷ 128 ∷ 171 ∷ []) ∷ None ∷ None ∷ None ∷ None ∷ None ∷ []
unfolding hex_on_literals
known_colours = refl

-- a number may be a text
pub known_numbers : (number_of (number (unsigned 7)) ≡ Ok 7)
    × (map (λ text. number_of (string text)) (codes "7" ∷ codes "18446744073709551615" ∷ codes "18446744073709551616" ∷ codes "+7" ∷ codes "" ∷ [])
    ≡ Ok 7 ∷ Ok 18446744073709551615 ∷ Err Need.Number ∷ Err Need.Number ∷ Err Need.Number ∷ [])
    × (number_of (boolean true) ≡ Err Need.Number) × (number_of null ≡ Err Need.Number)
known_numbers = (refl, refl, refl, refl)

pub known_words : map need_words (Need.Text ∷ Need.Key ∷ Need.Digit 7 ∷ Need.Part 2 ∷ Need.Row ∷ [])
    ≡ codes "text" ∷ codes "key" ∷ (codes "digit " ++ decimal 7) ∷ (codes "part " ++ decimal 2) ∷ codes "row" ∷ []
unfolding need_words
known_words = refl

-- the empty text is no moment
pub known_moments : (moment_of (string (codes "")) ≡ Ok None) × (moment_of null ≡ Err Need.Moment)
    × (moment_of (string (codes "2023-11-14")) ≡ Err Need.Moment)
unfolding read_moment
known_moments = (refl, refl, refl)
