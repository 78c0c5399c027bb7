-- The entries that tags and instances are gathered in, each under its name, and values of types.
use Rattle.std.specs.Prelude.{ℕ, ◌≤◌, Bool, true, false, List, [], ◌≡◌}
use Rattle.std.specs.Str.{is_utf8}
use Rattle.misp_types.specs.Values.{IsKept}
use Rattle.misp_elem.specs.declared.content.Tag.{Tag}
use Rattle.misp_elem.specs.Fields.{text_limit, tags_size, IsText, IsTagName, IsColour, AreTags}

-- tags that an element may have wherever there is room for their names
abbrev pub FitTags : List Tag → Type 0
FitTags tags = (room : ℕ) → room ≤ text_limit → tags_size tags ≤ room → AreTags room tags

-- what a tag may have
abbrev pub IsNamed : List ℕ × (List ℕ × Bool) → Type 0
IsNamed named = IsTagName text_limit [] named.0 × IsColour named.1.0

-- an instance stands by its own name
abbrev pub IsSpelled : List ℕ × (List ℕ × Bool) → Type 0
IsSpelled e = e.0 ≡ e.1.0

-- a type, and a text that it keeps as it is
abbrev pub IsKeptPair : List ℕ × List ℕ → Type 0
IsKeptPair p = IsText 1 100 p.0 × (IsKept p.0 p.1 × (is_utf8 p.1 ≡ true))

-- a text that the type keeps as it is, and none in a proposal that asks to delete
abbrev pub IsKeptUnless : Bool → List ℕ → List ℕ → Type 0
IsKeptUnless true kind value = IsText 0 0 value
IsKeptUnless false kind value = IsKept kind value × (is_utf8 value ≡ true)
