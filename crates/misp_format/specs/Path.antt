-- The texts of paths.
use Rattle.std.specs.Prelude.{ℕ, List, ◌++◌, codes, decimal}

-- the member of what stands at a path
abbrev pub member_path : List ℕ → List ℕ → List ℕ
member_path path name = path ++ codes "." ++ name

-- an item of the list that stands at a path
abbrev pub item_path : List ℕ → ℕ → List ℕ
item_path path n = path ++ codes "[" ++ decimal n ++ codes "]"
