-- Groups with memory for more of them.
use Rattle.std.specs.Prelude.{ℕ, List}
use Rattle.misp_groups.specs.declared.group.GroupFields.{GroupFields as Group}

-- groups, and for how many more there is memory
pub record Roomy : Type 0 where
  pub groups : List Group
  pub spare : ℕ

-- these groups, and memory for so many more
abbrev pub roomy : List Group → ℕ → Roomy
roomy groups spare = record { groups = groups; spare = spare }
