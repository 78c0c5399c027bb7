-- What is written of a description that has a fault.
use Rattle.std.specs.Prelude.{ℕ, List, ◌++◌, codes}
use Rattle.misp_script.specs.declared.fault.DescNeed.{DescNeed}
use Rattle.misp_script.specs.Faults.{need_name}

-- the line that tells the first fault of a description: its path, and what was needed there
abbrev pub fault_line : List ℕ → DescNeed → List ℕ
fault_line path need =
    codes "bad description: " ++ path ++ codes " " ++ need_name need ++ codes "\n"
