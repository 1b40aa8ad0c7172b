-- The parts of the sample's text.
use Rattle.std.specs.Prelude.{ℕ, List, ◌++◌, codes, decimal}
use Rattle.lsys_spec.specs.Samples.{signal_line, unit_axis, unit_branch}

abbrev pub growth_lines : List ℕ
growth_lines = codes "ignore +-\n" ++ (signal_line ++ codes "depth 20\n")

abbrev pub end_lines : ℕ → List ℕ
end_lines n = codes "seed " ++ (decimal n ++ codes "\nquit\n")

-- a unit: its branch and its piece of the axis
abbrev pub unit_text : ℕ → ℕ → List ℕ
unit_text changed unit = unit_branch unit ++ unit_axis changed unit
