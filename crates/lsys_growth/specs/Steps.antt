-- Rows and matrices of the code: of the axiom, of steps, of turns, and of levels.
use Rattle.std.specs.Prelude.{ℕ, suc, ◌+◌, ◌-◌, ◌*◌, ◌/◌, ◌^◌, ◌<◌, ◌≤◌, Option, List, Vec, length, map}
use Rattle.std.specs.declared.alloc.Global.{Global}
use Rattle.lsys_syntax.specs.Strings.{ModuleName}
use Rattle.lsys_spec.specs.Systems.{System}
use Rattle.lsys_module.specs.Views.{module_name}
use Rattle.lsys_growth.specs.Sums.{row_after, repeated, steps_product}
use Rattle.lsys_growth.specs.Matrices.{Square, IsRow, IsMatrix}
use Rattle.lsys_growth.specs.Counts.{first_counts, counts_after, step_matrix}

-- a place for each letter, and one for `[`
abbrev pub width : List ModuleName → ℕ
width ns = suc (length ns)

-- the counts of the axiom
abbrev pub IsAxiomRow : System → List ModuleName → List (Option ℕ) → Type 0
IsAxiomRow s ns r = IsRow (width ns) (first_counts s ns) r

-- the counts of a level
abbrev pub IsLevelRow : System → List ModuleName → ℕ → List (Option ℕ) → Type 0
IsLevelRow s ns t r = IsRow (width ns) (counts_after s ns t) r

-- the matrix of the step from a level
abbrev pub IsStepMatrix : System → List ModuleName → ℕ → Square → Type 0
IsStepMatrix s ns t m = IsMatrix (width ns) (step_matrix s ns t) m

abbrev pub turn_matrix : System → List ModuleName → ℕ → ℕ → ℕ
turn_matrix s ns i j = steps_product (width ns) (step_matrix s ns) (length s.schedule - 1) i j

-- the matrix of a turn through the schedule
abbrev pub IsTurn : System → List ModuleName → Square → Type 0
IsTurn s ns m = IsMatrix (width ns) (turn_matrix s ns) m

-- whatever numbers the first row tells, the other tells those after so many turns
abbrev pub AfterTurns : System → List ModuleName → ℕ → List (Option ℕ) → List (Option ℕ) → Type 0
AfterTurns s ns turns first r = (v : ℕ → ℕ) → IsRow (width ns) v first → IsRow (width ns) (repeated (width ns) (turn_matrix s ns) turns v) r

-- the same, of single steps from level 0 on
abbrev pub AfterSteps : System → List ModuleName → ℕ → List (Option ℕ) → List (Option ℕ) → Type 0
AfterSteps s ns steps first r = (v : ℕ → ℕ) → IsRow (width ns) v first → IsRow (width ns) (row_after (width ns) (step_matrix s ns) 0 steps v) r

-- so it is with rows of the code, whose letters are these names
abbrev pub AfterTurnsOf : System → List (List ℕ) → ℕ → Vec (Option ℕ) Global
    → Vec (Option ℕ) Global → Type 0
AfterTurnsOf s letters turns first r =
    AfterTurns s (map module_name letters) turns first.items r.items

abbrev pub AfterStepsOf : System → List (List ℕ) → ℕ → Vec (Option ℕ) Global
    → Vec (Option ℕ) Global → Type 0
AfterStepsOf s letters steps first r =
    AfterSteps s (map module_name letters) steps first.items r.items

-- how many products of rows and of matrices are made at most: by the schedule, and by how often the number of turns halves
abbrev pub FewProductsForTurns : System → ℕ → ℕ → ℕ → Type 0
FewProductsForTurns s turns before after =
    (k : ℕ) → turns < 2 ^ k → after ≤ before + (2 * k + length s.schedule)

-- for the row of a level
abbrev pub FewProductsForLevel : System → ℕ → ℕ → ℕ → Type 0
FewProductsForLevel s t before after =
    (k : ℕ) → t / length s.schedule < 2 ^ k
    → after ≤ before + (2 * k + 2 * length s.schedule)
