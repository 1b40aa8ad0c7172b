-- What the counts of letters tell of a system's levels, and of a string's length.
use Rattle.std.specs.Prelude.{◌≡◌, ℕ, true, List, Some, Ok, slice_get, ◌+◌, ℤ, length}
use Rattle.lsys_syntax.specs.Strings.{ModuleName, balanced}
use Rattle.lsys_syntax.specs.Strings as S
use Rattle.lsys_spec.specs.Systems.{System, Apart, same_name}
use Rattle.lsys_spec.specs.Levels.{LevelSymbol}
use Rattle.lsys_spec.specs.Meaning.{meaning}
use Rattle.lsys_growth.specs.Growth.{in_class, level_on, is_bare}
use Rattle.lsys_growth.specs.Counts.{AreLetters, HasCounts, counts_after, all_among, branch_count, letters_total}

-- in the class each level is there, and its counts are those
-- of the axiom by the matrices of the steps
abbrev pub CountsGrowByTheMatricesOfTheSteps : Type 0
CountsGrowByTheMatricesOfTheSteps =
    (s : System) (ns : List ModuleName) (t : ℕ) → in_class s ≡ true → AreLetters s ns
    → HasCounts (level_on s t) ns (counts_after s ns t)

-- within the depth the levels that go on past it are those of the meaning
abbrev pub LevelsOfTheDepthAreTheMeaning : Type 0
LevelsOfTheDepthAreTheMeaning =
    (s : System) (limit t : ℕ) (levels : List (List LevelSymbol)) (x : List LevelSymbol)
    → meaning s limit ≡ Ok levels → slice_get levels t ≡ Some x → level_on s t ≡ Ok x

-- the length of a balanced string is the sum of its letters' counts and twice that of its branches
abbrev pub LettersAndBranchesMakeTheLength : Type 0
LettersAndBranchesMakeTheLength =
    (ns : List ModuleName) (xs : List (S.Symbol ℤ)) → Apart same_name ns
    → is_bare xs ≡ true → all_among ns xs ≡ true → balanced 0 xs ≡ true
    → length xs ≡ letters_total ns xs + (branch_count xs + branch_count xs)
