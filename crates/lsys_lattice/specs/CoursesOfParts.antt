-- Which way a turtle goes inside a string that is told by its parts.
use Rattle.std.specs.Prelude.{◌≡◌, ℕ, ℤ, true, List, take, Contains, ◌+◌, ◌≤◌, ◌++◌, length, suc, [], ◌∷◌, Some, Ok}
use Rattle.lsys_syntax.specs.Strings.{balanced}
use Rattle.lsys_syntax.specs.Strings as S
use Rattle.lsys_spec.specs.Lattices.{Lattice, frames}
use Rattle.lsys_spec.specs.Pictures.{Segment, segments_of}
use Rattle.lsys_lattice.specs.Effects.{Stand, walker, walked, walker_from, first_walker, effect}
use Rattle.lsys_lattice.specs.Free.{turtle_of}
use Rattle.lsys_lattice.specs.Bounds.{turtle_at}
use Rattle.lsys_lattice.specs.Courses.{course, onward, inward, strung, AreAllBalanced, led_through, Grouping, nested_string, HasBalancedRuns, descent}

-- inside a balanced string any turtle goes the way from the start,
-- carried to where it is, and what was saved stays
abbrev pub CoursesAreTheSameAnywhere : Type 0
CoursesAreTheSameAnywhere =
    (l : Lattice) (from : Stand) (below : List Stand) (n : ℕ) (xs : List (S.Symbol ℤ))
    → Contains (frames l) from.frame → balanced 0 xs ≡ true
    → walked l (take n xs) (walker from below) ≡ walker_from l from below (course l n xs)

-- inside the first of two strings the second one doesn't matter
abbrev pub FirstStringsAreGoneFirst : Type 0
FirstStringsAreGoneFirst =
    (l : Lattice) (n : ℕ) (xs ys : List (S.Symbol ℤ)) → n ≤ length xs
    → course l n (xs ++ ys) ≡ course l n xs

-- inside the second it goes the way of that from where the first one leads
abbrev pub SecondStringsAreGoneOnward : Type 0
SecondStringsAreGoneOnward =
    (l : Lattice) (n : ℕ) (xs ys : List (S.Symbol ℤ)) → balanced 0 xs ≡ true
    → balanced 0 ys ≡ true
    → course l (length xs + n) (xs ++ ys) ≡ onward l xs (course l n ys)

-- inside a branch it goes the way of what is in it, with the start saved
abbrev pub BranchesAreGoneInward : Type 0
BranchesAreGoneInward =
    (l : Lattice) (n : ℕ) (xs : List (S.Symbol ℤ)) → balanced 0 xs ≡ true
    → n ≤ length xs
    → course l (suc n) (S.Push ∷ xs ++ S.Pop ∷ []) ≡ inward l (course l n xs)

-- after the `]` it is at the start again
abbrev pub BranchesAreLeftAtTheStart : Type 0
BranchesAreLeftAtTheStart =
    (l : Lattice) (n : ℕ) (xs : List (S.Symbol ℤ)) → balanced 0 xs ≡ true
    → length xs + 2 ≤ n
    → course l n (S.Push ∷ xs ++ S.Pop ∷ []) ≡ first_walker l

-- parts side by side lead where each of them leads from where the one before it led
abbrev pub PartsLeadOneAfterTheOther : Type 0
PartsLeadOneAfterTheOther =
    (l : Lattice) (parts : List (List (S.Symbol ℤ))) → AreAllBalanced parts
    → effect l (strung parts) ≡ led_through l (first_walker l).here parts

-- inside a part the turtle goes the way of that from where
-- those before it led, whatever stands after it
abbrev pub PartsAreGoneFromWhereOthersLed : Type 0
PartsAreGoneFromWhereOthersLed =
    (l : Lattice) (n : ℕ) (before : List (List (S.Symbol ℤ))) (part after : List (S.Symbol ℤ))
    → AreAllBalanced before → balanced 0 part ≡ true → n ≤ length part
    → course l (length (strung before) + n) (strung before ++ (part ++ after))
    ≡ walker_from l (led_through l (first_walker l).here before) [] (course l n part)

-- a string of balanced runs is balanced
abbrev pub StringsOfBalancedRunsAreBalanced : Type 0
StringsOfBalancedRunsAreBalanced =
    (parts : Grouping) → HasBalancedRuns parts
    → balanced 0 (nested_string parts) ≡ true

-- going down to the run in which some symbols end finds the way over them
abbrev pub DescentsFindTheCourse : Type 0
DescentsFindTheCourse =
    (l : Lattice) (n : ℕ) (parts : Grouping) → HasBalancedRuns parts
    → n ≤ length (nested_string parts)
    → descent l n parts ≡ course l n (nested_string parts)

-- and so the turtle of a picture after them
abbrev pub DescentsFindTheTurtle : Type 0
DescentsFindTheTurtle =
    (l : Lattice) (n : ℕ) (parts : Grouping) (gs : List Segment)
    → HasBalancedRuns parts → segments_of l (nested_string parts) ≡ Ok gs
    → n ≤ length (nested_string parts)
    → turtle_at l n (nested_string parts) ≡ Some (turtle_of (descent l n parts))
