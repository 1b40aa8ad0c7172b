-- The counts of levels as rows of numbers, and the steps between levels as matrices.
use Rattle.std.specs.Prelude.{◌≡◌, ◌<◌, ℕ, zero, suc, ℤ, Bool, true, Result, Ok, Err, List, [], ◌∷◌, ◌++◌, ◌+◌, ◌&&◌, length, map, filter, if◌then◌else◌}
use Rattle.lsys_syntax.specs.Strings.{ModuleName}
use Rattle.lsys_syntax.specs.Strings as S
use Rattle.lsys_syntax.specs.Rules.{Production}
use Rattle.lsys_spec.specs.Systems.{System, same_name, Apart}
use Rattle.lsys_spec.specs.Bodies.{is_for, table_at}
use Rattle.lsys_spec.specs.Levels.{LevelSymbol, plain}
use Rattle.lsys_spec.specs.Meaning.{LevelRefusal}
use Rattle.lsys_growth.specs.Sums.{sum_to, row_after}
use Rattle.lsys_growth.specs.Growth.{letter_count, among, LetterCount, Census, stands}

-- 1. what is counted

-- how many branches begin in a string
abbrev pub branch_count : {P : Type 0} → List (S.Symbol P) → ℕ
branch_count [] = 0
branch_count (S.Module m ps ∷ xs) = branch_count xs
branch_count (S.Push ∷ xs) = branch_count xs + 1
branch_count (S.Pop ∷ xs) = branch_count xs
branch_count (S.Cut ∷ xs) = branch_count xs

-- the count at a place: of a letter of the list, and after the last one of `[`
abbrev pub count_at : {P : Type 0} → List ModuleName → ℕ → List (S.Symbol P) → ℕ
count_at [] j xs = branch_count xs
count_at (n ∷ ns) zero xs = letter_count n xs
count_at (n ∷ ns) (suc j) xs = count_at ns j xs

-- 2. one step

abbrev pub without_params : {P Q : Type 0} → List (S.Symbol P) → List (S.Symbol Q)
without_params [] = []
without_params (S.Module n ps ∷ xs) = S.Module n [] ∷ without_params xs
without_params (S.Push ∷ xs) = S.Push ∷ without_params xs
without_params (S.Pop ∷ xs) = S.Pop ∷ without_params xs
without_params (S.Cut ∷ xs) = S.Cut ∷ without_params xs

-- the successor of a letter: of the first rule of the table for it, or the letter itself
abbrev pub given_in : List ℕ → ModuleName → List Production → List (S.Symbol ℤ)
given_in table n [] = S.Module n [] ∷ []
given_in table n (p ∷ ps) = if is_for table n 0 p then without_params p.rule.successor else given_in table n ps

abbrev pub given : System → ℕ → ModuleName → List (S.Symbol ℤ)
given s t n = given_in (table_at s.schedule t) n s.rules

-- what stands at a place of the list, rewritten: a letter, or `[`
abbrev pub given_at : System → ℕ → List ModuleName → ℕ → List (S.Symbol ℤ)
given_at s t [] i = S.Push ∷ []
given_at s t (n ∷ ns) zero = given s t n
given_at s t (n ∷ ns) (suc i) = given_at s t ns i

-- the matrix of the step from level t: how often what is at place j stands in the successor of what is at place i
abbrev pub step_matrix : System → List ModuleName → ℕ → ℕ → ℕ → ℕ
step_matrix s ns t i j = count_at ns j (given_at s t ns i)

-- a string, each letter rewritten by what is given for it
abbrev pub replaced : System → ℕ → List (S.Symbol ℤ) → List (S.Symbol ℤ)
replaced s t [] = []
replaced s t (S.Module n ps ∷ xs) = given s t n ++ replaced s t xs
replaced s t (S.Push ∷ xs) = S.Push ∷ replaced s t xs
replaced s t (S.Pop ∷ xs) = S.Pop ∷ replaced s t xs
replaced s t (S.Cut ∷ xs) = S.Cut ∷ replaced s t xs

-- 3. letters

abbrev pub all_among : {P : Type 0} → List ModuleName → List (S.Symbol P) → Bool
all_among ns [] = true
all_among ns (S.Module n ps ∷ xs) = among ns n && all_among ns xs
all_among ns (S.Push ∷ xs) = all_among ns xs
all_among ns (S.Pop ∷ xs) = all_among ns xs
all_among ns (S.Cut ∷ xs) = all_among ns xs

abbrev pub all_successors_among : List ModuleName → List Production → Bool
all_successors_among ns [] = true
all_successors_among ns (p ∷ ps) = all_among ns p.rule.successor && all_successors_among ns ps

-- no letter twice, and every letter of the axiom and the successors
pub record AreLetters (s : System) (ns : List ModuleName) : Type 0 where
  pub apart : Apart same_name ns
  pub in_axiom : all_among ns s.axiom_string ≡ true
  pub in_successors : all_successors_among ns s.rules ≡ true

-- 4. counts of levels

-- the counts of the axiom, at the places of the letters and of `[`
abbrev pub first_counts : System → List ModuleName → ℕ → ℕ
first_counts s ns i = count_at ns i s.axiom_string

-- the counts of a level by the matrices of the steps before it
abbrev pub counts_after : System → List ModuleName → ℕ → ℕ → ℕ
counts_after s ns t j = row_after (suc (length ns)) (step_matrix s ns) 0 t (first_counts s ns) j

-- the level is there, and these are its counts
abbrev pub HasCounts : Result (List LevelSymbol) LevelRefusal → List ModuleName → (ℕ → ℕ) → Type 0
HasCounts (Ok x) ns c = (j : ℕ) → j < suc (length ns) → count_at ns j (map plain x) ≡ c j
HasCounts (Err r) ns c = ⊥

-- 5. what counts tell

abbrev pub letters_total : {P : Type 0} → List ModuleName → List (S.Symbol P) → ℕ
letters_total ns xs = sum_to (length ns) (λ i. count_at ns i xs)

-- the length: each letter once, and each branch's two brackets
abbrev pub told_length : ℕ → (ℕ → ℕ) → ℕ
told_length k c = sum_to k c + (c k + c k)

abbrev pub paired : List ModuleName → (ℕ → ℕ) → List LetterCount
paired [] c = []
paired (n ∷ ns) c = record { letter = n; times = c 0 } ∷ paired ns (λ i. c (suc i))

abbrev pub told_census : List ModuleName → (ℕ → ℕ) → Census
told_census ns c = record { symbols = told_length (length ns) c; counts = filter stands (paired ns c) }
