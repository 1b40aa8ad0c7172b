-- Levels, what is read in them, cuts and standings: examples that the checker computes.
use Rattle.std.specs.Prelude.{◌≡◌, ℕ, true, false, Some, None, Ok, Err, List, [], ◌∷◌, map, codes, refl}
use Rattle.lsys_syntax.specs.Tokens.{short}
use Rattle.lsys_syntax.specs.Strings.{named, plus}
use Rattle.lsys_spec.specs.Systems.{System}
use Rattle.lsys_spec.specs.Values.{DivideByZero, Overflow}
use Rattle.lsys_spec.specs.Bodies.{table_at}
use Rattle.lsys_spec.specs.Levels.{LevelSymbol, Push, Pop, Module, lineage, close_of, level_balanced, Passed, Around, OutOf, way, Nothing, One, Branch, items_from}
use Rattle.lsys_spec.specs.Walks.{Mark, Compared, Ignored, Out, Branched}
use Rattle.lsys_spec.specs.Cuts.{Plain, Cut, cut}
use Rattle.lsys_spec.specs.Choice.{Arithmetic}
use Rattle.lsys_spec.specs.Meaning.{FaultAt, first_level, last_level, meaning_to, meaning}
use Rattle.lsys_spec.specs.Questions.{Question, questions, least_visits}
use Rattle.lsys_spec.specs.Standings.{is_disturbed, is_candidate, same_ignored}
use Rattle.lsys_spec.specs.Morphisms.{occurs}
use Rattle.lsys_spec.specs.Replies.{reply}
use Rattle.lsys_spec.specs.Output.{out, none, last_system}

-- the system after a script, and its levels
abbrev after : List ℕ → System
after script = last_system (out (reply 100000) script none)

abbrev levels_after : List ℕ → List (List LevelSymbol)
levels_after script = elim (meaning (after script) 100000) [ Ok levels ↦ levels | Err r ↦ [] ]

abbrev first_after : List ℕ → List LevelSymbol
first_after script = first_level (after script)

abbrev questions_after : List ℕ → List Question
questions_after script = questions (after script) (levels_after script)

abbrev module_at : List ℕ → ℕ → LevelSymbol
module_at l letter = Module l (record { name = named (short letter); params = [] })

abbrev in_rule : ℕ → ℕ → Mark
in_rule rule depth = record { rule = rule; depth = depth }

-- A[B]C: a lineage is a place in the axiom, brackets counted
abbrev branched : List LevelSymbol
branched = first_after (codes "axiom A[B]C")

pub axiom_lineages : map lineage branched ≡ (0 ∷ []) ∷ (1 ∷ []) ∷ (2 ∷ []) ∷ (3 ∷ []) ∷ (4 ∷ []) ∷ []
axiom_lineages = refl

pub branch_ends : close_of 0 (module_at (2 ∷ []) 66 ∷ Pop (3 ∷ []) ∷ []) ≡ Some 1
branch_ends = refl

pub branch_is_balanced : level_balanced 0 branched ≡ true
branch_is_balanced = refl

-- the way from C goes round the branch, and the way from B out of it
pub way_round : way branched 4 ≡ Around (Push (1 ∷ [])) (Pop (3 ∷ [])) ∷ Passed (module_at (0 ∷ []) 65) ∷ []
way_round = refl

pub way_out : way branched 2 ≡ OutOf (Push (1 ∷ [])) ∷ Passed (module_at (0 ∷ []) 65) ∷ []
way_out = refl

-- the rest of A is a branch and C, and the rest of B is nothing
pub rest_of_first : items_from branched 1 ≡ Branch (Push (1 ∷ [])) (Pop (3 ∷ [])) (One (module_at (2 ∷ []) 66) Nothing) (One (module_at (4 ∷ []) 67) Nothing)
rest_of_first = refl

pub rest_in_branch : items_from branched 3 ≡ Nothing
rest_in_branch = refl

-- children are numbered before the cut, which acts on the whole level
pub child_lineages :
    map lineage (last_level (levels_after (codes "axiom A[BC]\nproduction b: B => D%\nproduction a: A => %EB[]\nproduction c: C => C\ndepth 1")))
    ≡ []
child_lineages = refl

pub lineages_after_cut :
    map lineage (last_level (levels_after (codes "axiom A[BC]\nproduction b: B => D%E\nproduction a: A => AA\ndepth 1")))
    ≡ (0 ∷ 0 ∷ []) ∷ (0 ∷ 1 ∷ []) ∷ (1 ∷ 0 ∷ []) ∷ (2 ∷ 0 ∷ []) ∷ (4 ∷ 0 ∷ []) ∷ []
lineages_after_cut = refl

-- what follows a cut goes, with the branches in it; the bracket that ends its branch stays
pub cut_in_branch :
    cut
    (Plain (Push (0 ∷ [])) ∷ Cut (1 ∷ []) ∷ Plain (Push (2 ∷ [])) ∷ Plain (Pop (3 ∷ [])) ∷ Cut (4 ∷ []) ∷ Plain (Pop (5 ∷ []))
    ∷ Plain (Push (6 ∷ [])) ∷ Plain (Pop (7 ∷ [])) ∷ [])
    ≡ Push (0 ∷ []) ∷ Pop (5 ∷ []) ∷ Push (6 ∷ []) ∷ Pop (7 ∷ []) ∷ []
cut_in_branch = refl

-- a right walk enters a branch for a branch pattern, and what it reads there is deeper
pub right_trace :
    map (λ q. q.trace) (questions_after (codes "axiom AB[C]D\nignore B\nproduction p: A > [C]D => X\ndepth 1"))
    ≡ (Ignored (in_rule 0 0) (module_at (1 ∷ []) 66) ∷ Branched (in_rule 0 0) (2 ∷ []) (4 ∷ []) ∷ Compared (in_rule 0 1) (module_at (3 ∷ []) 67)
    ∷ Compared (in_rule 0 0) (module_at (5 ∷ []) 68) ∷ []) ∷ []
right_trace = refl

-- a module pattern passes ignored modules and branches, and the first module that isn't ignored decides; so for a branch pattern
pub passed_trace :
    map (λ q. q.trace) (questions_after (codes "axiom AB[C]D\nignore B\nproduction p: A > D => X\nproduction q: D => D\ndepth 1"))
    ≡ (Ignored (in_rule 0 0) (module_at (1 ∷ []) 66) ∷ Branched (in_rule 0 0) (2 ∷ []) (4 ∷ []) ∷ Compared (in_rule 0 0) (module_at (5 ∷ []) 68) ∷ [])
    ∷ [] ∷ []
passed_trace = refl

pub deciding_trace :
    map (λ q. q.trace) (questions_after (codes "axiom AD[C]\nproduction p: A > [C] => X\nproduction q: A > C => Y\ndepth 1"))
    ≡ (Compared (in_rule 0 0) (module_at (1 ∷ []) 68) ∷ Compared (in_rule 1 0) (module_at (1 ∷ []) 68) ∷ []) ∷ []
deciding_trace = refl

-- a branch that doesn't fit is passed over for the next one
pub second_branch_trace :
    map (λ q. q.trace) (questions_after (codes "axiom A[B][C]\nproduction p: A > [C] => X\ndepth 1"))
    ≡ (Branched (in_rule 0 0) (1 ∷ []) (3 ∷ []) ∷ Compared (in_rule 0 1) (module_at (2 ∷ []) 66) ∷ Branched (in_rule 0 0) (4 ∷ []) (6 ∷ [])
    ∷ Compared (in_rule 0 1) (module_at (5 ∷ []) 67) ∷ []) ∷ []
second_branch_trace = refl

-- a left walk goes round branches and out of them, and ends with the module that decides; then the next rule is tried
pub left_trace :
    map (λ q. q.trace) (questions_after (codes "axiom AB[[D]E]\nignore B\nproduction p: C < E => X\nproduction q: A < E => Y\ndepth 1"))
    ≡ (Branched (in_rule 0 0) (3 ∷ []) (5 ∷ []) ∷ Out (in_rule 0 0) (2 ∷ []) ∷ Ignored (in_rule 0 0) (module_at (1 ∷ []) 66)
    ∷ Compared (in_rule 0 0) (module_at (0 ∷ []) 65) ∷ Branched (in_rule 1 0) (3 ∷ []) (5 ∷ []) ∷ Out (in_rule 1 0) (2 ∷ [])
    ∷ Ignored (in_rule 1 0) (module_at (1 ∷ []) 66) ∷ Compared (in_rule 1 0) (module_at (0 ∷ []) 65) ∷ []) ∷ []
left_trace = refl

-- only a group with weights has a key
pub keys_of_groups : map (λ q. q.key) (questions_after (codes "axiom AB\nproduction a: A => A\nproduction b: B @ 1 => B\nseed 6\ndepth 1"))
    ≡ None ∷ Some 11409396526365357622 ∷ []
keys_of_groups = refl

-- with weights the first fault goes before a rule that applies, earlier or later
pub faults_among_weighted :
    map (λ script. meaning_to (after script) 100000 1)
    (codes "axiom A\nproduction p: A @ 1 => B\nproduction q: A : 1/0 @ 1 => C\nproduction r: A : 2^64 @ 1 => C"
    ∷ codes "axiom A\nproduction p: A : 2^64 @ 1 => B\nproduction q: A @ 1/0 => C" ∷ [])
    ≡ Err (FaultAt (Arithmetic DivideByZero) 0 1) ∷ Err (FaultAt (Arithmetic Overflow) 0 1) ∷ []
faults_among_weighted = refl

-- three tables in turn
pub schedule_turns :
    map (table_at (codes "main" ∷ codes "dry" ∷ codes "wet" ∷ [])) (0 ∷ 2 ∷ 3 ∷ 64 ∷ [])
    ≡ codes "main" ∷ codes "wet" ∷ codes "main" ∷ codes "dry" ∷ []
schedule_turns = refl

-- the entries of the questions that changed: the last C reads B, which wasn't there
pub visits_of_insertion :
    least_visits (questions_after (codes "axiom ABC\nproduction c: A < C => X\nproduction e: B =>\ndepth 2"))
    (questions_after (codes "axiom ABC\nproduction c: A < C => X\nproduction e: B => B\ndepth 2"))
    ≡ 1
visits_of_insertion = refl

-- without B its neighbours stand otherwise, but D stands as before
abbrev four : List LevelSymbol
four = first_after (codes "axiom [ABC]D")

abbrev three : List LevelSymbol
three = Push (0 ∷ []) ∷ module_at (1 ∷ []) 65 ∷ module_at (3 ∷ []) 67 ∷ Pop (4 ∷ []) ∷ module_at (5 ∷ []) 68 ∷ []

pub disturbed_neighbours :
    map (λ p. is_disturbed four three (p ∷ [])) (0 ∷ 1 ∷ 2 ∷ 3 ∷ 4 ∷ 5 ∷ []) ≡ false ∷ true ∷ true ∷ true ∷ false ∷ false ∷ []
disturbed_neighbours = refl

-- with another closing bracket the opening one has another mate
pub disturbed_mate :
    map (λ p. is_disturbed (Push (0 ∷ []) ∷ Push (1 ∷ []) ∷ Pop (2 ∷ []) ∷ Pop (3 ∷ []) ∷ []) (Push (0 ∷ []) ∷ Push (1 ∷ []) ∷ Pop (2 ∷ []) ∷ Pop (4 ∷ []) ∷ []) (p ∷ []))
    (0 ∷ 1 ∷ 2 ∷ [])
    ≡ true ∷ false ∷ true ∷ []
disturbed_mate = refl

-- the ignored names changed: candidates are the questions whose groups have contexts
pub candidates_of_ignoring :
    map
    (is_candidate (after (codes "axiom ABC\nproduction a: A => A\nproduction c: B < C => C\ndepth 1"))
    (after (codes "axiom ABC\nproduction a: A => A\nproduction c: B < C => C\nignore X\ndepth 1"))
    (first_after (codes "axiom ABC"))
    (first_after (codes "axiom ABC"))
    (questions_after (codes "axiom ABC\nproduction a: A => A\nproduction c: B < C => C\ndepth 1")))
    (questions_after (codes "axiom ABC\nproduction a: A => A\nproduction c: B < C => C\nignore X\ndepth 1"))
    ≡ false ∷ true ∷ []
candidates_of_ignoring = refl

-- the same names in another order are the same
pub order_of_ignored : same_ignored (plus ∷ named (short 65) ∷ []) (named (short 65) ∷ plus ∷ []) ≡ true
order_of_ignored = refl

pub occurring : map (λ c. occurs (named (short c)) branched) (66 ∷ 68 ∷ []) ≡ true ∷ false ∷ []
occurring = refl
