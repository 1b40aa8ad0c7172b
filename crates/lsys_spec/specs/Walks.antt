-- What a rule's contexts read, and what they find (ABOP 1.8 and 1.10.2).
use Rattle.std.specs.Prelude.{ℕ, Bool, true, false, Option, Some, None, List, [], ◌∷◌, ◌++◌, ◌+◌, ◌==◌, ◌&&◌, length, option_map, if◌then◌else◌}
use Rattle.lsys_syntax.specs.Strings.{ModuleName}
use Rattle.lsys_spec.specs.Systems.{same_name}
use Rattle.lsys_spec.specs.Bodies.{Pattern, Patterns, Done, OneOf, BranchOf}
use Rattle.lsys_spec.specs.Levels.{ModuleValue, LevelSymbol, Push, Pop, Module, lineage, Step, Passed, Around, OutOf, Items, Nothing, One, Branch}

-- the place in the group of the rule for which an entry was read, and its depth: the number of branches that the right walk has entered and not left
pub record Mark : Type 0 where
  pub rule : ℕ
  pub depth : ℕ

abbrev pub deeper : Mark → Mark
deeper d = record d { depth = d.depth + 1 }

pub data Entry : Type 0 where
  Compared : Mark → LevelSymbol → Entry  -- a module that isn't ignored was met
  Ignored : Mark → LevelSymbol → Entry  -- an ignored module was passed
  Out : Mark → List ℕ → Entry  -- the left walk left a branch, by its `[`
  Branched : Mark → List ℕ → List ℕ → Entry  -- a branch was passed or entered, by its two brackets

-- the lineages that an entry names
abbrev pub lineages_named : Entry → List (List ℕ)
lineages_named (Compared d s) = lineage s ∷ []
lineages_named (Ignored d s) = lineage s ∷ []
lineages_named (Out d l) = l ∷ []
lineages_named (Branched d o c) = o ∷ c ∷ []

-- what was read, and what was answered
pub record Told (A : Type 0) : Type 0 where
  pub entries : List Entry
  pub answer : A

abbrev pub says : {A : Type 0} → A → Told A
says a = record { entries = []; answer = a }

abbrev pub before : {A : Type 0} → Entry → Told A → Told A
before e t = record { entries = e ∷ t.entries; answer = t.answer }

-- what t read, and then what follows
abbrev pub followed : {A B : Type 0} → Told A → Told B → Told B
followed t next = record { entries = t.entries ++ next.entries; answer = next.answer }

-- the module of a symbol (A walk meets modules alone, so what is said of a bracket here and below doesn't come.)
abbrev pub modules : LevelSymbol → List ModuleValue
modules (Push l) = []
modules (Pop l) = []
modules (Module l m) = m ∷ []

abbrev pub any_holds : {A : Type 0} → (A → Bool) → List A → Bool
any_holds p [] = false
any_holds p (x ∷ xs) = elim (p x) [ true ↦ true | false ↦ any_holds p xs ]

abbrev pub is_ignored : (ModuleName → Bool) → LevelSymbol → Bool
is_ignored ignored (Module l m) = ignored m.name
is_ignored ignored s = false

-- the letter and the number of parameters are the pattern's
abbrev pub fits : Pattern → LevelSymbol → Bool
fits q (Module l m) = same_name q.name m.name && (q.arity == length m.params)
fits q s = false

-- what a walk finds: the modules that match, or none where the context doesn't
abbrev pub Found : Type 0
Found = Option (List ModuleValue)

-- the modules that were found, and after them this one
abbrev pub followed_by : LevelSymbol → Told Found → Told Found
followed_by s t = record t { answer = option_map (λ ms. ms ++ modules s) t.answer }

-- Patterns, the nearest first: the modules that match, the nearest last. An ignored module is passed; any other is compared.
abbrev pub left_walk : (ModuleName → Bool) → Mark → List Pattern → List Step → Told Found
left_walk ignored d [] w = says (Some [])
left_walk ignored d (q ∷ qs) [] = says None
left_walk ignored d (q ∷ qs) (Around o c ∷ w) = before (Branched d (lineage o) (lineage c)) (left_walk ignored d (q ∷ qs) w)
left_walk ignored d (q ∷ qs) (OutOf o ∷ w) = before (Out d (lineage o)) (left_walk ignored d (q ∷ qs) w)
left_walk ignored d (q ∷ qs) (Passed s ∷ w) =
    if is_ignored ignored s then before (Ignored d s) (left_walk ignored d (q ∷ qs) w)
    else before (Compared d s) (if fits q s then followed_by s (left_walk ignored d qs w) else says None)

-- this module, and then those that were found
abbrev pub ahead : LevelSymbol → Told Found → Told Found
ahead s t = record t { answer = option_map (λ ms. modules s ++ ms) t.answer }

-- these modules, and then those that were found
abbrev pub joined : List ModuleValue → Told Found → Told Found
joined ms t = record t { answer = option_map (λ more. ms ++ more) t.answer }

-- where the inner patterns matched, their modules and then both remainders; else the branch is passed over
abbrev pub or_passed : Found → Told Found → Told Found → Told Found
or_passed (Some ms) both passed = joined ms both
or_passed None both passed = passed

abbrev pub right_walk : (ModuleName → Bool) → Mark → Patterns → Items → Told Found
right_walk ignored d Done r = says (Some [])
right_walk ignored d (OneOf q p) Nothing = says None
right_walk ignored d (OneOf q p) (Branch o c inner r) = before (Branched d (lineage o) (lineage c)) (right_walk ignored d (OneOf q p) r)
right_walk ignored d (OneOf q p) (One s r) =
    if is_ignored ignored s then before (Ignored d s) (right_walk ignored d (OneOf q p) r)
    else before (Compared d s) (if fits q s then ahead s (right_walk ignored d p r) else says None)
right_walk ignored d (BranchOf qs p) Nothing = says None
right_walk ignored d (BranchOf qs p) (One s r) =
    if is_ignored ignored s then before (Ignored d s) (right_walk ignored d (BranchOf qs p) r) else before (Compared d s) (says None)
right_walk ignored d (BranchOf qs p) (Branch o c inner r) =
    let inside = right_walk ignored (deeper d) qs inner in
    before (Branched d (lineage o) (lineage c))
    (followed inside (or_passed inside.answer (right_walk ignored d p r) (right_walk ignored d (BranchOf qs p) r)))
