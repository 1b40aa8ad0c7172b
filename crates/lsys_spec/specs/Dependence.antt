-- What a level depends on, and what it doesn't.
use Rattle.std.specs.Prelude.{◌≡◌, ℕ, List, map, ℤ, Result, Ok, ◌++◌, false, ◌∷◌}
use Rattle.lsys_syntax.specs.Strings as S
use Rattle.lsys_syntax.specs.Strings.{ModuleName}
use Rattle.lsys_spec.specs.Systems.{System, Each}
use Rattle.lsys_spec.specs.Levels.{ModuleValue, LevelSymbol, plain}
use Rattle.lsys_spec.specs.Meaning.{successor, children_from, meaning, ignores, next_level}
use Rattle.lsys_spec.specs.Morphisms.{IsContextFree, IsUnweighted, given_alone, rewritten, AreMade, AreAlike, ignoring, occurs}
use Rattle.lsys_spec.specs.Values.{◌and_then◌}
use Rattle.lsys_spec.specs.Choice.{Fault}
use Rattle.lsys_spec.specs.Questions.{questions, questions_at}

-- without contexts a module's successor doesn't depend on where it stands
abbrev pub SuccessorsAreTheSameAnywhere : Type 0
SuccessorsAreTheSameAnywhere =
    (s : System) (t : ℕ) → IsContextFree s t
    → (x y : List LevelSymbol) (p q : ℕ) (l : List ℕ) (m : ModuleValue)
    → successor s t x p l m ≡ successor s t y q l m

-- without contexts and weights the children of a level are its
-- letters, each replaced as it would be alone
abbrev pub LevelsAreMadeByAMorphism : Type 0
LevelsAreMadeByAMorphism =
    (s : System) (t : ℕ) → IsContextFree s t → IsUnweighted s t
    → (x : List LevelSymbol)
    → AreMade (children_from s t x 0 0 x) (rewritten (given_alone s t) (map plain x))

-- strings one after the other are rewritten each by itself, and the first fault is the whole's
abbrev pub StringsAreRewrittenLetterByLetter : Type 0
StringsAreRewrittenLetterByLetter =
    (h : ModuleValue → Result (List (S.Symbol ℤ)) Fault) (xs ys : List (S.Symbol ℤ))
    → rewritten h (xs ++ ys)
    ≡ (rewritten h xs and_then λ u. rewritten h ys and_then λ v. Ok (u ++ v))

-- where other names ignore the same modules of its levels,
-- a system means the same and asks the same
abbrev pub MeaningDependsOnWhatLevelsIgnore : Type 0
MeaningDependsOnWhatLevelsIgnore =
    (s : System) (names : List ModuleName) (limit : ℕ) (levels : List (List LevelSymbol))
    → meaning s limit ≡ Ok levels → Each (AreAlike (ignores names) (ignores s.ignored)) levels
    → (meaning (ignoring names s) limit ≡ Ok levels)
    × (questions (ignoring names s) levels ≡ questions s levels)

-- where other names ignore the same modules of a level, the next level is the same, or the refusal
abbrev pub NextLevelsDependOnWhatIsIgnored : Type 0
NextLevelsDependOnWhatIsIgnored =
    (s : System) (names : List ModuleName) (x : List LevelSymbol)
    → AreAlike (ignores names) (ignores s.ignored) x
    → (t : ℕ) → next_level (ignoring names s) t x ≡ next_level s t x

-- and so are the level's questions
abbrev pub LevelsAskByWhatIsIgnored : Type 0
LevelsAskByWhatIsIgnored =
    (s : System) (names : List ModuleName) (x : List LevelSymbol)
    → AreAlike (ignores names) (ignores s.ignored) x
    → (t : ℕ) → questions_at (ignoring names s) t x ≡ questions_at s t x

-- a letter that doesn't occur may be ignored or not
abbrev pub AbsentLettersMayBeIgnored : Type 0
AbsentLettersMayBeIgnored =
    (n : ModuleName) (names : List ModuleName) (x : List LevelSymbol)
    → occurs n x ≡ false → AreAlike (ignores (n ∷ names)) (ignores names) x
