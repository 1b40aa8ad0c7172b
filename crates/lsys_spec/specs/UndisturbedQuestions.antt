-- Where questions stay the same, and with them the choices.
use Rattle.std.specs.Prelude.{◌≡◌, ℕ, Some, List, slice_get, ◌↔◌, false, Ok, ◌||◌, true, length}
use Rattle.lsys_spec.specs.Levels.{LevelSymbol, lineage, IsLevel, ModuleValue, Module}
use Rattle.lsys_spec.specs.Standings.{Settled, is_disturbed, free, same_filter}
use Rattle.lsys_spec.specs.Systems.{System, WellSpelled}
use Rattle.lsys_spec.specs.Meaning.{meaning, key_for, asked, successor}
use Rattle.lsys_spec.specs.Bodies.{Body, filter, group}
use Rattle.lsys_spec.specs.Questions.{question}
use Rattle.lsys_spec.specs.LevelLaws.{NoneDisturbed}

-- a symbol that isn't disturbed stands in the new level
abbrev pub SettledSymbolsStandInTheNewLevel : Type 0
SettledSymbolsStandInTheNewLevel =
    (x y : List LevelSymbol) (p : ℕ) (a : LevelSymbol)
    → IsLevel x → slice_get x p ≡ Some a → Settled x y (lineage a)
    → (q : ℕ) × (slice_get y q ≡ Some a)

-- in the levels of well-spelled systems, what isn't disturbed is settled, and nothing else
abbrev pub UndisturbedIsSettled : Type 0
UndisturbedIsSettled =
    (old new : System) (limit limit' : ℕ) (xs ys : List (List LevelSymbol))
    → WellSpelled old → WellSpelled new → meaning old limit ≡ Ok xs → meaning new limit' ≡ Ok ys
    → (t : ℕ) (x y : List LevelSymbol) → slice_get xs t ≡ Some x → slice_get ys t ≡ Some y
    → (l : List ℕ) → (is_disturbed x y l ≡ false) ↔ Settled x y l

-- where a module, what was read for it, its group and its key stay, and what is ignored does or
-- nothing is read, its question is the same
abbrev pub UndisturbedQuestionsStay : Type 0
UndisturbedQuestionsStay =
    (old new : System) (t : ℕ) (bs : List Body) (x y : List LevelSymbol) (p q : ℕ) (l : List ℕ)
    (m : ModuleValue)
    → IsLevel x → IsLevel y
    → slice_get x p ≡ Some (Module l m) → slice_get y q ≡ Some (Module l m) → Settled x y l
    → key_for new l bs ≡ key_for old l bs
    → free bs || same_filter (filter old t) (filter new t) ≡ true
    → NoneDisturbed x y (question old t bs x p l m).trace
    → question new t bs y q l m ≡ question old t bs x p l m

-- and so is its choice
abbrev pub UndisturbedChoicesStay : Type 0
UndisturbedChoicesStay =
    (old new : System) (t : ℕ) (bs : List Body) (x y : List LevelSymbol) (p q : ℕ) (l : List ℕ)
    (m : ModuleValue)
    → IsLevel x → IsLevel y
    → slice_get x p ≡ Some (Module l m) → slice_get y q ≡ Some (Module l m) → Settled x y l
    → key_for new l bs ≡ key_for old l bs
    → free bs || same_filter (filter old t) (filter new t) ≡ true
    → NoneDisturbed x y (question old t bs x p l m).trace
    → (asked new t bs y q l m).answer ≡ (asked old t bs x p l m).answer

-- two questions that are the same have the same choice
abbrev pub SameQuestionsHaveTheSameChoice : Type 0
SameQuestionsHaveTheSameChoice =
    (old new : System) (t t' : ℕ) (bs bs' : List Body) (x y : List LevelSymbol) (p q : ℕ)
    (l l' : List ℕ) (m m' : ModuleValue)
    → question old t bs x p l m ≡ question new t' bs' y q l' m'
    → (asked old t bs x p l m).answer ≡ (asked new t' bs' y q l' m').answer

-- and the same successor
abbrev pub SameQuestionsHaveTheSameSuccessor : Type 0
SameQuestionsHaveTheSameSuccessor =
    (old new : System) (t t' : ℕ) (x y : List LevelSymbol) (p q : ℕ) (l l' : List ℕ) (m m' : ModuleValue)
    → question old t (group old t m.name (length m.params)) x p l m
    ≡ question new t' (group new t' m'.name (length m'.params)) y q l' m'
    → successor old t x p l m ≡ successor new t' y q l' m'
