-- Levels as they come from what is kept of the level above
-- them, and those of an unfinished derivation.
use Rattle.std.specs.Prelude.{◌≡◌, ℕ, ℤ, None, Ok, List, Bool, map, ◌+◌, ◌++◌, ◌∷◌, [], length, Some, slice_get, ◌↔◌, false}
use Rattle.lsys_syntax.specs.Strings as S
use Rattle.lsys_syntax.specs.Commands.{Numbering}
use Rattle.lsys_spec.specs.Systems.{System, WellSpelled}
use Rattle.lsys_spec.specs.Levels.{LevelSymbol}
use Rattle.lsys_spec.specs.Meaning.{next_level, children, meaning_to}
use Rattle.lsys_spec.specs.Cuts.{raw_lineage}
use Rattle.lsys_spec.specs.Numbers.{numbers}
use Rattle.lsys_spec.specs.Standings.{Settled, is_disturbed}
use Rattle.lsys_laws.specs.Children.{AreReplaced, row, NoneOpen, own_rows, HaveOwnChildren}
use Rattle.lsys_laws.specs.Kinds.{kind_of_symbol}
use Rattle.lsys_laws.specs.Mates.{below}
use Rattle.lsys_laws.specs.Passes.{IsGrownLevel, AreMeantTo}

-- what replaces the symbols of a level, kept symbol by symbol, gives the level below it
abbrev pub LevelsComeFromKeptSuccessors : Type 0
LevelsComeFromKeptSuccessors =
    (s : System) (t : ℕ) (x : List LevelSymbol) (zss : List (List (S.Symbol ℤ)))
    → WellSpelled s → AreReplaced s t x 0 x zss
    → next_level s t x ≡ Ok (row s.numbering None x zss)

-- where no cut reaches what stands after it, each symbol has its own children
abbrev pub WithoutOpenCutsEachHasItsOwn : Type 0
WithoutOpenCutsEachHasItsOwn =
    (g : Numbering) (x : List LevelSymbol) (zss : List (List (S.Symbol ℤ)))
    → NoneOpen zss → row g None x zss ≡ own_rows g x zss

-- nodes that keep their symbols' children are the level below
abbrev pub KeptNodesAreTheLevelBelow : Type 0
KeptNodesAreTheLevelBelow =
    (g : Numbering) (symbol : ℕ → LevelSymbol) (own : ℕ → List ℕ) (cuts : ℕ → Bool)
    (ps : List ℕ) (zss : List (List (S.Symbol ℤ)))
    → HaveOwnChildren g symbol own cuts ps zss
    → map symbol (below (λ p. kind_of_symbol (symbol p)) own cuts None ps)
    ≡ row g None (map symbol ps) zss

-- the children of a symbol have its lineage with their numbers
abbrev pub ChildrenAreNumberedBelowTheirParent : Type 0
ChildrenAreNumberedBelowTheirParent =
    (g : Numbering) (l : List ℕ) (zs : List (S.Symbol ℤ))
    → map raw_lineage (children g l zs) ≡ map (λ n. l ++ n ∷ []) (numbers g zs)

-- up to level t there are t + 1 levels
abbrev pub LevelsAreOneMoreThanTheirNumber : Type 0
LevelsAreOneMoreThanTheirNumber =
    (s : System) (limit t : ℕ) (xs : List (List LevelSymbol))
    → WellSpelled s → meaning_to s limit t ≡ Ok xs → length xs ≡ t + 1

-- each level that a well-spelled system means is balanced, with lineages that stand there once
abbrev pub MeantLevelsAreGrown : Type 0
MeantLevelsAreGrown =
    (s : System) (limit t : ℕ) (xs : List (List LevelSymbol))
    → WellSpelled s → meaning_to s limit t ≡ Ok xs
    → (u : ℕ) (x : List LevelSymbol) → slice_get xs u ≡ Some x → IsGrownLevel u x

-- between the old levels and the new ones so far, what isn't disturbed is settled, and nothing else
abbrev pub UndisturbedIsSettledUpToALevel : Type 0
UndisturbedIsSettledUpToALevel =
    (old new : System) (xs ys : List (List LevelSymbol)) (t : ℕ)
    → AreMeantTo old new xs ys t
    → (u : ℕ) (x y : List LevelSymbol) → slice_get xs u ≡ Some x → slice_get ys u ≡ Some y
    → (l : List ℕ) → (is_disturbed x y l ≡ false) ↔ Settled x y l

-- which levels a system has up to a level doesn't depend on the limit
abbrev pub LevelsAreTheSameUnderAnyLimit : Type 0
LevelsAreTheSameUnderAnyLimit =
    (s : System) (limit limit' t : ℕ) (xs ys : List (List LevelSymbol))
    → meaning_to s limit t ≡ Ok xs → meaning_to s limit' t ≡ Ok ys → xs ≡ ys
