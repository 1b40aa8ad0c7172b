-- What calls one after another tell of an image.
use Rattle.std.specs.Prelude.{◌≡◌, ◌++◌, ◌∷◌, [], List, map, Result, Ok, Err, Option, Some, None}
use Rattle.lsys_spec.specs.Images as meaning
use Rattle.lsys_spec.specs.Images.{image}
use Rattle.lsys_spec.specs.Levels as levels
use Rattle.lsys_spec.specs.Systems.{Each, System}
use Rattle.lsys_module.specs.Views.{string_of}
use Rattle.lsys_module.specs.declared.symbol.Symbol.{Symbol}
use Rattle.lsys_hom.specs.Calls.{AreNext, IsEndOrRefusal}
use Rattle.lsys_hom.specs.Coming.{Coming, IsImageOfFront, coming, image_ended}
use Rattle.lsys_hom.specs.Refusals.{refusal_of}
use Rattle.lsys_hom.specs.declared.refusal.ImageRefusal.{ImageRefusal}

-- what comes is the image, or its refusal
abbrev pub ComesWhole : Type 0
ComesWhole =
    (s : System) (x : List levels.LevelSymbol)
    → image_ended (coming s x).symbols (coming s x).refusal ≡ image s x

-- before a refusal the image comes of the longest front of the level that isn't refused
abbrev pub ComesUpToRefusal : Type 0
ComesUpToRefusal =
    (s : System) (x : List levels.LevelSymbol) (r : meaning.ImageRefusal)
    → (coming s x).refusal ≡ Some r
    → IsImageOfFront s x (coming s x).symbols r

-- the symbols that calls answer until the first None are the image
abbrev pub TellsImage : Type 0
TellsImage =
    (s : System) (x : List levels.LevelSymbol) (symbols : List Symbol) (left : Coming)
    → AreNext (coming s x) (map (λ y. Ok (Some y)) symbols ++ Ok None ∷ []) left
    → image s x ≡ Ok (string_of symbols)

-- a refusal that they answer is the image's
abbrev pub TellsRefusal : Type 0
TellsRefusal =
    (s : System) (x : List levels.LevelSymbol) (symbols : List Symbol) (r : ImageRefusal)
    (left : Coming)
    → AreNext (coming s x) (map (λ y. Ok (Some y)) symbols ++ Err r ∷ []) left
    → image s x ≡ Err (refusal_of r)

-- after an end or a refusal every call answers it again
abbrev pub StaysAtEnd : Type 0
StaysAtEnd =
    (c left : Coming) (last : Result (Option Symbol) ImageRefusal)
    (later : List (Result (Option Symbol) ImageRefusal))
    → IsEndOrRefusal last
    → AreNext c (last ∷ later) left
    → Each (λ a. a ≡ last) later
