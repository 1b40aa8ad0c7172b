-- What holds of each level of a system.
use Rattle.std.specs.Prelude.{◌≡◌, ◌+◌, ℕ, Some, length, slice_get, List}
use Rattle.lsys_syntax.specs.Commands.{by_place}
use Rattle.lsys_syntax.specs.Strings.{IsModuleName}
use Rattle.lsys_spec.specs.Systems.{System, WellSpelled}
use Rattle.lsys_spec.specs.Cuts.{Rising}
use Rattle.lsys_spec.specs.LevelLaws.{HasBalance, AtEachLevel}
use Rattle.lsys_spec.specs.Levels.{LevelSymbol, lineage, ModuleValue, Module}

-- where symbols are numbered by places the lineages of each level rise
abbrev pub LineagesRiseByPlaces : Type 0
LineagesRiseByPlaces =
    (s : System) → HasBalance s → s.numbering ≡ by_place → AtEachLevel s (λ t x. Rising x)

-- each lineage of level t has t + 1 numbers
abbrev pub LineagesAreAsLongAsTheirLevelIsDeep : Type 0
LineagesAreAsLongAsTheirLevelIsDeep =
    (s : System) → HasBalance s
    → AtEachLevel s (λ t x. (p : ℕ) (a : LevelSymbol) → slice_get x p ≡ Some a
    → length (lineage a) ≡ t + 1)

-- in a well-spelled system each module has a name of the language
abbrev pub ModulesHaveNamesOfTheLanguage : Type 0
ModulesHaveNamesOfTheLanguage =
    (s : System) → WellSpelled s
    → AtEachLevel s (λ t x. (p : ℕ) (l : List ℕ) (m : ModuleValue)
    → slice_get x p ≡ Some (Module l m) → IsModuleName m.name)
