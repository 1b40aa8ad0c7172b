-- What a sight tells, and what is copied from a level.
use Rattle.std.specs.Prelude.{◌≡◌, ℕ, ◌≤◌, List, length, map}
use Rattle.lsys_spec.specs.Levels.{plain}
use Rattle.lsys_module.specs.Views.{string_of, module_name}
use Rattle.lsys_module.specs.declared.symbol.Symbol.{Symbol}
use Rattle.lsys_level.specs.Spots as S
use Rattle.lsys_level.specs.Spots.{Seen, Spotted, level_by}
use Rattle.lsys_level.specs.declared.sight.Sight.{Sight}
use Rattle.lsys_level.specs.declared.sight.Sight.TheVariants.{Push, Pop, Module}

abbrev pub seen_of : Sight → Seen
seen_of Push = S.Push
seen_of Pop = S.Pop
seen_of (Module name params) = S.Module (record { name = module_name name; params = params.now })

-- a module has at most eight parameters
abbrev pub HasFewParams : Sight → Type 0
HasFewParams Push = Unit {0}
HasFewParams Pop = Unit {0}
HasFewParams (Module name params) = length params.now ≤ 8

-- the symbols are those of the level, whatever the lineages are
abbrev pub IsCopy : List Spotted → List Symbol → Type 0
IsCopy x symbols = (naming : ℕ → List ℕ) → string_of symbols ≡ map plain (level_by naming x)
