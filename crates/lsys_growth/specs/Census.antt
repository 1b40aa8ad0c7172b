-- What is told by a row of counts.
use Rattle.std.specs.Prelude.{◌≡◌, ◌++◌, ℕ, Option, Some, None, Ok, Err, List, [], ◌∷◌, Vec, filter, map}
use Rattle.std.specs.declared.alloc.Global.{Global}
use Rattle.lsys_syntax.specs.Strings.{ModuleName}
use Rattle.lsys_growth.specs.Growth.{Census, census_within, over_numbers, stands}
use Rattle.lsys_growth.specs.Counts.{told_census}
use Rattle.lsys_growth.specs.declared.answer.Count.{Count}
use Rattle.lsys_growth.specs.Views.{count_of}

-- the census that the counts tell, or none where the length is too great
abbrev pub IsCensus : List ModuleName → (ℕ → ℕ) → Option Census → Type 0
IsCensus ns c (Some told) = census_within (told_census ns c) ≡ Ok told
IsCensus ns c None = census_within (told_census ns c) ≡ Err over_numbers

-- the letter stands after the others, if it stands in the level
abbrev pub AddsCount : ModuleName → ℕ → Vec Count Global → Vec Count Global → Type 0
AddsCount n times old new = map count_of new.items ≡ map count_of old.items ++ filter stands (record { letter = n; times = times } ∷ [])
