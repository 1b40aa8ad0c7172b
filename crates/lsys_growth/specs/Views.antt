-- The answers of the code as those of the definitions.
use Rattle.std.specs.Prelude.{◌≡◌, ℕ, Result, Ok, Err, List, map}
use Rattle.lsys_module.specs.Views.{module_name}
use Rattle.lsys_growth.specs.Growth.{LetterCount, Census, GrowthFault, outside_class, over_letters, over_numbers}
use Rattle.lsys_growth.specs.declared.answer.Count.{Count}
use Rattle.lsys_growth.specs.declared.refusal.GrowthRefusal.{GrowthRefusal}
use Rattle.lsys_growth.specs.declared.refusal.GrowthRefusal.TheVariants.{Class, Letters, Overflow, Memory}

abbrev pub count_of : Count → LetterCount
count_of c = record { letter = module_name c.name; times = c.count }

abbrev pub census_of : ℕ → List Count → Census
census_of n counts = record { symbols = n; counts = map count_of counts }

-- the answer is that of the definitions, or memory is out
abbrev pub IsGrowthAnswer : Result Census GrowthRefusal → Result Census GrowthFault → Type 0
IsGrowthAnswer (Ok c) r = r ≡ Ok c
IsGrowthAnswer (Err Class) r = r ≡ Err outside_class
IsGrowthAnswer (Err Letters) r = r ≡ Err over_letters
IsGrowthAnswer (Err Overflow) r = r ≡ Err over_numbers
IsGrowthAnswer (Err Memory) r = Unit {0}
