-- Rewriting without contexts (ABOP 1.2): letter by letter. And which ignored names are alike for a level.
use Rattle.std.specs.Prelude.{◌≡◌, ℕ, ℤ, Bool, true, false, Result, Ok, Err, List, [], ◌∷◌, ◌++◌, map}
use Rattle.lsys_syntax.specs.Strings.{ModuleName}
use Rattle.lsys_syntax.specs.Strings as S
use Rattle.lsys_spec.specs.Systems.{System, Each, same_name}
use Rattle.lsys_spec.specs.Values.{◌and_then◌}
use Rattle.lsys_spec.specs.Bodies.{group}
use Rattle.lsys_spec.specs.Levels.{ModuleValue, LevelSymbol, Push, Pop, Module, plain}
use Rattle.lsys_spec.specs.Walks.{any_holds}
use Rattle.lsys_spec.specs.Choice.{Fault}
use Rattle.lsys_spec.specs.Cuts.{Raw, Plain, Cut}
use Rattle.lsys_spec.specs.Meaning.{LevelRefusal, OverLimit, FaultAt, any_weight, successor}
use Rattle.lsys_spec.specs.Standings.{free}

-- in the table of level t no rule has a context
abbrev pub IsContextFree : System → ℕ → Type 0
IsContextFree s t = (n : ModuleName) (arity : ℕ) → free (group s t n arity) ≡ true

-- in the table of level t no rule has a weight
abbrev pub IsUnweighted : System → ℕ → Type 0
IsUnweighted s t = (n : ModuleName) (arity : ℕ) → any_weight (group s t n arity) ≡ false

-- the successor of a module that stands alone in its level
abbrev pub given_alone : System → ℕ → ModuleValue → Result (List (S.Symbol ℤ)) Fault
given_alone s t m = successor s t (Module [] m ∷ []) 0 [] m

-- each module's string in its place, or the first fault; brackets and cuts stay
abbrev pub rewritten : (ModuleValue → Result (List (S.Symbol ℤ)) Fault) → List (S.Symbol ℤ) → Result (List (S.Symbol ℤ)) Fault
rewritten h [] = Ok []
rewritten h (S.Module n ps ∷ xs) = h (record { name = n; params = ps }) and_then λ ys. rewritten h xs and_then λ more. Ok (ys ++ more)
rewritten h (S.Push ∷ xs) = rewritten h xs and_then λ more. Ok (S.Push ∷ more)
rewritten h (S.Pop ∷ xs) = rewritten h xs and_then λ more. Ok (S.Pop ∷ more)
rewritten h (S.Cut ∷ xs) = rewritten h xs and_then λ more. Ok (S.Cut ∷ more)

-- without its lineage
abbrev pub raw_plain : Raw → S.Symbol ℤ
raw_plain (Plain s) = plain s
raw_plain (Cut l) = S.Cut

-- children without their lineages, or a fault without its place
abbrev pub AreMade : Result (List Raw) LevelRefusal → Result (List (S.Symbol ℤ)) Fault → Type 0
AreMade (Ok raw) (Ok ys) = map raw_plain raw ≡ ys
AreMade (Ok raw) (Err k) = ⊥
AreMade (Err (FaultAt k t n)) (Ok ys) = ⊥
AreMade (Err (FaultAt k t n)) (Err j) = k ≡ j
AreMade (Err (OverLimit t)) r = ⊥

-- of a level's modules the same ones are ignored
abbrev pub IsAlike : (ModuleName → Bool) → (ModuleName → Bool) → LevelSymbol → Type 0
IsAlike f g (Module l m) = f m.name ≡ g m.name
IsAlike f g (Push l) = Unit {0}
IsAlike f g (Pop l) = Unit {0}

abbrev pub AreAlike : (ModuleName → Bool) → (ModuleName → Bool) → List LevelSymbol → Type 0
AreAlike f g x = Each (IsAlike f g) x

-- the system with other ignored names
abbrev pub ignoring : List ModuleName → System → System
ignoring names s = record s { ignored = names }

abbrev pub is_named : ModuleName → LevelSymbol → Bool
is_named n (Module l m) = same_name n m.name
is_named n (Push l) = false
is_named n (Pop l) = false

-- a module of the level has this name
abbrev pub occurs : ModuleName → List LevelSymbol → Bool
occurs n x = any_holds (is_named n) x
