-- A derivation step, symbol by symbol, and a derivation, level by level.
use Rattle.std.specs.Prelude.{◌≡◌, ◌+◌, ◌++◌, ℕ, Ok, List, [], drop}
use Rattle.lsys_syntax.specs.Strings as S
use Rattle.lsys_spec.specs.Systems.{System}
use Rattle.lsys_spec.specs.Values.{◌and_then◌}
use Rattle.lsys_spec.specs.Levels.{LevelSymbol, Push, Pop, Module}
use Rattle.lsys_spec.specs.Cuts.{Raw}
use Rattle.lsys_spec.specs.Meaning.{children_from}

-- so many modules up to the symbol, of which n stand before it
abbrev pub modules_up_to : LevelSymbol → ℕ → ℕ
modules_up_to (Push l) n = n
modules_up_to (Pop l) n = n
modules_up_to (Module l m) n = n + 1

-- The first p symbols of level t, of which n are modules, were replaced without a fault, and have these children.
pub record ReplacedTo (s : System) (t : ℕ) (x : List LevelSymbol) (p n : ℕ) (raw : List Raw) : Type 0 where
  pub told : (children_from s t x p n (drop p x) and_then λ more. Ok (raw ++ more)) ≡ children_from s t x 0 0 x
