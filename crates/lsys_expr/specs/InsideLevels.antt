-- How the levels are kept.
use Rattle.std.specs.Prelude.{◌≡◌, ◌+◌, ◌≤◌, List, ◌∷◌, drop, length}
use Rattle.lsys_expr.specs.declared.levels.OpenLevel.{OpenLevel}
use Rattle.lsys_expr.specs.declared.levels.OpenLevels.TheInside.{Inside}
use Rattle.lsys_expr.specs.Levels.{outer_nesting}

-- the innermost, and the last ones of the array
abbrev pub inside_levels : Inside → List OpenLevel
inside_levels a = a.innermost ∷ drop a.first a.outer

-- the array has room for all that may be open, which is counted
pub record CountsOpen (a : Inside) : Type 0 where
  pub places : length a.outer ≡ 32
  pub within : a.first ≤ 32
  pub counted : a.open ≡ outer_nesting (drop a.first a.outer) + a.innermost.prefixes
  pub few : a.open ≤ 32
