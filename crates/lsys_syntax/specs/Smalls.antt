-- The limits that no rule passes.
use Rattle.std.specs.Prelude.{◌≤◌, List, [], ◌∷◌, length}
use Rattle.lsys_syntax.specs.Limits.{most_params, most_left, most_right, most_successor_symbols}
use Rattle.lsys_syntax.specs.Strings.{Symbol, Module}
use Rattle.lsys_syntax.specs.Rules.{Rule}

-- no module has more parameters, or formals, than it may have
abbrev pub HaveFewParams : {P : Type 0} → List (Symbol P) → Type 0
HaveFewParams [] = Unit {0}
HaveFewParams (Module n ps ∷ xs) = (length ps ≤ most_params) × HaveFewParams xs
HaveFewParams (x ∷ xs) = HaveFewParams xs

-- The limits of contexts, predecessor and successor.
pub record IsSmall (r : Rule) : Type 0 where
  pub left : length r.left ≤ most_left
  pub left_params : HaveFewParams r.left
  pub formals : length r.formals ≤ most_params
  pub right : length r.right ≤ most_right
  pub right_params : HaveFewParams r.right
  pub successor : length r.successor ≤ most_successor_symbols
  pub params : HaveFewParams r.successor
