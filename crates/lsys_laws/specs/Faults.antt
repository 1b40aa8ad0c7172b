-- The first fault from the left.
use Rattle.std.specs.Prelude.{◌≡◌, ℤ, Ok, Err, List, [], ◌∷◌, ◌++◌}
use Rattle.lsys_syntax.specs.Strings as S
use Rattle.lsys_spec.specs.Systems.{Each}
use Rattle.lsys_spec.specs.Values.{Tree, Arith, value}

abbrev pub HasValue : List ℤ → Tree → Type 0
HasValue bound t = (z : ℤ) × (value t bound ≡ Ok z)

-- of these trees one has this fault, and those before it have values
pub record IsFirstFault (bound : List ℤ) (trees : List Tree) (fault : Arith) : Type 0 where
  pub before : List Tree
  pub faulty : Tree
  pub after : List Tree
  pub all : trees ≡ before ++ faulty ∷ after
  pub fine : Each (HasValue bound) before
  pub fails : value faulty bound ≡ Err fault

-- the parameters of a successor, from left to right
abbrev pub all_params : List (S.Symbol Tree) → List Tree
all_params [] = []
all_params (S.Module n ts ∷ xs) = ts ++ all_params xs
all_params (S.Push ∷ xs) = all_params xs
all_params (S.Pop ∷ xs) = all_params xs
all_params (S.Cut ∷ xs) = all_params xs
