-- Pieces as trees, each with those that are in it.
use Rattle.std.specs.Prelude.{suc, List, [], ◌∷◌, ◌++◌, length, map}
use Rattle.lsys_spec.specs.Lattices.{Lattice}
use Rattle.lsys_lattice.specs.Effects.{Stand, stand_from}
use Rattle.lsys_motion.specs.Pieces.{ImagePiece, single, IsNear}

-- side by side
pub data Trees : Type 0 where
  none : Trees
  symbol : Stand → Trees → Trees  -- one symbol, and what comes after it
  tree : Stand → Trees → Trees → Trees  -- what is in it, and what comes after it

-- the stands before their symbols, one by one
abbrev pub stands_of : Lattice → Trees → List Stand
stands_of l none = []
stands_of l (symbol h rest) = h ∷ stands_of l rest
stands_of l (tree h inner rest) = map (stand_from l h) (stands_of l inner) ++ stands_of l rest

abbrev pub pieces_of : Lattice → Trees → List ImagePiece
pieces_of l none = []
pieces_of l (symbol h rest) = single h ∷ pieces_of l rest
pieces_of l (tree h inner rest) =
    record { symbols = length (stands_of l inner); pieces = suc (length (pieces_of l inner)); start = h } ∷ (pieces_of l inner ++ pieces_of l rest)

abbrev pub beside : Trees → Trees → Trees
beside none more = more
beside (symbol h rest) more = symbol h (beside rest more)
beside (tree h inner rest) more = tree h inner (beside rest more)

-- all of them begin within reach, where they are seen so
abbrev pub AreNear : Lattice → (Stand → Stand) → Trees → Type 0
AreNear l seen none = Unit {0}
AreNear l seen (symbol h rest) = IsNear (seen h) × AreNear l seen rest
AreNear l seen (tree h inner rest) = IsNear (seen h) × AreNear l (λ g. seen (stand_from l h g)) inner × AreNear l seen rest
