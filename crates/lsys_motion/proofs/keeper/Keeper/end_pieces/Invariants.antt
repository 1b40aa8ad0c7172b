use Rattle.std.proofs.Common.{List, length}
use Rattle.std.specs.Prelude.{ℤ}
use Rattle.lsys_syntax.specs.Strings as S
use Rattle.lsys_motion.specs.Keepers.{Keeps}
use Rattle.lsys_motion.proofs.keeper.Keeper.end_pieces.Given as goal

-- what was underway still is
abbrev pub invariant-pieces : goal.invariant-pieces
invariant-pieces g l = (rest : List (S.Symbol ℤ)) → Keeps g.T.Lattice.shape rest rest l.initial.self l.self

abbrev pub decreases-pieces : goal.decreases-pieces
decreases-pieces g l = length l.self.marks
