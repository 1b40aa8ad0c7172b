use Rattle.std.proofs.Common.{List, length}
use Rattle.std.specs.Prelude.{ℤ}
use Rattle.lsys_syntax.specs.Strings as S
use Rattle.lsys_motion.specs.Keepers.{HasTaken}
use Rattle.lsys_motion.proofs.keeper.Keeper.finish.Given as goal

-- what was taken still is
abbrev pub invariant-open : goal.invariant-open
invariant-open g l = (total front : List (S.Symbol ℤ)) → HasTaken g.T.Lattice.shape total front l.initial.self → HasTaken g.T.Lattice.shape total front l.self

abbrev pub decreases-open : goal.decreases-open
decreases-open g l = length l.self.marks
