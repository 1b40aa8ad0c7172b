use Rattle.std.proofs.Common.{arith}
use Rattle.std.proofs.lemmas.Int.{ints}
use Rattle.lsys_spec.proofs.Turns.{same_vector}
use Rattle.lsys_lattice.proofs.square.SquareLattice.carry.Goals as goal

pub returns-in-North : goal.returns-in-North
returns-in-North c = rw c.in-North.is (same_vector _ _ _ _ _ _ (omega (arith, ints)) (omega (arith, ints)) (omega (arith, ints)))

pub returns-in-West : goal.returns-in-West
returns-in-West c = rw c.in-West.is (same_vector _ _ _ _ _ _ (omega (arith, ints)) (omega (arith, ints)) (omega (arith, ints)))

pub returns-in-South : goal.returns-in-South
returns-in-South c = rw c.in-South.is (same_vector _ _ _ _ _ _ (omega (arith, ints)) (omega (arith, ints)) (omega (arith, ints)))

pub returns-in-East : goal.returns-in-East
returns-in-East c = rw c.in-East.is (same_vector _ _ _ _ _ _ (omega (arith, ints)) (omega (arith, ints)) (omega (arith, ints)))
