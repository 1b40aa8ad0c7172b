use Rattle.std.proofs.Common.{arith}
use Rattle.std.proofs.lemmas.Int.{ints}
use Rattle.lsys_spec.proofs.Turns.{same_vector}
use Rattle.lsys_lattice.proofs.hexagonal.HexagonalLattice.carry.Goals as goal

pub returns-in-East : goal.returns-in-East
returns-in-East c = rw c.in-East.is (same_vector _ _ _ _ _ _ (omega (arith, ints)) (omega (arith, ints)) (omega (arith, ints)))

pub returns-in-NorthEast : goal.returns-in-NorthEast
returns-in-NorthEast c = rw c.in-NorthEast.is (same_vector _ _ _ _ _ _ (omega (arith, ints)) (omega (arith, ints)) (omega (arith, ints)))

pub returns-in-NorthWest : goal.returns-in-NorthWest
returns-in-NorthWest c = rw c.in-NorthWest.is (same_vector _ _ _ _ _ _ (omega (arith, ints)) (omega (arith, ints)) (omega (arith, ints)))

pub returns-in-West : goal.returns-in-West
returns-in-West c = rw c.in-West.is (same_vector _ _ _ _ _ _ (omega (arith, ints)) (omega (arith, ints)) (omega (arith, ints)))

pub returns-in-SouthWest : goal.returns-in-SouthWest
returns-in-SouthWest c = rw c.in-SouthWest.is (same_vector _ _ _ _ _ _ (omega (arith, ints)) (omega (arith, ints)) (omega (arith, ints)))

pub returns-in-SouthEast : goal.returns-in-SouthEast
returns-in-SouthEast c = rw c.in-SouthEast.is (same_vector _ _ _ _ _ _ (omega (arith, ints)) (omega (arith, ints)) (omega (arith, ints)))
