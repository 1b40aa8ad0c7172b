use Rattle.std.proofs.Common.{arith}
use Rattle.std.proofs.lemmas.Int.{ints}
use Rattle.lsys_spec.proofs.Turns.{same_vector}
use Rattle.lsys_lattice.proofs.cubic.sum_of.Goals as goal

pub returns : goal.returns
returns c = same_vector _ _ _ _ _ _ (omega (arith, ints)) (omega (arith, ints)) (omega (arith, ints))
