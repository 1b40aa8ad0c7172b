use Rattle.std.proofs.Common.{arith}
use Rattle.lsys_growth.proofs.Lengths.{length_counts}
use Rattle.lsys_growth.proofs.laws.law_of_lengths.Goals as goal

pub returns : goal.returns
returns c = λ ns xs a h k b. let e = length_counts ns a 0 xs h k b in omega (arith, e)
