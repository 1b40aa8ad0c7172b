use Rattle.std.proofs.Common.{arith}
use Rattle.std.proofs.lemmas.Grind.{elements}
use Rattle.lsys_reads.proofs.seats.Seats.seat.Goals as goal

pub returns-clause-seats : goal.returns-clause-seats
returns-clause-seats g c = grind (arith, elements)

pub returns-clause-marks : goal.returns-clause-marks
returns-clause-marks g c = grind (arith, elements)
