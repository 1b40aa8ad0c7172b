use Rattle.std.proofs.Common.{arith}
use Rattle.std.proofs.lemmas.Grind.{elements}
use Rattle.lsys_reads.proofs.seats.Seats.mark.Goals as goal

pub returns-clause-new : goal.returns-clause-new
returns-clause-new c = grind (arith, elements)

pub returns-clause-others : goal.returns-clause-others
returns-clause-others c = grind (arith, elements)

pub returns-clause-marked : goal.returns-clause-marked
returns-clause-marked c = grind (arith, elements)

pub returns-clause-seats : goal.returns-clause-seats
returns-clause-seats c = grind (arith, elements)
