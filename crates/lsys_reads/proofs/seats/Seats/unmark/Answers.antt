use Rattle.std.proofs.Common.{arith}
use Rattle.std.proofs.lemmas.Grind.{elements}
use Rattle.lsys_reads.proofs.seats.Seats.unmark.Goals as goal

pub returns-clause-cleared : goal.returns-clause-cleared
returns-clause-cleared c = grind (arith, elements)

pub returns-clause-seats : goal.returns-clause-seats
returns-clause-seats c = grind (arith, elements)

pub returns-clause-others : goal.returns-clause-others
returns-clause-others c = grind (arith, elements)
