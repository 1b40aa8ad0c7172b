use Rattle.lsys_module.specs.Building.{Draft}
use Rattle.lsys_module.specs.Counting.{CountsDraft}
use Rattle.lsys_module.proofs.BuildSteps.{IsReading}
use Rattle.lsys_module.proofs.limits.first_many.Given as goal

-- the tokens so far are read, and counted
abbrev pub invariant-loop-place : goal.invariant-loop-place
invariant-loop-place l = (d : Draft) × IsReading l.from l.tokens l.place d × CountsDraft d l.counter
