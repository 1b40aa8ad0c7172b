use Rattle.lsys_module.specs.Building.{draft_of}
use Rattle.lsys_module.proofs.BuildSteps.{IsReading}
use Rattle.lsys_module.proofs.build.build_string.Given as goal

-- the tokens so far are read
abbrev pub invariant-loop-place : goal.invariant-loop-place
invariant-loop-place l = IsReading l.from l.tokens l.place (draft_of l.builder)
