use Rattle.lsys_module.proofs.Padding.{AreWritten}
use Rattle.lsys_module.proofs.params.Params.of.Given as goal

-- the first values are written
abbrev pub invariant-loop-place : goal.invariant-loop-place
invariant-loop-place l = AreWritten l.values l.kept l.place
