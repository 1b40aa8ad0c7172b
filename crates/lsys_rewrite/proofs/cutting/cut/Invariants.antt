use Rattle.lsys_rewrite.proofs.CutPlaces.{Cutting}
use Rattle.lsys_rewrite.proofs.cutting.cut.Given as goal

-- the symbols so far were read
abbrev pub invariant-loop-place : goal.invariant-loop-place
invariant-loop-place l = Cutting l.initial.symbols l.symbols l.kept l.place l.len l.cutting
