use Rattle.std.proofs.Common.{None, arith}
use Rattle.lsys_spec.proofs.Cutting.{cut_balanced}
use Rattle.lsys_spec.proofs.levels.law_of_balanced_cuts.Goals as goal

pub returns : goal.returns
returns c x h = cut_balanced x None 0 0 (omega arith) h
