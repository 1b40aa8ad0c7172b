use Rattle.lsys_flat.specs.Answers.{lists_of}
use Rattle.lsys_flat.proofs.Moved.{Going}
use Rattle.lsys_flat.proofs.taking.move_all.Given as goal

abbrev pub invariant-loop-level : goal.invariant-loop-level
invariant-loop-level g l = Going (lists_of l.fn.olds) (lists_of l.fn.fresh) (lists_of l.taken) l.level (lists_of l.olds) (lists_of l.fresh)
