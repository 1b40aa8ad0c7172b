use Rattle.std.proofs.Common.{◌≡◌, vec_len}
use Rattle.lsys_expr.specs.Frames.{reduced}
use Rattle.lsys_expr.specs.Stacks.{frames_of}
use Rattle.lsys_expr.specs.Trees.{tree_of}
use Rattle.lsys_expr.proofs.frames.reduce.Given as goal

abbrev pub invariant-loop-frame : goal.invariant-loop-frame
invariant-loop-frame l =
    reduced l.least (tree_of l.tree) (frames_of l.frames.items) ≡ reduced l.least (tree_of l.initial.tree) (frames_of l.initial.frames.items)

abbrev pub decreases-loop-frame : goal.decreases-loop-frame
decreases-loop-frame l = vec_len l.frames
