use Rattle.std.proofs.Common.{[], take, map}
use Rattle.lsys_flat.specs.Supplies.{MarksAll}
use Rattle.lsys_flat.specs.Lines.{line_of}
use Rattle.lsys_flat.proofs.Marking.{all_tags}
use Rattle.lsys_flat.proofs.revision.Revision.new.Given as goal

abbrev pub invariant-loop-ancestry : goal.invariant-loop-ancestry
invariant-loop-ancestry l = MarksAll (all_tags (map line_of (take l.ancestry-index l.olds))) (record { used = []; next = 0 }) l.supply
