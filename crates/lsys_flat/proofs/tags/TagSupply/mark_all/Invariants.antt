use Rattle.std.proofs.Common.{take}
use Rattle.lsys_flat.specs.Supplies.{MarksAll}
use Rattle.lsys_flat.proofs.tags.TagSupply.mark_all.Given as goal

abbrev pub invariant-loop-tag : goal.invariant-loop-tag
invariant-loop-tag l = MarksAll (take l.tag-index l.tags) l.fn.self l.self
