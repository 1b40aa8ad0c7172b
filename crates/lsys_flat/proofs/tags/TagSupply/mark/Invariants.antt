use Rattle.std.proofs.Common.{◌+◌, ◌-◌, length}
use Rattle.lsys_flat.proofs.Tallying.{HasMoreRoom}
use Rattle.lsys_flat.proofs.tags.TagSupply.mark.Given as goal

abbrev pub invariant-loop-self : goal.invariant-loop-self
invariant-loop-self l = HasMoreRoom l.fn.self (record { used = l.self-inside.used.items; next = l.self-inside.next })

abbrev pub decreases-loop-self : goal.decreases-loop-self
decreases-loop-self l = l.place + 1 - length l.self-inside.used.items
