use Rattle.lsys_bodies.proofs.Counted.{InsideOf}
use Rattle.lsys_bodies.proofs.counter.RuleCounts.tokens_inside.Given as goal

abbrev pub invariant-loop-done : goal.invariant-loop-done
invariant-loop-done l = InsideOf l.fn.self l.params l.size l.tokens l.done
