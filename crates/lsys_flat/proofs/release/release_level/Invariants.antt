use Rattle.lsys_flat.proofs.Freed.{Releasing}
use Rattle.lsys_flat.proofs.release.release_level.Given as goal

abbrev pub invariant-loop-answer : goal.invariant-loop-answer
invariant-loop-answer g l = Releasing l.fn.store l.store l.fn.answers.items l.yielded l.answer-iterator.rest.items l.answer-iterator.rest.len
