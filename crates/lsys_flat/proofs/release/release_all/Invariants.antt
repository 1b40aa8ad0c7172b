use Rattle.lsys_flat.proofs.Freed.{ReleasingAll}
use Rattle.lsys_flat.proofs.release.release_all.Given as goal

abbrev pub invariant-loop-answers : goal.invariant-loop-answers
invariant-loop-answers g l = ReleasingAll l.fn.store l.store l.fn.levels.items l.yielded l.answers-iterator.rest.items l.answers-iterator.rest.len
