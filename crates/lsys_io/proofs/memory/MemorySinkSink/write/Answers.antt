use Rattle.std.proofs.Common.{rules, inl, inr, refl}
use Rattle.lsys_io.proofs.memory.MemorySinkSink.write.Goals as goal
use Rattle.lsys_io.proofs.memory.MemorySinkSink.write.Goals.{then-listed-via-then-listed, then-listed-via-else-listed+then-count-eq0}

pub returns-then-listed-clause-fails_exactly_at_listed_or_full :
    goal.returns-then-listed-clause-fails_exactly_at_listed_or_full
returns-then-listed-clause-fails_exactly_at_listed_or_full c = (
  λ _. elim c.then-listed.branch [
    | then-listed-via-then-listed w ↦ inl (rw (← c.self.view_is, ← c.deref.ensures.value) (c.fails_now-listed.ensures.listed.0 w.if-listed.true))
    | then-listed-via-else-listed+then-count-eq0 w ↦ inr (search rules)
  ],
  λ _. refl,
)
