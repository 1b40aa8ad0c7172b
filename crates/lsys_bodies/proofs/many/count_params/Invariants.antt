use Rattle.std.proofs.Common.{drop}
use Rattle.lsys_syntax.specs.Tokens.{Kind}
use Rattle.lsys_syntax.specs.Expressions.{expr_pieces}
use Rattle.lsys_reading.specs.Spans.{AreSpans, expr_at}
use Rattle.lsys_bodies.specs.Counting.{counts_of}
use Rattle.lsys_bodies.proofs.CountLoops.{CountGoes, marked}
use Rattle.lsys_bodies.proofs.many.count_params.Given as goal
use Rattle.std.proofs.Common.{List}

abbrev pub invariant-loop-param : goal.invariant-loop-param
invariant-loop-param l = (ks : List Kind) → AreSpans ks l.params → CountGoes (counts_of l.fn.counter) (marked expr_pieces (expr_at ks) l.params) l.counted (marked expr_pieces (expr_at ks) (drop l.param-index l.params))
