use Rattle.std.proofs.Common.{drop}
use Rattle.lsys_syntax.specs.Rules.{formal_pieces}
use Rattle.lsys_text.specs.Tokens.{name_of}
use Rattle.lsys_bodies.specs.Counting.{counts_of}
use Rattle.lsys_bodies.proofs.CountLoops.{CountGoes, marked}
use Rattle.lsys_bodies.proofs.many.count_formals.Given as goal

abbrev pub invariant-loop-formal : goal.invariant-loop-formal
invariant-loop-formal l = CountGoes (counts_of l.fn.counter) (marked formal_pieces name_of l.formals) l.counted (marked formal_pieces name_of (drop l._formal-index l.formals))
