use Rattle.std.proofs.Common.{refl}
use Rattle.lsys_lattice.proofs.Freely.{step_freely, drawn_freely, stops_far, goes_whole, reached_near}
use Rattle.lsys_lattice.proofs.effects.law_of_free_turtles.Goals as goal

pub returns-clause-start : goal.returns-clause-start
returns-clause-start c l = refl

pub returns-clause-step : goal.returns-clause-step
returns-clause-step c = step_freely

pub returns-clause-ends : goal.returns-clause-ends
returns-clause-ends c = drawn_freely

pub returns-clause-far : goal.returns-clause-far
returns-clause-far c = stops_far

pub returns-clause-near : goal.returns-clause-near
returns-clause-near c = goes_whole

pub returns-clause-reach : goal.returns-clause-reach
returns-clause-reach c = reached_near
