use Rattle.std.proofs.Common.{sym, ap, ◌∙◌, length}
use Rattle.std.specs.Prelude.{sum_by}
use Rattle.std.proofs.lemmas.List.Sums.{length-filter}
use Rattle.lsys_spec.specs.Questions.{questions, is_needed}
use Rattle.lsys_laws.proofs.NeedsByLevels.{of_levels, visits_of}
use Rattle.lsys_laws.proofs.needs.law_of_needs_by_levels.Goals as goal

pub returns-clause-questions : goal.returns-clause-questions
returns-clause-questions c old new xs ys h = of_levels old new xs h 0 ys

pub returns-clause-need : goal.returns-clause-need
returns-clause-need c old new xs ys h = sym (length-filter (is_needed (questions old xs)) (questions new ys)) ∙ ap length (of_levels old new xs h 0 ys)

pub returns-clause-visits : goal.returns-clause-visits
returns-clause-visits c old new xs ys h = visits_of (questions old xs) (questions new ys) ∙ ap (sum_by (λ q. length q.trace)) (of_levels old new xs h 0 ys)
