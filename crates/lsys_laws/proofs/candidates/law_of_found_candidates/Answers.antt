use Rattle.std.proofs.Common.{get_or, [], ap}
use Rattle.lsys_spec.specs.Standings.{touched_there}
use Rattle.lsys_laws.specs.Passes.{module_question}
use Rattle.lsys_laws.proofs.Asked.{none_last, none_came}
use Rattle.lsys_laws.proofs.Found.{old_candidate, all_read, rules_stay}
use Rattle.lsys_laws.proofs.candidates.law_of_found_candidates.Goals as goal

pub returns-clause-new : goal.returns-clause-new
returns-clause-new c old new xs t y p l m e = ap (touched_there old new (get_or xs t []) y (module_question new t y p l m)) e

pub returns-clause-last : goal.returns-clause-last
returns-clause-last c old xs t l h = none_last old xs t l h

pub returns-clause-came : goal.returns-clause-came
returns-clause-came c old xs t l h = none_came old xs t l h

pub returns-clause-old : goal.returns-clause-old
returns-clause-old c old new xs ys t x y p l m was w gx a found = old_candidate old new xs ys t x y p l m was w gx a found

pub returns-clause-read : goal.returns-clause-read
returns-clause-read c x y es = all_read x y es

pub returns-clause-rules : goal.returns-clause-rules
returns-clause-rules c old new t l m s = rules_stay old new t l m s
