use Rattle.std.proofs.Common.{arith}
use Rattle.lsys_laws.proofs.Lookups.{kept_there, all_present}
use Rattle.lsys_laws.proofs.needs.law_of_kept_questions.Goals as goal

pub returns-clause-kept : goal.returns-clause-kept
returns-clause-kept c s levels h t l = kept_there s 0 t levels t l (omega arith) h

pub returns-clause-level : goal.returns-clause-level
returns-clause-level c s t x = all_present s t x 0 x
