use Rattle.lsys_flat.proofs.Limiting.{begins_over, goes_over, refused}
use Rattle.lsys_flat.proofs.steps.law_of_meanings.Goals as goal

pub returns-clause-begins_over : goal.returns-clause-begins_over
returns-clause-begins_over c s limit h = begins_over s limit h

pub returns-clause-goes_over : goal.returns-clause-goes_over
returns-clause-goes_over c s limit t xs x m n h l = goes_over s limit t xs x m n h l

pub returns-clause-refused : goal.returns-clause-refused
returns-clause-refused c s limit t xs e m n l = refused s limit t xs e m n l
