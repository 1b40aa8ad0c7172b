use Rattle.lsys_spec.proofs.ContextFree.{children_made, rewritten_append}
use Rattle.lsys_spec.proofs.derivations.law_of_morphisms.Goals as goal

pub returns : goal.returns
returns c = record { level = λ s t h u x. children_made s t h u x 0 0 x; letter_by_letter = rewritten_append }
