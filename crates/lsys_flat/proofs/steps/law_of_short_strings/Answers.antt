use Rattle.lsys_flat.proofs.Short.{axiom_short, replacement_short}
use Rattle.lsys_flat.proofs.steps.law_of_short_strings.Goals as goal

pub returns-clause-axioms : goal.returns-clause-axioms
returns-clause-axioms c s w = axiom_short s w

pub returns-clause-replacements : goal.returns-clause-replacements
returns-clause-replacements c s w t x p a ys h = replacement_short s w t x p a ys h
