use Rattle.lsys_hom.proofs.Runs.{law_front, law_refused, law_stays, law_symbols, law_whole}
use Rattle.lsys_hom.proofs.law.law_of_images.Goals as goal

pub returns-clause-whole : goal.returns-clause-whole
returns-clause-whole c = law_whole

pub returns-clause-front : goal.returns-clause-front
returns-clause-front c = law_front

pub returns-clause-symbols : goal.returns-clause-symbols
returns-clause-symbols c = law_symbols

pub returns-clause-refused : goal.returns-clause-refused
returns-clause-refused c = law_refused

pub returns-clause-stays : goal.returns-clause-stays
returns-clause-stays c = law_stays
