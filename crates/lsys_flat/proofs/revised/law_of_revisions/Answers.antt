use Rattle.lsys_flat.proofs.Adding.{across, next_olds}
use Rattle.lsys_flat.proofs.Together.{named_together, keyed}
use Rattle.lsys_flat.proofs.revised.law_of_revisions.Goals as goal

pub returns-clause-next : goal.returns-clause-next
returns-clause-next c seed xs ys r h = next_olds seed xs ys r h

pub returns-clause-tags : goal.returns-clause-tags
returns-clause-tags c seed xs ys r h = across seed xs ys r h

pub returns-clause-named : goal.returns-clause-named
returns-clause-named c before seed xs ys r h = named_together before seed xs ys r h

pub returns-clause-keys : goal.returns-clause-keys
returns-clause-keys c seed xs ys r h naming t p l m e g = keyed seed xs ys r h naming t p l m e g
