use Rattle.std.proofs.Common.{rules}
use Rattle.lsys_children.proofs.renew.renew_key.Goals as goal

pub returns-then-key_of-key-clause-kept : goal.returns-then-key_of-key-clause-kept
returns-then-key_of-key-clause-kept g c = c.set_key.ensures.kept

pub returns-else-key_of-key-clause-set : goal.returns-else-key_of-key-clause-set
returns-else-key_of-key-clause-set g c = search rules
