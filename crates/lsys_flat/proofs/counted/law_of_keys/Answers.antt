use Rattle.lsys_flat.proofs.Keys.{all_keyed}
use Rattle.lsys_flat.proofs.counted.law_of_keys.Goals as goal

pub returns : goal.returns
returns c = all_keyed
