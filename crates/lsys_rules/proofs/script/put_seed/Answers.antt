use Rattle.lsys_rules.proofs.ShownTexts.{seed-line}
use Rattle.lsys_rules.proofs.script.put_seed.Goals as goal

pub returns : goal.returns
returns g c = rw (seed-line c.args.seed) c.put_number_line.ensures
