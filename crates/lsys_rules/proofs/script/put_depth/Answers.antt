use Rattle.lsys_rules.proofs.ShownTexts.{depth-line}
use Rattle.lsys_rules.proofs.script.put_depth.Goals as goal

pub returns : goal.returns
returns g c = rw (depth-line c.args.depth, ← c.from.ensures) c.put_number_line.ensures
