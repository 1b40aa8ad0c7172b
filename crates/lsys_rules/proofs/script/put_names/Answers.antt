use Rattle.lsys_rules.proofs.ShownTexts.{bare-names}
use Rattle.lsys_rules.proofs.script.put_names.Goals as goal

pub returns : goal.returns
returns g c = rw (bare-names c.args.names.now) c.put_symbols.ensures
