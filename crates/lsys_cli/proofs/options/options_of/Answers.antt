use Rattle.std.proofs.Common.{arith}
use Rattle.std.proofs.lemmas.Grind.{common_steps}
use Rattle.lsys_cli.proofs.options.options_of.Goals as goal

pub returns-then-not-is_in_grammar-clause-options : goal.returns-then-not-is_in_grammar-clause-options
returns-then-not-is_in_grammar-clause-options c = grind (arith, common_steps)
