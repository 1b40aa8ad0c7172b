use Rattle.std.proofs.Common.{arith}
use Rattle.std.proofs.lemmas.Grind.{elements}
use Rattle.lsys_expr.proofs.evaluation.+tree_value.Goals as goal

pub returns-in_err-tree_value-in-Both-2 : goal.returns-in_err-tree_value-in-Both-2
returns-in_err-tree_value-in-Both-2 t c = grind (arith, elements)
