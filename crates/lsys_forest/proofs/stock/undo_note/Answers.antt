use Rattle.std.proofs.Common.{arith}
use Rattle.std.proofs.lemmas.Grind.{elements}
use Rattle.lsys_forest.proofs.stock.undo_note.Goals as goal

pub returns-in-Answer-clause-released : goal.returns-in-Answer-clause-released
returns-in-Answer-clause-released g c = grind (arith, elements)
