use Rattle.std.proofs.Common.{rules, arith}
use Rattle.std.proofs.lemmas.Grind.{elements}
use Rattle.lsys_cli.proofs.step.step_away.Goals as goal

pub returns-in-Edit : goal.returns-in-Edit
returns-in-Edit c = grind (arith, elements)

pub returns-in-Undo : goal.returns-in-Undo
returns-in-Undo c = search rules

pub returns-in-Redo : goal.returns-in-Redo
returns-in-Redo c = search rules
