use Rattle.std.proofs.Common.{arith}
use Rattle.std.proofs.lemmas.Grind.{elements}
use Rattle.lsys_hom.proofs.part.Part.of_module.Goals as goal

pub returns-in_err-check_templates-in-Some : goal.returns-in_err-check_templates-in-Some
returns-in_err-check_templates-in-Some c = grind (arith, elements)

pub returns-in_ok-check_templates-in-Some : goal.returns-in_ok-check_templates-in-Some
returns-in_ok-check_templates-in-Some c = grind (arith, elements)
