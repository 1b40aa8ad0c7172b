use Rattle.std.proofs.Common.{◌∙◌}
use Rattle.std.proofs.Math.Facts.{to_z-of_z}
use mir.Syntax.{w128}
use Rattle.lsys_spec.proofs.Turns.{same_vector}
use Rattle.lsys_motion.proofs.survey.greatest.Goals as goal

pub returns : goal.returns
returns c =
    same_vector _ _ _ _ _ _ (to_z-of_z {w = w128} {z = c.greater.result} (record { sfits = c.greater.type_inv }) ∙ c.greater.ensures) (to_z-of_z {w = w128} {z = c.greater-2.result} (record { sfits = c.greater-2.type_inv }) ∙ c.greater-2.ensures)
    (to_z-of_z {w = w128} {z = c.greater-3.result} (record { sfits = c.greater-3.type_inv }) ∙ c.greater-3.ensures)
